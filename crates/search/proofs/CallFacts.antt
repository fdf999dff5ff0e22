-- A whole call's outcome, one fact for each way out.
use mathlib.Core.Path.{◌≡◌, refl, sym, ap, ◌∙◌}
use mathlib.Core.Bool.{Bool, true, false, cond, not}
use mathlib.Core.List.{List, [], ◌∷◌, ◌++◌, append_assoc}
use Prim.Native.Nat.{ℕ, ◌+◌}
use native.Mathlib.Omega.{arith}
use lib.ListN.{take, replicate}
use borrow.Author.Tests.{not-true}
use Rattle.numbers.specs.Numbers.{success, repeated, unreached, unfinished}
use Rattle.numbers.specs.Refusals.{Refusal, ◌gives◌, first}
use Rattle.numbers.proofs.First.{first_append, first_append_stop, first_each}
use Rattle.lists.specs.Lists.{overlay, elem}
use Rattle.graph.specs.Graph.{rows_of}
use Rattle.graph.specs.File.{edge_count}
use Rattle.graph.specs.Read.{ReadAnswer, header_refusals, scan_refusals, chain_refusals}
use Rattle.graph.specs.Steps.{Unchained}
use Rattle.graph.proofs.UnchainFacts.{marks_clear, starts_kept, ends_kept, starts_written, ends_written, rows_graph, rows_ground, starts_there, ends_there}
use Rattle.schedule.specs.Check.{schedule_refusals}
use Rattle.schedule.proofs.Schedules.{schedule_passed}
use Rattle.model.specs.Play.{play}
use Rattle.model.specs.Call.{Lent, Lengths, lengths_of, early_refusals, Outcome, node_places, run_of, input_refusals, search_refusals, search_number, plays, outcome_of_search}
use Rattle.model.proofs.Calls.{early_positive, call_parts, call_accepted, call_number, call_played, call_refused}
use Rattle.model.specs.Call.{Answer}
use Rattle.search.specs.Played.{refused_with, Playable, PlayedOut}
use Rattle.search.specs.Input.{early_answer}
use Rattle.search.specs.Promise.{lent_lists, search_exit}
use Rattle.search.proofs.JudgeFacts.{Passed, early_number, early_passed}

-- Numbers.

-- a refusal before the chains' plays nothing and leaves the marks as they were
early_plays : (file : List ℕ) (source P : ℕ) (schedule : List ℕ) (lengths : Lengths) → let k = first (early_refusals file source P schedule lengths) in
    (k ≡ 0 → ⊥) → (plays k ≡ false) × (elem k (repeated ∷ unreached ∷ []) ≡ false)
unfolding early_refusals header_refusals scan_refusals schedule_refusals plays elem
early_plays file source P schedule lengths h =
    let l = early_refusals file source P schedule lengths in (
      not-true (plays (first l)) (first_each (λ (k : ℕ). not (plays k)) l refl h),
      not-true (elem (first l) (repeated ∷ unreached ∷ [])) (first_each (λ (k : ℕ). not (elem k (repeated ∷ unreached ∷ []))) l refl h),
    )

-- a refusal of the chains' plays nothing and clears the marks
chain_plays : (file : List ℕ) → let k = first (chain_refusals file) in (k ≡ 0 → ⊥) → (plays k ≡ false) × (elem k (repeated ∷ unreached ∷ []) ≡ true)
unfolding chain_refusals plays elem
chain_plays file h =
    let l = chain_refusals file in
    (not-true (plays (first l)) (first_each (λ (k : ℕ). not (plays k)) l refl h), first_each (λ (k : ℕ). elem k (repeated ∷ unreached ∷ [])) l refl h)

-- a run's number is that of a call that plays
run_plays : (b : Bool) → plays (cond b success unfinished) ≡ true
unfolding plays elem
run_plays true = refl
run_plays false = refl

-- The ways out.
module _ (file : List ℕ) (source P : ℕ) (schedule : List ℕ) (lent : Lent) where
  -- the tests before the chains are walked
  abbrev early : List Refusal
  early = early_refusals file source P schedule (lengths_of lent)

  -- the test on the run
  abbrev last : List Refusal
  last = not (run_of file source P schedule).state.finished gives unfinished ∷ []

  -- the call's number
  abbrev number : ℕ
  number = search_number file source P schedule lent

  -- the tests before the chains are walked come first, then those of the chains
  input_parts : input_refusals file source P schedule lent ≡ early ++ chain_refusals file
  unfolding input_refusals
  input_parts = refl

  -- then that of the run
  number_parts : number ≡ first ((early ++ chain_refusals file) ++ last)
  unfolding search_number search_refusals
  number_parts = ap (λ (l : List Refusal). first (l ++ last)) input_parts

  -- the outcome of a refusal, with these marks
  abbrev refused_exit : ℕ → List ℕ → Outcome
  refused_exit k marks = search_exit (refused_with k)
      (lent_lists lent.offsets lent.targets marks lent.distances lent.parents lent.histogram lent.left lent.right lent.values)

  -- a number that plays nothing has that outcome
  refused_outcome : {k : ℕ} (b : Bool) {marks : List ℕ} → number ≡ k → plays k ≡ false → elem k (repeated ∷ unreached ∷ []) ≡ b
      → marks ≡ cond b (overlay (replicate (edge_count file) 0) lent.marks) lent.marks → refused_exit k marks ≡ outcome_of_search file source P schedule lent
  refused_outcome {k} b e p q m =
      let over : List ℕ = overlay (replicate (edge_count file) 0) lent.marks in
      ap (λ (l : List ℕ). refused_exit k l) (m ∙ ap (λ (x : Bool). cond x over lent.marks) (sym q))
      ∙ ap (λ (x : ℕ). refused_exit x (cond (elem x (repeated ∷ unreached ∷ [])) over lent.marks)) (sym e)
      ∙ sym (call_refused file source P schedule lent (ap plays e ∙ p))

  module _ {head : ReadAnswer} (judged : head ≡ early_answer file source P schedule (lengths_of lent)) where
    -- a refusal before the chains are walked
    pub search_early : (head.number ≡ 0 → ⊥) → search_exit (refused_with head.number) lent ≡ outcome_of_search file source P schedule lent
    search_early h =
        let k = first early in
        let same : head.number ≡ k = early_number file source P schedule (lengths_of lent) judged in
        let found : k ≡ 0 → ⊥ = λ z. h (same ∙ z) in
        let stopped : first (early ++ chain_refusals file) ≡ k = first_append_stop early (chain_refusals file) (omega arith) in
        let none = early_plays file source P schedule (lengths_of lent) found in
        let all : number ≡ k = number_parts ∙ first_append_stop (early ++ chain_refusals file) last (omega arith) ∙ stopped in
        ap (λ (x : Answer). search_exit x lent) (ap refused_with same) ∙ refused_outcome false all none.0 none.1 refl

    module _ (passed : head.number ≡ 0) where
      -- what the judgement tells
      abbrev told : Passed file source P schedule (lengths_of lent) head
      told = early_passed file source P schedule (lengths_of lent) judged passed

      -- the number is that of the chains, or of the run
      number_later : number ≡ first (chain_refusals file ++ last)
      number_later =
          number_parts
          ∙ ap first (append_assoc early (chain_refusals file) last)
          ∙ first_append early (chain_refusals file ++ last) (early_positive file source P schedule lent) told.none

      module _ {k : ℕ} {offsets' targets' marks' : List ℕ}
          (walked : Unchained file head.edges k lent.offsets lent.targets lent.marks offsets' targets' marks') where
        -- a refusal of the chains
        pub search_chains : (k ≡ 0 → ⊥) → search_exit (refused_with k) (lent_lists offsets' targets' marks' lent.distances lent.parents lent.histogram lent.left lent.right lent.values)
            ≡ outcome_of_search file source P schedule lent
        search_chains h =
            let same = walked.judged in
            let found : first (chain_refusals file) ≡ 0 → ⊥ = λ z. h (same ∙ z) in
            let none = chain_plays file found in
            let all : number ≡ first (chain_refusals file) = number_later ∙ first_append_stop (chain_refusals file) last (omega arith) in
            let starts = starts_kept told.scanned walked h in
            let ends = ends_kept told.scanned walked h in
            (λ i. search_exit (refused_with (same i))
            (lent_lists (starts i) (ends i) marks' lent.distances lent.parents lent.histogram lent.left lent.right lent.values))
            ∙ refused_outcome true all none.0 none.1 (marks_clear told.scanned walked)

        module _ (whole : k ≡ 0) where
          -- every test on the input is passed
          input_passed : first (input_refusals file source P schedule lent) ≡ 0
          input_passed = ap first input_parts ∙ first_append early (chain_refusals file) (early_positive file source P schedule lent) told.none ∙ sym walked.judged ∙ whole

          -- a run may start
          pub search_playable : Playable head.vertices head.edges source P schedule offsets' targets' lent.distances lent.parents lent.histogram
              lent.left lent.right lent.values
          search_playable =
              let long = told.long in
              record {
                rows = rows_ground told.scanned walked whole;
                accepted = rw (rows_graph told.scanned walked whole) (call_accepted file source P schedule lent input_passed);
                few_events = (schedule_passed schedule P (call_parts file source P schedule lent input_passed).schedule_tests).few_events;
                offsets_there = starts_there told.scanned walked whole;
                targets_there = ends_there told.scanned walked whole;
                distances_there = long.distances_there;
                parents_there = long.parents_there;
                histogram_there = long.histogram_there;
                left_there = long.left_there;
                right_there = long.right_there;
                values_there = long.values_there;
              }

          -- a run was played
          pub search_played : {distances' parents' histogram' left' right' values' : List ℕ} {r : Answer}
              → PlayedOut (play (rows_of (take (head.vertices + 1) offsets') (take head.edges targets')) source P schedule) (node_places head.vertices P)
              lent.distances lent.parents lent.histogram lent.left lent.right lent.values distances' parents' histogram' left' right' values' r
              → search_exit r (lent_lists offsets' targets' marks' distances' parents' histogram' left' right' values') ≡ outcome_of_search file source P schedule lent
          unfolding run_of
          search_played out =
              let out' = rw (rows_graph told.scanned walked whole, told.scanned.sized.vertices) at out in
              let starts = starts_written told.scanned walked whole in
              let ends = ends_written told.scanned walked whole in
              let clear = marks_clear told.scanned walked in
              let decided = call_number file source P schedule lent input_passed in
              let answered = out'.told.number ∙ sym decided in
              (λ i. record {
                answer = record { number = answered i; used = out'.told.used i; effective = out'.told.effective i; layer = out'.told.layer i };
                lent = lent_lists (starts i) (ends i) (clear i) (out'.labelled i) (out'.named i) (out'.counted i)
                    (out'.left_clear i) (out'.right_clear i) (out'.values_clear i);
              })
              ∙ sym (call_played file source P schedule lent (ap plays decided ∙ run_plays (run_of file source P schedule).state.finished))

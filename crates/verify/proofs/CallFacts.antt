-- A whole call's outcome, one fact for each way out.
use mathlib.Core.Path.{◌≡◌, refl, sym, ap, ◌∙◌}
use mathlib.Core.Bool.{Bool, true, false, not}
use mathlib.Core.List.{List, [], ◌∷◌, ◌++◌, append_assoc}
use Prim.Native.Nat.{ℕ, ◌+◌}
use native.Mathlib.Omega.{arith}
use lib.ListN.{take, replicate}
use lib.Seq.{length-take-le}
use borrow.Author.Tests.{not-true}
use Rattle.numbers.specs.Numbers.{success, bad_result}
use Rattle.numbers.specs.Refusals.{Refusal, ◌gives◌, first}
use Rattle.numbers.proofs.First.{first_stop, first_skip, first_append, first_append_stop, first_each}
use Rattle.lists.specs.Lists.{overlay, elem}
use Rattle.graph.specs.Graph.{offsets_of, targets_of, rows_of}
use Rattle.graph.specs.File.{vertex_count, edge_count, graph_of}
use Rattle.graph.specs.Read.{header_refusals, scan_refusals, chain_refusals, clears_marks}
use Rattle.graph.specs.Steps.{Unchained}
use Rattle.graph.specs.Read.{ReadAnswer}
use Rattle.graph.proofs.UnchainFacts.{marks_clear, starts_kept, ends_kept, starts_written, ends_written, rows_graph, rows_ground, starts_there, ends_there}
use Rattle.model.specs.Words.{labels_in}
use Rattle.verify.specs.Certificate.{result_wrong}
use Rattle.verify.specs.Check.{CheckLent, CheckLengths, lent_lengths, check_early, check_input, check_refusals, check_number, judges, lent_after_check, CheckOutcome, outcome_of_check}
use Rattle.verify.specs.Promise.{lent_lists, check_exit, Judged}
use Rattle.verify.specs.Steps.{early_answer, CheckableIn}
use Rattle.verify.proofs.JudgeFacts.{EarlyPassed, early_number, early_passed}
use Rattle.verify.proofs.Judging.{early_positive, check_judged}

-- Numbers.

-- with a refusal before the chains' no result is looked at, and no list is changed
early_keeps : (file : List ℕ) (source : ℕ) (lengths : CheckLengths) (lent : CheckLent) → let k = first (check_early file source lengths) in
    (k ≡ 0 → ⊥) → lent_after_check k file lent ≡ lent
unfolding check_early header_refusals scan_refusals judges clears_marks elem lent_after_check
early_keeps file source lengths lent h =
    let l = check_early file source lengths in
    let unjudged = not-true (judges (first l)) (first_each (λ (k : ℕ). not (judges k)) l refl h) in
    let marked = not-true (clears_marks (first l)) (first_each (λ (k : ℕ). not (clears_marks k)) l refl h) in
    rw (unjudged, marked)

-- with a refusal of the chains no result is looked at, and the marks are cleared
chains_clear : (file : List ℕ) (lent : CheckLent) → let k = first (chain_refusals file) in
    (k ≡ 0 → ⊥) → lent_after_check k file lent ≡ lent_lists lent.offsets lent.targets (overlay (replicate (edge_count file) 0) lent.marks)
unfolding chain_refusals judges clears_marks elem lent_after_check
chains_clear file lent h =
    let l = chain_refusals file in
    let unjudged = not-true (judges (first l)) (first_each (λ (k : ℕ). not (judges k)) l refl h) in
    let marked = first_each clears_marks l refl h in
    rw (unjudged, marked)

-- The ways out.
module _ (file : List ℕ) (source : ℕ) (distances parents : List ℕ) (lent : CheckLent) where
  -- the tests before the chains are walked
  abbrev early : List Refusal
  early = check_early file source (lent_lengths distances parents lent)

  -- whether the result is wrong
  abbrev wrong : Bool
  wrong = result_wrong (graph_of file) source (labels_in (vertex_count file) distances parents)

  -- the test of the result
  abbrev last : List Refusal
  last = wrong gives bad_result ∷ []

  -- the call's number
  abbrev number : ℕ
  number = check_number file source distances parents lent

  -- the tests before the chains are walked come first, then those of the chains, then that of the result
  number_parts : number ≡ first ((early ++ chain_refusals file) ++ last)
  unfolding check_number check_refusals check_input
  number_parts = refl

  -- an outcome by its number and its lists
  outcome_by : {k : ℕ} {after : CheckLent} → number ≡ k → lent_after_check k file lent ≡ after → check_exit k after ≡ outcome_of_check file source distances parents lent
  unfolding outcome_of_check
  outcome_by {k} e l = ap (λ (x : CheckLent). check_exit k x) (sym l) ∙ ap (λ (x : ℕ). check_exit x (lent_after_check x file lent)) (sym e)

  -- all that is promised follows from the outcome
  pub call_judged : {r : ℕ} {after : CheckLent} → check_exit r after ≡ outcome_of_check file source distances parents lent → Judged file source distances parents lent r
  unfolding outcome_of_check
  call_judged e = check_judged file source distances parents lent (ap (λ (x : CheckOutcome). x.number) e)

  module _ {head : ReadAnswer} (judged : head ≡ early_answer file source (lent_lengths distances parents lent)) where
    -- a refusal before the chains are walked
    pub check_early_lem : (head.number ≡ 0 → ⊥) → check_exit head.number lent ≡ outcome_of_check file source distances parents lent
    check_early_lem h =
        let k = first early in
        let same : head.number ≡ k = early_number file source (lent_lengths distances parents lent) judged in
        let found : k ≡ 0 → ⊥ = λ z. h (same ∙ z) in
        let stopped : first (early ++ chain_refusals file) ≡ k = first_append_stop early (chain_refusals file) (omega arith) in
        let all : number ≡ k = number_parts ∙ first_append_stop (early ++ chain_refusals file) last (omega arith) ∙ stopped in
        ap (λ (x : ℕ). check_exit x lent) same ∙ outcome_by all (early_keeps file source (lent_lengths distances parents lent) lent found)

    module _ (passed : head.number ≡ 0) where
      -- what the judgement tells
      abbrev told : EarlyPassed file source (lent_lengths distances parents lent) head
      told = early_passed file source (lent_lengths distances parents lent) judged passed

      -- the number is that of the chains, or of the result
      number_later : number ≡ first (chain_refusals file ++ last)
      number_later =
          number_parts
          ∙ ap first (append_assoc early (chain_refusals file) last)
          ∙ first_append early (chain_refusals file ++ last) (early_positive file source distances parents lent) told.none

      module _ {k : ℕ} {offsets' targets' marks' : List ℕ}
          (walked : Unchained file head.edges k lent.offsets lent.targets lent.marks offsets' targets' marks') where
        -- a refusal of the chains
        pub check_chains : (k ≡ 0 → ⊥) → check_exit k (lent_lists offsets' targets' marks') ≡ outcome_of_check file source distances parents lent
        check_chains h =
            let same = walked.judged in
            let found : first (chain_refusals file) ≡ 0 → ⊥ = λ z. h (same ∙ z) in
            let all : number ≡ first (chain_refusals file) = number_later ∙ first_append_stop (chain_refusals file) last (omega arith) in
            (λ i. check_exit (same i)
            (lent_lists (starts_kept told.scanned walked h i) (ends_kept told.scanned walked h i) (marks_clear told.scanned walked i)))
            ∙ outcome_by all (chains_clear file lent found)

        module _ (whole : k ≡ 0) where
          -- past the chains the number is that of the result
          number_last : number ≡ first last
          unfolding chain_refusals
          number_last = number_later ∙ first_append (chain_refusals file) last (omega arith) (sym walked.judged ∙ whole)

          -- rows are written
          abbrev after_rows : CheckLent
          after_rows = lent_lists (overlay (offsets_of (graph_of file)) lent.offsets) (overlay (targets_of (graph_of file)) lent.targets)
              (overlay (replicate (edge_count file) 0) lent.marks)

          -- these are the lists at exit
          lists_written : lent_lists offsets' targets' marks' ≡ after_rows
          lists_written =
              λ i. lent_lists (starts_written told.scanned walked whole i) (ends_written told.scanned walked whole i) (marks_clear told.scanned walked i)

          -- the result may be looked at
          pub check_ready : CheckableIn head.vertices head.edges source offsets' targets' distances parents
          check_ready =
              let n = head.vertices in
              let near = length-take-le n distances told.long.distances_there in
              let far = length-take-le n parents told.long.parents_there in
              record {
                first_places = record {
                  rows = rw near (rows_ground told.scanned walked whole);
                  source_below = rw near told.near;
                  parents_all = far ∙ sym near;
                };
                offsets_there = starts_there told.scanned walked whole;
                targets_there = ends_there told.scanned walked whole;
                distances_there = told.long.distances_there;
                parents_there = told.long.parents_there;
              }

          module _ {found : Bool} (seen : found ≡ result_wrong (rows_of (take (head.vertices + 1) offsets') (take head.edges targets')) source
              (labels_in head.vertices distances parents)) where
            -- the rows are those of the file's graph, and n is the file's
            seen_wrong : found ≡ wrong
            seen_wrong = rw (rows_graph told.scanned walked whole, told.scanned.sized.vertices) at seen

            -- the result is wrong
            pub check_wrong : found ≡ true → check_exit bad_result (lent_lists offsets' targets' marks') ≡ outcome_of_check file source distances parents lent
            unfolding lent_after_check judges elem
            check_wrong e =
                ap (λ (x : CheckLent). check_exit bad_result x) lists_written
                ∙ outcome_by (number_last ∙ first_stop wrong bad_result [] (sym seen_wrong ∙ e)) refl

            -- or it isn't
            pub check_right : found ≡ false → check_exit success (lent_lists offsets' targets' marks') ≡ outcome_of_check file source distances parents lent
            unfolding lent_after_check judges elem first
            check_right e =
                ap (λ (x : CheckLent). check_exit success x) lists_written
                ∙ outcome_by (number_last ∙ first_skip wrong bad_result [] (sym seen_wrong ∙ e)) refl

-- A whole call: what passes every test on the input is what demand 3 asks for; a call that answers 0 or 21 has demand 3 of its own run, answers its
-- run's numbers and leaves its run's labels and a recount of its distances; any other leaves all as it was, but for the marks with 5 and 6.
use mathlib.Core.Path.{◌≡◌, refl, sym, ◌∙◌, ap}
use mathlib.Core.Bool.{Bool, true, false, cond, not, ◌||◌, true≢false}
use mathlib.Core.List.{List, [], ◌∷◌, ◌++◌, map}
use Prim.Native.Nat.{ℕ, zero, suc, ◌+◌, ◌*◌, ◌≤◌, ◌<◌}
use native.Mathlib.Omega.{arith}
use lib.Dec.{leb, eqb}
use lib.ListN.{length, replicate}
use borrow.Author.Tests.{leb-false, ne_eqb}
use Rattle.numbers.specs.Numbers.{max_vertices, success, repeated, unreached, bad_source, short_list, unfinished}
use Rattle.numbers.specs.Refusals.{Refusal, ◌gives◌, first}
use Rattle.numbers.proofs.First.{Positive, first_passed, first_split, first_append, first_append_stop, Under, first_under}
use Rattle.lists.specs.Lists.{overlay, elem}
use Rattle.lists.proofs.Or.{or_none}
use Rattle.graph.specs.Graph.{offsets_of, targets_of}
use Rattle.graph.specs.File.{vertex_count, edge_count, graph_of}
use Rattle.graph.specs.Read.{header_refusals, scan_refusals, chain_refusals, clears_marks}
use Rattle.graph.proofs.FileLists.{length_graph}
use Rattle.graph.proofs.WellFormed.{header_sized, scan_bounded, chains_partitioned, graph_below, graph_edges, positive_header, positive_scan}
use Rattle.schedule.specs.Check.{schedule_refusals}
use Rattle.schedule.proofs.Schedules.{positive_schedule, schedule_passed}
use Rattle.model.specs.Play.{play, rounds, event_bound}
use Rattle.model.specs.Call.{Lent, lengths_of, lengths_short, early_refusals, run_of, input_refusals, search_refusals, search_number, plays, answer_by, sweeps_marks, lent_after}
use Rattle.model.specs.Words.{word_of}
use Rattle.model.specs.Histogram.{recount}
use Rattle.model.specs.Call.{outcome_of_search}
use Rattle.model.specs.Demand.{Accepted, Demand}
use Rattle.model.proofs.Theorem.{demand_holds}

-- a number between 0 and 21 is that of a call that played nothing
between : (k : ℕ) → 0 < k → k < unfinished → plays k ≡ false
unfolding plays elem
between k p q = rw (ne_eqb k 0 (λ e. omega arith), ne_eqb k unfinished (λ e. omega arith))

-- a call that played nothing clears marks with 5 and 6 alone
sweeps_others : (k : ℕ) → plays k ≡ false → sweeps_marks k ≡ elem k (repeated ∷ unreached ∷ [])
unfolding sweeps_marks clears_marks plays elem
sweeps_others k e = let zeroth = or_none (eqb k success) (eqb k unfinished || false) e in rw (e, zeroth.0)

module _ (file : List ℕ) (source P : ℕ) (schedule : List ℕ) (lent : Lent) where
  -- the tests on the input
  abbrev input : List Refusal
  input = input_refusals file source P schedule lent

  -- the test on the run
  abbrev last : List Refusal
  last = not (run_of file source P schedule).state.finished gives unfinished ∷ []

  -- the number
  abbrev number : ℕ
  number = search_number file source P schedule lent

  -- Numbers.

  -- all numbers of the input's tests are positive, and below 21
  input_numbers : Positive input × Under unfinished input
  unfolding input_refusals early_refusals header_refusals scan_refusals schedule_refusals chain_refusals
  input_numbers = omega arith

  -- so are those of the tests before the chains
  pub early_positive : Positive (early_refusals file source P schedule (lengths_of lent))
  unfolding early_refusals header_refusals scan_refusals schedule_refusals
  early_positive = omega arith

  -- a call that answers 0 or 21 has an input that passes
  pub call_passed : plays number ≡ true → first input ≡ 0
  unfolding search_number search_refusals
  call_passed e = go (first input) refl
    where
      go : (k : ℕ) → first input ≡ k → first input ≡ 0
      go zero f = f
      go (suc k) f =
          let stopped = first_append_stop input last (omega arith) in
          let low = first_under unfinished (omega arith) input input_numbers.1 in
          absurd (true≢false (sym e ∙ ap plays stopped ∙ between (first input) (omega arith) low))

  -- An input that passes every test.
  module _ (e : first input ≡ 0) where
    -- each part of the tests is passed
    pub record Parts : Type 0 where
      pub header : first (header_refusals file) ≡ 0
      pub scan : first (scan_refusals file) ≡ 0
      pub source_test : leb (vertex_count file) source ≡ false
      pub schedule_tests : first (schedule_refusals schedule P) ≡ 0
      pub needs : lengths_short (vertex_count file) (edge_count file) P (lengths_of lent) ≡ false
      pub whole : first (chain_refusals file) ≡ 0

    pub call_parts : Parts
    unfolding input_refusals early_refusals header_refusals scan_refusals schedule_refusals
    call_parts =
        let n = vertex_count file in
        let early = early_refusals file source P schedule (lengths_of lent) in
        let needed = lengths_short n (edge_count file) P (lengths_of lent) in
        let rest = needed gives short_list ∷ [] in
        let far = leb n source in
        let both = first_split early (chain_refusals file) early_positive e in
        let p = first_split (header_refusals file) (scan_refusals file ++ far gives bad_source ∷ schedule_refusals schedule P ++ rest) (positive_header file) both.0 in
        let q = first_split (scan_refusals file) (far gives bad_source ∷ schedule_refusals schedule P ++ rest) (positive_scan file) p.1 in
        let r = first_passed far bad_source (schedule_refusals schedule P ++ rest) (omega arith) q.1 in
        let t = first_split (schedule_refusals schedule P) rest (positive_schedule schedule P) r.1 in
        let w = first_passed needed short_list [] (omega arith) t.1 in
        record { header = p.0; scan = q.0; source_test = r.0; schedule_tests = t.0; needs = w.0; whole = both.1 }

    -- n and m of the graph are the file's, and n is within its size
    pub call_sizes : (length (graph_of file) ≡ vertex_count file) × (length (targets_of (graph_of file)) ≡ edge_count file) × (length (graph_of file) ≤ max_vertices)
    call_sizes =
        let n = length_graph file in
        (n, graph_edges file (scan_bounded file call_parts.scan) (chains_partitioned file call_parts.whole), rw n (header_sized file call_parts.header).few_vertices)

    -- what demand 3 asks for
    pub call_accepted : Accepted (graph_of file) source P schedule
    call_accepted =
        let passed = schedule_passed schedule P call_parts.schedule_tests in
        record {
          targets_below = rw (length_graph file) (graph_below file (scan_bounded file call_parts.scan));
          source_below = rw (length_graph file) (leb-false (vertex_count file) source call_parts.source_test);
          some_worker = passed.some_worker;
          few_workers = passed.few_workers;
          formed = passed.formed;
        }

    -- demand 3 of this call
    pub call_demand : Demand (graph_of file) source P schedule
    call_demand = demand_holds call_accepted

    -- the number is 0 if the search is finished, else 21
    pub call_number : number ≡ cond (run_of file source P schedule).state.finished success unfinished
    unfolding search_number search_refusals first
    call_number = first_append input last input_numbers.0 e ∙ decided (run_of file source P schedule).state.finished
      where
        decided : (b : Bool) → cond (not b) unfinished success ≡ cond b success unfinished
        decided true = refl
        decided false = refl

    -- as many full rounds as the bound: the number is 0
    pub call_rounds : event_bound (graph_of file) P ≤ rounds P schedule → number ≡ success
    unfolding run_of
    call_rounds h = call_number ∙ ap (λ (b : Bool). cond b success unfinished) (call_demand.enough_rounds h)

  -- Answers and lists at exit.

  -- with 0 and 21: the run's used, effective and d; rows, zeros in marks and nodes, and the run's labels and their recount over the first
  -- places of the lists
  pub call_played : plays number ≡ true → let r = play (graph_of file) source P schedule in
      let nodes : List ℕ = replicate (P * vertex_count file + 1) 0 in
      outcome_of_search file source P schedule lent ≡ record {
        answer = record { number = number; used = r.used; effective = r.effective; layer = r.state.layer };
        lent = record {
          offsets = overlay (offsets_of (graph_of file)) lent.offsets;
          targets = overlay (targets_of (graph_of file)) lent.targets;
          marks = overlay (replicate (edge_count file) 0) lent.marks;
          distances = overlay (map word_of r.state.labels.distances) lent.distances;
          parents = overlay (map word_of r.state.labels.parents) lent.parents;
          histogram = overlay (recount r.state.labels.distances) lent.histogram;
          left = overlay nodes lent.left;
          right = overlay nodes lent.right;
          values = overlay nodes lent.values;
        };
      }
  unfolding outcome_of_search answer_by lent_after sweeps_marks run_of
  call_played e = rw e refl

  -- with any other number: zeros beside it, and every list as it was, but that with 5 and 6 the first m marks are 0
  pub call_refused : plays number ≡ false → outcome_of_search file source P schedule lent ≡ record {
    answer = record { number = number; used = 0; effective = 0; layer = 0 };
    lent = record {
      offsets = lent.offsets;
      targets = lent.targets;
      marks = cond (elem number (repeated ∷ unreached ∷ [])) (overlay (replicate (edge_count file) 0) lent.marks) lent.marks;
      distances = lent.distances;
      parents = lent.parents;
      histogram = lent.histogram;
      left = lent.left;
      right = lent.right;
      values = lent.values;
    };
  }
  unfolding outcome_of_search answer_by lent_after
  call_refused e = rw (e, sweeps_others number e) refl

  -- no call reports more effective events than the bound, whatever its number
  pub call_effective : (outcome_of_search file source P schedule lent).answer.effective ≤ event_bound (graph_of file) P
  call_effective = go (plays number) refl
    where
      go : (b : Bool) → plays number ≡ b → (outcome_of_search file source P schedule lent).answer.effective ≤ event_bound (graph_of file) P
      go true e = rw (call_played e) (call_demand (call_passed e)).bounded
      go false e = rw (call_refused e) (omega arith)

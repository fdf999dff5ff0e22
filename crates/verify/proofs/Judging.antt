-- What a check promises of its number follows from the number's definition alone: the tests on the input, then the result.
use mathlib.Core.Path.{◌≡◌, refl, sym, ◌∙◌}
use mathlib.Core.Bool.{Bool, true, false, not}
use mathlib.Core.List.{List, [], ◌∷◌, ◌++◌, map}
use Prim.Native.Nat.{ℕ, zero, suc, ◌≤◌, ◌<◌}
use native.Mathlib.Omega.{arith}
use lib.Dec.{leb, eqb}
use lib.ListN.{length, take, length-map}
use borrow.Author.Tests.{eqb-false, not-true, le-ltb, lt-leb}
use Rattle.numbers.specs.Numbers.{success, bad_source, bad_result, short_list}
use Rattle.numbers.specs.Refusals.{Refusal, ◌gives◌, first}
use Rattle.numbers.proofs.First.{Positive, first_stop, first_skip, first_passed, first_append, first_append_stop, first_split, first_join, first_each}
use Rattle.lists.proofs.Overlay.{part_length}
use Rattle.graph.specs.Graph.{Graph}
use Rattle.graph.specs.File.{vertex_count, edge_count, graph_of}
use Rattle.graph.specs.Read.{header_refusals, scan_refusals, chain_refusals, rows_short}
use Rattle.graph.specs.Steps.{Sized}
use Rattle.graph.specs.Read.{ReadAnswer}
use Rattle.graph.proofs.FileLists.{length_graph}
use Rattle.graph.proofs.WellFormed.{scan_bounded, graph_below, positive_header, positive_scan}
use Rattle.model.specs.Paths.{Labels}
use Rattle.model.specs.Words.{option_of, labels_of, labels_in}
use Rattle.model.proofs.Sound.{Ground}
use Rattle.verify.specs.Certificate.{result_wrong}
use Rattle.verify.specs.Check.{CheckLent, CheckLengths, lent_lengths, check_short, check_early, check_input, check_refusals, check_number}
use Rattle.verify.specs.Promise.{Passed, RightLists, Judged}
use Rattle.verify.specs.Steps.{early_answer}
use Rattle.verify.proofs.Exact.{passes_right, right_passes}
use Rattle.verify.proofs.JudgeFacts.{EarlyPassed, early_number, early_passed}

module _ (file : List ℕ) (source : ℕ) (distances parents : List ℕ) (lent : CheckLent) where
  -- the file's graph
  abbrev g : Graph
  g = graph_of file

  -- the labels that are judged
  abbrev labels : Labels
  labels = labels_in (vertex_count file) distances parents

  -- the lengths of all lists
  abbrev lengths : CheckLengths
  lengths = lent_lengths distances parents lent

  -- what the tests before the chains answer
  abbrev answer : ReadAnswer
  answer = early_answer file source lengths

  -- the tests on the input
  abbrev input : List Refusal
  input = check_input file source distances parents lent

  -- the test of the result
  abbrev last : List Refusal
  last = result_wrong g source labels gives bad_result ∷ []

  -- the tests before the chains are walked have positive numbers
  pub early_positive : Positive (check_early file source lengths)
  unfolding check_early header_refusals scan_refusals
  early_positive = omega arith

  -- and so have all tests on the input
  pub input_positive : Positive input
  unfolding check_input check_early header_refusals scan_refusals chain_refusals
  input_positive = omega arith

  -- and so have all tests
  pub checks_positive : Positive (check_refusals file source distances parents lent)
  unfolding check_refusals check_input check_early header_refusals scan_refusals chain_refusals
  checks_positive = omega arith

  -- none of the input's gives 10
  input_other : first input ≡ bad_result → ⊥
  unfolding check_input check_early header_refusals scan_refusals chain_refusals
  input_other e =
      let other : not (eqb (first input) bad_result) ≡ true = first_each (λ (k : ℕ). not (eqb k bad_result)) input refl (λ z. omega arith) in
      eqb-false (first input) bad_result (not-true (eqb (first input) bad_result) other) e

  -- the number is that of the tests on the input, then that of the result
  number_parts : check_number file source distances parents lent ≡ first (input ++ last)
  unfolding check_number check_refusals
  number_parts = refl

  -- each part of the tests on the input is passed
  pub record Parts : Type 0 where
    pub header : first (header_refusals file) ≡ 0
    pub scan : first (scan_refusals file) ≡ 0
    pub source_below : source < vertex_count file
    pub rows_there : rows_short (vertex_count file) (edge_count file) (length lent.offsets) (length lent.targets) (length lent.marks) ≡ false
    pub distances_there : vertex_count file ≤ length distances
    pub parents_there : vertex_count file ≤ length parents
    pub whole : first (chain_refusals file) ≡ 0

  -- then the input is
  pub parts_passed : Parts → Passed file source distances parents lent
  unfolding check_input check_early header_refusals scan_refusals check_short first
  parts_passed x =
      let n = vertex_count file in
      let needed = check_short n (edge_count file) lengths in
      let rest = needed gives short_list ∷ [] in
      let past = leb n source in
      let far = le-ltb (length distances) n x.distances_there in
      let near = le-ltb (length parents) n x.parents_there in
      let long : needed ≡ false = rw (x.rows_there, far, near) in
      let below = lt-leb n source x.source_below in
      let q : first (past gives bad_source ∷ rest) ≡ 0 = first_skip past bad_source rest below ∙ first_skip needed short_list [] long in
      let p = first_join (scan_refusals file) (past gives bad_source ∷ rest) (positive_scan file) x.scan q in
      first_join (check_early file source lengths) (chain_refusals file) early_positive
      (first_join (header_refusals file) (scan_refusals file ++ past gives bad_source ∷ rest) (positive_header file) x.header p)
      x.whole

  -- An input that passes every test.
  module _ (e : Passed file source distances parents lent) where
    -- the tests before the chains are passed
    early : EarlyPassed file source lengths answer
    unfolding check_input
    early =
        early_passed file source lengths refl
        (early_number file source lengths refl ∙ (first_split (check_early file source lengths) (chain_refusals file) early_positive e).0)

    -- n
    vertices : answer.vertices ≡ vertex_count file
    vertices = early.scanned.sized.vertices

    -- n and m are within their sizes, and the file's length is theirs
    pub passed_sized : Sized file (vertex_count file) (edge_count file)
    passed_sized = rw (← vertices, ← early.scanned.sized.edges) early.scanned.sized

    -- there is a distance for each vertex
    pub passed_distances : vertex_count file ≤ length distances
    passed_distances = rw (← vertices) early.long.distances_there

    -- and a parent
    pub passed_parents : vertex_count file ≤ length parents
    passed_parents = rw (← vertices) early.long.parents_there

    -- the graph's targets and the source are vertices
    source_ground : Ground g source
    source_ground = record {
      below = rw (length_graph file) (graph_below file (scan_bounded file early.scanned.clean));
      starts = rw (length_graph file, ← vertices) early.near;
    }

    -- the first n places of a list that isn't short stand for a label of each vertex
    all_labels : (l : List ℕ) → vertex_count file ≤ length l → length (map option_of (take (vertex_count file) l)) ≡ length g
    all_labels l h = length-map (take (vertex_count file) l) option_of ∙ sym (part_length (vertex_count file) l h) ∙ sym (length_graph file)

    -- a result that isn't found wrong is right
    found_right : result_wrong g source labels ≡ false → RightLists file source distances parents
    unfolding labels_in labels_of
    found_right =
        passes_right source_ground labels (all_labels distances passed_distances) (all_labels parents passed_parents)

    -- one that isn't right is found wrong
    found_wrong : (RightLists file source distances parents → ⊥) → result_wrong g source labels ≡ true
    found_wrong bad = go (result_wrong g source labels) refl
      where
        go : (b : Bool) → result_wrong g source labels ≡ b → b ≡ true
        go true q = refl
        go false q = absurd (bad (found_right q))

    -- the number is that of the result
    number_last : check_number file source distances parents lent ≡ first last
    number_last = number_parts ∙ first_append input last input_positive e

    -- 0 where it is right
    pub number_right : RightLists file source distances parents → check_number file source distances parents lent ≡ success
    unfolding first
    number_right r = number_last ∙ first_skip (result_wrong g source labels) bad_result [] (right_passes source_ground labels r)

    -- 10 where it isn't
    number_wrong : (RightLists file source distances parents → ⊥) → check_number file source distances parents lent ≡ bad_result
    number_wrong bad = number_last ∙ first_stop (result_wrong g source labels) bad_result [] (found_wrong bad)

  -- with 0 every test is passed and the result is right
  number_accepted : check_number file source distances parents lent ≡ success
      → Passed file source distances parents lent × RightLists file source distances parents
  number_accepted z =
      let both = first_split input last input_positive (sym number_parts ∙ z) in
      (both.0, found_right both.0 (first_passed (result_wrong g source labels) bad_result [] (omega arith) both.1).0)

  -- with 10 every test on the input is passed
  number_rejected : check_number file source distances parents lent ≡ bad_result → Passed file source distances parents lent
  number_rejected z = go (first input) refl
    where
      go : (k : ℕ) → first input ≡ k → first input ≡ 0
      go zero q = q
      go (suc k) q = absurd (input_other (sym (first_append_stop input last (omega arith)) ∙ sym number_parts ∙ z))

  -- what is promised of the number
  pub check_judged : {number : ℕ} → number ≡ check_number file source distances parents lent → Judged file source distances parents lent number
  check_judged e = record {
    accepted = λ z. number_accepted (sym e ∙ z);
    right = λ passed r. e ∙ number_right passed r;
    rejected = λ z. let passed = number_rejected (sym e ∙ z) in (passed, λ r. absurd (omega (arith, z, e, number_right passed r)));
    wrong = λ passed bad. e ∙ number_wrong passed bad;
  }

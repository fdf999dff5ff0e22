-- The tests that come before the chains are walked: whether a list is short, test by test, and the answer, one fact for each way through the steps.
use mathlib.Core.Path.{◌≡◌, refl, sym, ◌∙◌}
use mathlib.Core.Bool.{Bool, true, false, ◌||◌}
use mathlib.Core.List.{List, [], ◌∷◌}
use Prim.Native.Nat.{ℕ, ◌+◌, ◌≤◌, ◌<◌}
use native.Mathlib.Omega.{arith}
use lib.Dec.{leb, ltb}
use borrow.Author.Tests.{ltb-false, leb-false, le-leb, lt-leb}
use Rattle.numbers.specs.Numbers.{bad_source, short_list}
use Rattle.numbers.specs.Refusals.{Refusal, ◌gives◌, first}
use Rattle.numbers.proofs.First.{first_stop, first_skip, first_passed}
use Rattle.lists.proofs.Or.{or_none}
use Rattle.graph.specs.File.{vertex_count, edge_count}
use Rattle.graph.specs.Read.{header_refusals, scan_refusals, rows_short, refusal_answer}
use Rattle.graph.specs.Steps.{file_refusals, file_answer, Scanned}
use Rattle.graph.specs.Read.{ReadAnswer}
use Rattle.graph.proofs.ReadFacts.{file_scanned, long_enough}
use Rattle.graph.proofs.EarlyFacts as early
use Rattle.verify.specs.Check.{CheckLengths, check_short, check_early}
use Rattle.verify.specs.Steps.{early_answer}

-- Whether a list is short.

-- the first of the three tests that holds decides
pub short_by : (n m : ℕ) (lengths : CheckLengths) {a b c : Bool} → rows_short n m lengths.offsets lengths.targets lengths.marks ≡ a
    → ltb lengths.distances n ≡ b → ltb lengths.parents n ≡ c → (a || b || c) ≡ check_short n m lengths
unfolding check_short
short_by n m lengths rows far near = rw (rows, far, near)

-- a list for each need
pub record Long (n m : ℕ) (lengths : CheckLengths) : Type 0 where
  pub offsets_there : n + 1 ≤ lengths.offsets
  pub targets_there : m ≤ lengths.targets
  pub marks_there : m ≤ lengths.marks
  pub distances_there : n ≤ lengths.distances
  pub parents_there : n ≤ lengths.parents

-- no list is short
long_lists : (n m : ℕ) (lengths : CheckLengths) → check_short n m lengths ≡ false → Long n m lengths
unfolding check_short
long_lists n m lengths h =
    let rows = rows_short n m lengths.offsets lengths.targets lengths.marks in
    let far = ltb lengths.distances n in
    let b = or_none (rows || far) (ltb lengths.parents n) h in
    let a = or_none rows far b.0 in
    let three = long_enough n m lengths.offsets lengths.targets lengths.marks a.0 in
    record {
      offsets_there = three.0;
      targets_there = three.1;
      marks_there = three.2;
      distances_there = ltb-false lengths.distances n a.1;
      parents_there = ltb-false lengths.parents n b.1;
    }

-- The answer of these tests.
module _ (file : List ℕ) (source : ℕ) (lengths : CheckLengths) where
  -- 20
  abbrev last : List Refusal
  last = check_short (vertex_count file) (edge_count file) lengths gives short_list ∷ []

  -- 7, then 20: the tests that are not the reader's
  abbrev others : List Refusal
  others = leb (vertex_count file) source gives bad_source ∷ last

  -- they come after the file's
  early_split : check_early file source lengths ≡ early.refusals file others
  unfolding check_early file_refusals header_refusals scan_refusals
  early_split = refl

  -- and the answer is that of all these tests
  answers : early.answer file others ≡ early_answer file source lengths
  unfolding early_answer check_early file_refusals header_refusals scan_refusals
  answers = refl

  -- what an answer with 0 tells
  pub record EarlyPassed (head : ReadAnswer) : Type 0 where
    pub none : first (check_early file source lengths) ≡ 0
    pub scanned : Scanned file head.vertices head.edges
    pub near : source < head.vertices
    pub long : Long head.vertices head.edges lengths

  module _ {head : ReadAnswer} (judged : head ≡ early_answer file source lengths) where
    -- the answer's number
    pub early_number : head.number ≡ first (check_early file source lengths)
    early_number = rw early_split (early.early_number file others (judged ∙ sym answers))

    -- with 0 each test is passed
    pub early_passed : head.number ≡ 0 → EarlyPassed head
    early_passed e =
        let told = early.early_passed file others (judged ∙ sym answers) e in
        let s = told.scanned.sized in
        let p = first_passed (leb (vertex_count file) source) bad_source last (omega arith) told.others_none in
        let q = first_passed (check_short (vertex_count file) (edge_count file) lengths) short_list [] (omega arith) p.1 in
        record {
          none = rw early_split told.none;
          scanned = told.scanned;
          near = rw s.vertices (leb-false (vertex_count file) source p.0);
          long = rw (s.vertices, s.edges) (long_lists (vertex_count file) (edge_count file) lengths q.0);
        }

  module _ {head : ReadAnswer} (answered : head ≡ file_answer file) where
    -- refused by the file's tests
    pub judged_file : (head.number ≡ 0 → ⊥) → head ≡ early_answer file source lengths
    judged_file h = early.by_file file others answered h ∙ answers

    module _ (whole : head.number ≡ 0) where
      -- 7
      pub judged_source : head.vertices ≤ source → refusal_answer bad_source ≡ early_answer file source lengths
      judged_source h =
          let far = le-leb (vertex_count file) source (omega (arith, (file_scanned file answered whole).sized.vertices)) in
          let stopped = first_stop (leb (vertex_count file) source) bad_source last far in
          early.by_others file others answered whole stopped (λ z. absurd (omega arith)) ∙ answers

      module _ (near : source < head.vertices) {short : Bool} (seen : short ≡ check_short head.vertices head.edges lengths) where
        -- past 7
        number_short : first others ≡ first last
        number_short =
            first_skip (leb (vertex_count file) source) bad_source last
            (lt-leb (vertex_count file) source (omega (arith, (file_scanned file answered whole).sized.vertices)))

        -- whether a list is short, with the file's n and m
        file_short : {x : Bool} → short ≡ x → check_short (vertex_count file) (edge_count file) lengths ≡ x
        file_short e = rw (← (file_scanned file answered whole).sized.vertices, ← (file_scanned file answered whole).sized.edges) (sym seen ∙ e)

        -- 20
        pub judged_short : short ≡ true → refusal_answer short_list ≡ early_answer file source lengths
        judged_short h =
            let stopped = number_short ∙ first_stop _ short_list [] (file_short h) in
            early.by_others file others answered whole stopped (λ z. absurd (omega arith)) ∙ answers

        -- or nothing is refused
        pub judged_whole : short ≡ false → head ≡ early_answer file source lengths
        unfolding first
        judged_whole h = early.by_none file others answered whole (number_short ∙ first_skip _ short_list [] (file_short h)) ∙ answers

-- The tests that come before the chains are walked: whether a list is short, test by test, and the answer, one fact for each way through the steps.
use mathlib.Core.Path.{◌≡◌, refl, sym, ◌∙◌}
use mathlib.Core.Bool.{Bool, true, false, ◌||◌}
use mathlib.Core.List.{List, [], ◌∷◌, ◌++◌}
use Prim.Native.Nat.{ℕ, ◌+◌, ◌≤◌, ◌<◌}
use native.Mathlib.Omega.{arith}
use lib.Dec.{leb, ltb}
use borrow.Author.Tests.{ltb-false, le-leb, lt-leb}
use Rattle.numbers.specs.Numbers.{bad_source, short_list}
use Rattle.numbers.specs.Refusals.{Refusal, ◌gives◌, first}
use Rattle.numbers.proofs.First.{first_stop, first_skip, first_passed, first_append, first_append_stop, first_split}
use Rattle.lists.proofs.Or.{or_none}
use Rattle.graph.specs.File.{vertex_count, edge_count}
use Rattle.graph.specs.Read.{ReadAnswer, header_refusals, scan_refusals, rows_short, refusal_answer}
use Rattle.graph.specs.Steps.{file_refusals, file_answer, Scanned}
use Rattle.graph.proofs.ReadFacts.{file_scanned, long_enough}
use Rattle.graph.proofs.EarlyFacts as early
use Rattle.schedule.specs.Check.{schedule_refusals, schedule_number}
use Rattle.schedule.proofs.Schedules.{positive_schedule}
use Rattle.model.specs.Call.{Lengths, lengths_short, early_refusals, node_places}
use Rattle.search.specs.Input.{early_answer}

-- Whether a list is short.

-- the first of the seven tests that holds decides
pub short_by : (n m P : ℕ) (lengths : Lengths) {a b c d e f g : Bool} → rows_short n m lengths.offsets lengths.targets lengths.marks ≡ a
    → ltb lengths.distances n ≡ b → ltb lengths.parents n ≡ c → ltb lengths.histogram n ≡ d → ltb lengths.left (node_places n P) ≡ e
    → ltb lengths.right (node_places n P) ≡ f → ltb lengths.values (node_places n P) ≡ g → (a || b || c || d || e || f || g) ≡ lengths_short n m P lengths
unfolding lengths_short
short_by n m P lengths rows far near counts left right last = rw (rows, far, near, counts, left, right, last)

-- a list for each need
pub record Long (n m P : ℕ) (lengths : Lengths) : Type 0 where
  pub offsets_there : n + 1 ≤ lengths.offsets
  pub targets_there : m ≤ lengths.targets
  pub marks_there : m ≤ lengths.marks
  pub distances_there : n ≤ lengths.distances
  pub parents_there : n ≤ lengths.parents
  pub histogram_there : n ≤ lengths.histogram
  pub left_there : node_places n P ≤ lengths.left
  pub right_there : node_places n P ≤ lengths.right
  pub values_there : node_places n P ≤ lengths.values

-- no list is short
long_lists : (n m P : ℕ) (lengths : Lengths) → lengths_short n m P lengths ≡ false → Long n m P lengths
unfolding lengths_short
long_lists n m P lengths h =
    let rows = rows_short n m lengths.offsets lengths.targets lengths.marks in
    let far = ltb lengths.distances n in
    let near = ltb lengths.parents n in
    let counts = ltb lengths.histogram n in
    let left = ltb lengths.left (node_places n P) in
    let right = ltb lengths.right (node_places n P) in
    let f = or_none (rows || far || near || counts || left || right) (ltb lengths.values (node_places n P)) h in
    let e = or_none (rows || far || near || counts || left) right f.0 in
    let d = or_none (rows || far || near || counts) left e.0 in
    let c = or_none (rows || far || near) counts d.0 in
    let b = or_none (rows || far) near c.0 in
    let a = or_none rows far b.0 in
    let three = long_enough n m lengths.offsets lengths.targets lengths.marks a.0 in
    record {
      offsets_there = three.0;
      targets_there = three.1;
      marks_there = three.2;
      distances_there = ltb-false lengths.distances n a.1;
      parents_there = ltb-false lengths.parents n b.1;
      histogram_there = ltb-false lengths.histogram n c.1;
      left_there = ltb-false lengths.left (node_places n P) d.1;
      right_there = ltb-false lengths.right (node_places n P) e.1;
      values_there = ltb-false lengths.values (node_places n P) f.1;
    }

-- The answer of these tests.
module _ (file : List ℕ) (source P : ℕ) (schedule : List ℕ) (lengths : Lengths) where
  -- 20
  abbrev last : List Refusal
  last = lengths_short (vertex_count file) (edge_count file) P lengths gives short_list ∷ []

  -- 8 and 9, then 20
  abbrev later : List Refusal
  later = schedule_refusals schedule P ++ last

  -- 7, then these: the tests that are not the reader's
  abbrev others : List Refusal
  others = leb (vertex_count file) source gives bad_source ∷ later

  -- they come after the file's
  parts : early_refusals file source P schedule lengths ≡ early.refusals file others
  unfolding early_refusals file_refusals header_refusals scan_refusals
  parts = refl

  -- and the answer is that of all these tests
  answers : early.answer file others ≡ early_answer file source P schedule lengths
  unfolding early_answer early_refusals file_refusals header_refusals scan_refusals
  answers = refl

  -- what an answer with 0 tells
  pub record Passed (head : ReadAnswer) : Type 0 where
    pub none : first (early_refusals file source P schedule lengths) ≡ 0
    pub scanned : Scanned file head.vertices head.edges
    pub long : Long head.vertices head.edges P lengths

  module _ {head : ReadAnswer} (judged : head ≡ early_answer file source P schedule lengths) where
    -- the answer's number
    pub early_number : head.number ≡ first (early_refusals file source P schedule lengths)
    early_number = rw parts (early.early_number file others (judged ∙ sym answers))

    -- with 0 each test is passed
    pub early_passed : head.number ≡ 0 → Passed head
    early_passed e =
        let told = early.early_passed file others (judged ∙ sym answers) e in
        let s = told.scanned.sized in
        let p = first_passed (leb (vertex_count file) source) bad_source later (omega arith) told.others_none in
        let q = first_split (schedule_refusals schedule P) last (positive_schedule schedule P) p.1 in
        let r = first_passed (lengths_short (vertex_count file) (edge_count file) P lengths) short_list [] (omega arith) q.1 in
        record {
          none = rw parts told.none;
          scanned = told.scanned;
          long = rw (s.vertices, s.edges) (long_lists (vertex_count file) (edge_count file) P lengths r.0);
        }

  module _ {head : ReadAnswer} (answered : head ≡ file_answer file) where
    -- refused by the file's tests
    pub judged_file : (head.number ≡ 0 → ⊥) → head ≡ early_answer file source P schedule lengths
    judged_file h = early.by_file file others answered h ∙ answers

    module _ (whole : head.number ≡ 0) where
      -- by one of the others
      refuses : {k : ℕ} → first others ≡ k → (k ≡ 0 → ⊥) → refusal_answer k ≡ early_answer file source P schedule lengths
      refuses f h = early.by_others file others answered whole f h ∙ answers

      -- 7
      pub judged_source : head.vertices ≤ source → refusal_answer bad_source ≡ early_answer file source P schedule lengths
      judged_source h =
          let far = le-leb (vertex_count file) source (omega (arith, (file_scanned file answered whole).sized.vertices)) in
          refuses (first_stop (leb (vertex_count file) source) bad_source later far) (λ z. absurd (omega arith))

      module _ (near : source < head.vertices) {formed : ℕ} (told : formed ≡ schedule_number schedule P) where
        -- past 7
        number_schedule : first others ≡ first later
        number_schedule =
            first_skip (leb (vertex_count file) source) bad_source later
            (lt-leb (vertex_count file) source (omega (arith, (file_scanned file answered whole).sized.vertices)))

        -- 8 or 9
        pub judged_schedule : (formed ≡ 0 → ⊥) → refusal_answer formed ≡ early_answer file source P schedule lengths
        unfolding schedule_number
        judged_schedule h =
            let found : first (schedule_refusals schedule P) ≡ 0 → ⊥ = λ z. h (told ∙ z) in
            refuses (number_schedule ∙ first_append_stop (schedule_refusals schedule P) last (omega arith) ∙ sym told) h

        module _ (well : formed ≡ 0) {short : Bool} (seen : short ≡ lengths_short head.vertices head.edges P lengths) where
          -- past 9
          number_short : first others ≡ first last
          unfolding schedule_number
          number_short = number_schedule ∙ first_append (schedule_refusals schedule P) last (positive_schedule schedule P) (sym told ∙ well)

          -- whether a list is short, with the file's n and m
          file_short : {x : Bool} → short ≡ x → lengths_short (vertex_count file) (edge_count file) P lengths ≡ x
          file_short e = rw (← (file_scanned file answered whole).sized.vertices, ← (file_scanned file answered whole).sized.edges) (sym seen ∙ e)

          -- 20
          pub judged_short : short ≡ true → refusal_answer short_list ≡ early_answer file source P schedule lengths
          judged_short h = refuses (number_short ∙ first_stop _ short_list [] (file_short h)) (λ z. absurd (omega arith))

          -- or nothing is refused
          pub judged_whole : short ≡ false → head ≡ early_answer file source P schedule lengths
          unfolding first
          judged_whole h = early.by_none file others answered whole (number_short ∙ first_skip _ short_list [] (file_short h)) ∙ answers

-- The reader's outcome, one fact for each way through its steps, and what each step passed says for the next.
use mathlib.Core.Path.{◌≡◌, refl, sym, ap, ◌∙◌}
use mathlib.Core.Bool.{Bool, true, false, cond, not, ◌||◌}
use mathlib.Core.List.{List, [], ◌∷◌}
use Prim.Native.Nat.{ℕ, ◌+◌, ◌≤◌, ◌<◌}
use native.Mathlib.Omega.{arith}
use lib.Dec.{eqb, ltb}
use lib.ListN.{length, replicate}
use borrow.Author.Tests.{ne_eqb, ltb-false, not-true}
use Rattle.numbers.specs.Numbers.{success, repeated, unreached, short_list}
use Rattle.numbers.specs.Refusals.{Refusal, ◌gives◌, first}
use Rattle.numbers.proofs.First.{Positive, first_stop, first_skip, first_append, first_append_stop, first_split, first_each}
use Rattle.lists.specs.Lists.{overlay, elem}
use Rattle.lists.proofs.Or.{or_none}
use Rattle.graph.specs.File.{vertex_count, edge_count}
use Rattle.graph.specs.Read.{header_refusals, scan_refusals, chain_refusals, rows_short, read_refusals, read_number, refusal_answer, answer_with, writes_rows, clears_marks, read_exit, read_outcome_by, outcome_of_read}
use Rattle.graph.specs.Steps.{file_refusals, file_answer, Sized, Scanned, Unchained}
use Rattle.graph.specs.Read.{ReadAnswer}
use Rattle.graph.proofs.WellFormed.{header_sized, positive_header}

-- a number that is not 0 is positive
above_zero : {k : ℕ} → (k ≡ 0 → ⊥) → 0 < k
above_zero h = omega arith

-- a refusal before 5 and 6 leaves every list as it was
kept_outcome : (number : ℕ) (file offsets targets marks : List ℕ) → (number ≡ 0 → ⊥) → clears_marks number ≡ false
    → read_exit (refusal_answer number) offsets targets marks ≡ read_outcome_by number file offsets targets marks
unfolding read_outcome_by answer_with writes_rows
kept_outcome number file offsets targets marks h k = rw (ne_eqb number 0 h, k)

-- the numbers of the file's tests are none of 5 and 6
file_keeps : (file : List ℕ) → (first (file_refusals file) ≡ 0 → ⊥) → clears_marks (first (file_refusals file)) ≡ false
unfolding file_refusals header_refusals scan_refusals clears_marks elem
file_keeps file h = not-true _ (first_each (λ k. not (clears_marks k)) (file_refusals file) refl h)

-- 0, 5 and 6 are the chains' numbers
chain_clears : (a b : Bool) → clears_marks (first (a gives repeated ∷ b gives unreached ∷ [])) ≡ true
unfolding first clears_marks elem
chain_clears true b = refl
chain_clears false true = refl
chain_clears false false = refl

-- an answer has the number that it is made for
pub answer_number : (k n m : ℕ) → (answer_with k n m).number ≡ k
unfolding answer_with
answer_number k n m = go (eqb k success)
  where
    go : (b : Bool) → (cond b (record { number = k; vertices = n; edges = m }) (refusal_answer k)).number ≡ k
    go true = refl
    go false = refl

-- zeros beside a refusal
pub answer_refused : (k n m : ℕ) → (k ≡ 0 → ⊥) → answer_with k n m ≡ refusal_answer k
unfolding answer_with
answer_refused k n m h = rw (ne_eqb k 0 h)

-- n and m beside 0
pub answer_whole : (k n m : ℕ) → k ≡ 0 → answer_with k n m ≡ record { number = 0; vertices = n; edges = m }
unfolding answer_with
answer_whole k n m h = rw h

-- the answer of a list of refusals, where this is its number
pub answer-by : (l : List Refusal) (n m : ℕ) {k : ℕ} → first l ≡ k → (k ≡ 0 → ⊥) → refusal_answer k ≡ answer_with (first l) n m
answer-by l n m {k} e h = sym (answer_refused k n m h) ∙ ap (λ (x : ℕ). answer_with x n m) (sym e)

-- the file's tests have numbers above 0
pub positive_file : (file : List ℕ) → Positive (file_refusals file)
unfolding file_refusals header_refusals scan_refusals
positive_file file = omega arith

-- what a file that passes them is
pub passed_scanned : (file : List ℕ) → first (file_refusals file) ≡ 0 → Scanned file (vertex_count file) (edge_count file)
unfolding file_refusals
passed_scanned file e =
    let p = first_split (header_refusals file) (scan_refusals file) (positive_header file) e in
    record { sized = header_sized file p.0; clean = p.1 }

-- What `examine` answers, one fact for each way through its tests.
module _ (file : List ℕ) {k : ℕ} where
  -- refused by the header
  pub by_header : first (header_refusals file) ≡ k → (k ≡ 0 → ⊥) → refusal_answer k ≡ file_answer file
  unfolding file_answer file_refusals
  by_header e h =
      let stopped = first_append_stop (header_refusals file) (scan_refusals file) (omega arith) in
      answer-by (file_refusals file) (vertex_count file) (edge_count file) (stopped ∙ e) h

  module _ (passed : first (header_refusals file) ≡ 0) (looked : k ≡ first (scan_refusals file)) where
    -- past the header
    file_scan : first (file_refusals file) ≡ k
    unfolding file_refusals
    file_scan = first_append (header_refusals file) (scan_refusals file) (positive_header file) passed ∙ sym looked

    -- by the scan
    pub by_scan : (k ≡ 0 → ⊥) → refusal_answer k ≡ file_answer file
    unfolding file_answer
    by_scan h = answer-by (file_refusals file) (vertex_count file) (edge_count file) file_scan h

    -- or by nothing
    pub by_none : {n m : ℕ} → k ≡ 0 → n ≡ vertex_count file → m ≡ edge_count file → record { number = 0; vertices = n; edges = m } ≡ file_answer file
    unfolding file_answer
    by_none z v e = rw (v, e) (sym (answer_whole (first (file_refusals file)) (vertex_count file) (edge_count file) (file_scan ∙ z)))

module _ (file : List ℕ) {a : ReadAnswer} (answered : a ≡ file_answer file) where
  -- the number of its answer
  pub file_number : a.number ≡ first (file_refusals file)
  unfolding file_answer
  file_number = ap (λ (x : ReadAnswer). x.number) answered ∙ answer_number (first (file_refusals file)) (vertex_count file) (edge_count file)

  -- with 0 it has the file's n and m
  pub file_whole : a.number ≡ 0 → a ≡ record { number = 0; vertices = vertex_count file; edges = edge_count file }
  unfolding file_answer
  file_whole h = answered ∙ answer_whole (first (file_refusals file)) (vertex_count file) (edge_count file) (sym file_number ∙ h)

  -- and the file passes
  pub file_scanned : a.number ≡ 0 → Scanned file a.vertices a.edges
  file_scanned h = rw (file_whole h) (passed_scanned file (sym file_number ∙ h))

-- the lists meet their needs
pub long_enough : (n m offsets targets marks : ℕ) → rows_short n m offsets targets marks ≡ false → (n + 1 ≤ offsets) × (m ≤ targets) × (m ≤ marks)
unfolding rows_short
long_enough n m offsets targets marks e =
    let last = or_none (ltb offsets (n + 1) || ltb targets m) (ltb marks m) e in
    let both = or_none (ltb offsets (n + 1)) (ltb targets m) last.0 in
    (ltb-false offsets (n + 1) both.0, ltb-false targets m both.1, ltb-false marks m last.1)

-- the test of the lists, with the n and m of the file
pub short_as : {file : List ℕ} {n m : ℕ} {b x : Bool} (offsets targets marks : ℕ) → Sized file n m → b ≡ rows_short n m offsets targets marks → b ≡ x
    → rows_short (vertex_count file) (edge_count file) offsets targets marks ≡ x
short_as offsets targets marks s e f = rw (← s.vertices, ← s.edges) (sym e ∙ f)

module _ (file offsets targets marks : List ℕ) where
  -- whether a list is short
  abbrev short : Bool
  short = rows_short (vertex_count file) (edge_count file) (length offsets) (length targets) (length marks)

  -- the refusals after the file's tests
  abbrev later : List Refusal
  later = short gives short_list ∷ chain_refusals file

  -- the number is theirs
  number_file : (first (file_refusals file) ≡ 0 → ⊥) → read_number file offsets targets marks ≡ first (file_refusals file)
  unfolding read_number read_refusals file_refusals header_refusals scan_refusals
  number_file h = first_append_stop (file_refusals file) later (above_zero h)

  module _ (passed : first (file_refusals file) ≡ 0) where
    number_later : read_number file offsets targets marks ≡ first later
    unfolding read_number read_refusals file_refusals header_refusals scan_refusals
    number_later = first_append (file_refusals file) later (positive_file file) passed

    -- or 20
    number_short : short ≡ true → read_number file offsets targets marks ≡ short_list
    number_short h = number_later ∙ first_stop short short_list (chain_refusals file) h

    -- or the chains'
    number_chains : short ≡ false → read_number file offsets targets marks ≡ first (chain_refusals file)
    number_chains h = number_later ∙ first_skip short short_list (chain_refusals file) h

  -- a refusal before 5 and 6
  refuses : {number : ℕ} {a : ReadAnswer} → read_number file offsets targets marks ≡ number → (number ≡ 0 → ⊥) → clears_marks number ≡ false → a ≡ refusal_answer number
      → read_exit a offsets targets marks ≡ outcome_of_read file offsets targets marks
  unfolding outcome_of_read
  refuses {number} n h k e =
      ap (λ (x : ReadAnswer). read_exit x offsets targets marks) e ∙ kept_outcome number file offsets targets marks h k
      ∙ ap (λ (x : ℕ). read_outcome_by x file offsets targets marks) (sym n)

  -- the reader's outcome is a refusal of the file's tests
  pub read_file : {a : ReadAnswer} → a ≡ file_answer file → (a.number ≡ 0 → ⊥) → read_exit a offsets targets marks ≡ outcome_of_read file offsets targets marks
  unfolding file_answer
  read_file e h =
      let refused : first (file_refusals file) ≡ 0 → ⊥ = λ z. h (file_number file e ∙ z) in
      refuses (number_file refused) refused (file_keeps file refused)
      (e ∙ answer_refused (first (file_refusals file)) (vertex_count file) (edge_count file) refused)

  -- of a list
  pub read_short : first (file_refusals file) ≡ 0 → short ≡ true
      → read_exit (refusal_answer short_list) offsets targets marks ≡ outcome_of_read file offsets targets marks
  unfolding clears_marks elem
  read_short p h = refuses (number_short p h) (λ z. absurd (omega arith)) refl refl

  module _ {number : ℕ} {offsets' targets' marks' : List ℕ} (p : first (file_refusals file) ≡ 0) (h : short ≡ false)
      (u : Unchained file (edge_count file) number offsets targets marks offsets' targets' marks') where
    -- the lists that the walk leaves are the outcome's
    unchains : read_exit (answer_with number (vertex_count file) (edge_count file)) offsets' targets' marks' ≡ outcome_of_read file offsets targets marks
    unfolding outcome_of_read read_outcome_by chain_refusals
    unchains =
        let clears : clears_marks number ≡ true = ap clears_marks u.judged ∙ chain_clears _ _ in
        let zeros : List ℕ = overlay (replicate (edge_count file) 0) marks in
        let marked : marks' ≡ cond (clears_marks number) zeros marks = u.cleared ∙ ap (λ (b : Bool). cond b zeros marks) (sym clears) in
        (λ i. record { answer = answer_with number (vertex_count file) (edge_count file); offsets = u.starts i; targets = u.ends i; marks = marked i })
        ∙ ap (λ (x : ℕ). read_outcome_by x file offsets targets marks) (u.judged ∙ sym (number_chains p h))

    -- of the chains
    pub read_chains : (number ≡ 0 → ⊥) → read_exit (refusal_answer number) offsets' targets' marks' ≡ outcome_of_read file offsets targets marks
    read_chains k =
        ap (λ (x : ReadAnswer). read_exit x offsets' targets' marks') (sym (answer_refused number (vertex_count file) (edge_count file) k)) ∙ unchains

    -- or no refusal
    pub read_whole : {a : ReadAnswer} → number ≡ 0 → a ≡ record { number = 0; vertices = vertex_count file; edges = edge_count file }
        → read_exit a offsets' targets' marks' ≡ outcome_of_read file offsets targets marks
    read_whole k e =
        ap (λ (x : ReadAnswer). read_exit x offsets' targets' marks') (e ∙ sym (answer_whole number (vertex_count file) (edge_count file) k)) ∙ unchains

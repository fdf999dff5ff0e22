-- Facts about the encoding of rows: which word stands at each place of their file.
use mathlib.Core.Path.{◌≡◌, refl, sym, ap, ◌∙◌, subst}
use mathlib.Core.List.{List, [], ◌∷◌, ◌++◌}
use Prim.Native.Nat.{ℕ, zero, suc, ◌+◌, ◌*◌, ◌-◌, ◌≤◌, ◌<◌}
use native.Mathlib.Nat.{le_of_suc-le-suc, not-suc-le-zero, le_trans, le_of_eq}
use native.Mathlib.Numerals.{add-one}
use native.Mathlib.Omega.{arith}
use lib.ListN.{length, get_or, take, drop, length-append, length-drop, get_or-append}
use lib.Seq.{get_or-take, get_or-drop, length-take-le}
use borrow.Author.Tests.{eq-eqb, ne_eqb}
use Rattle.lists.proofs.Rows.{Rising, ends, rises, rising_below, rising_above, rising_step, Two, two_same, two_behind, two_before, two_later}
use Rattle.graph.specs.Graph.{Graph, targets_of, rows_of}
use Rattle.graph.specs.Encode.{head_of, heads_from, row_records, records_from, file_words}
use Rattle.writer.specs.Steps.{index_after}
use Rattle.graph.proofs.Bridge.{length_rows, row_between, rows_from}
use Rattle.graph.proofs.EncodeFacts.{length_heads, length_row, length_records}

-- the index is that of equal numbers
pub same_index : {k l end stop : ℕ} → k ≡ l → end ≡ stop → index_after k end ≡ index_after l stop
same_index p q = λ i. index_after (p i) (q i)

-- the index of a row's first record
head_of_index : (k : ℕ) (row : List ℕ) → head_of k row ≡ index_after k (k + length row)
unfolding head_of index_after
head_of_index k [] = rw (eq-eqb k (k + 0) (omega arith))
head_of_index k (t ∷ row) = rw (ne_eqb k (k + suc (length row)) (λ e. omega arith))

-- the target of record j of a row that stands after k records, and the index of the next
row_record : (k : ℕ) (row : List ℕ) (j : ℕ) → j < length row → Two (row_records k row) (2 * j) (get_or row j 0) (index_after (suc k + j) (k + length row))
unfolding row_records
row_record k [] j h = absurd (not-suc-le-zero h)
row_record k (t ∷ row) zero h = record { fst = refl; snd = head_of_index (suc k) row ∙ same_index (omega arith) (omega arith) }
row_record k (t ∷ row) (suc j) h =
    two_same (two_later j t (head_of (suc k) row) (row_record (suc k) row j (le_of_suc-le-suc h))) refl refl (same_index (omega arith) (omega arith))

-- a row of offsets that rise up to the end of the targets
module _ (targets : List ℕ) where
  row_size : (a b : ℕ) → a ≤ b → b ≤ length targets → length (take (b - a) (drop a targets)) ≡ b - a
  row_size a b h k = length-take-le (b - a) (drop a targets) (rw length-drop (omega arith))

  -- the rows have all targets from their first offset on
  length_targets : {a : ℕ} {offsets : List ℕ} → Rising (length targets) a offsets → a + length (targets_of (rows_of (a ∷ offsets) targets)) ≡ length targets
  length_targets {a} r = rw (rows_from targets r, length-drop) (omega (arith, rising_below r 0))

  -- the head of vertex u
  head_at : {a : ℕ} {offsets : List ℕ} → Rising (length targets) a offsets → (u : ℕ) → u < length offsets
      → get_or (heads_from a (rows_of (a ∷ offsets) targets)) u 0 ≡ index_after (get_or (a ∷ offsets) u 0) (get_or offsets u 0)
  unfolding rows_of heads_from
  head_at (ends e) u h = absurd (not-suc-le-zero h)
  head_at (rises {a} {b} {xs} h r) zero k = head_of_index a (take (b - a) (drop a targets)) ∙ same_index refl (row_between a b targets h (rising_below r 0))
  head_at (rises {a} {b} {xs} h r) (suc u) k =
      ap (λ (x : ℕ). get_or (heads_from x (rows_of (b ∷ xs) targets)) u 0) (row_between a b targets h (rising_below r 0)) ∙ head_at r u (le_of_suc-le-suc k)

  -- the record of edge k of vertex u
  record_at : {a : ℕ} {offsets : List ℕ} → Rising (length targets) a offsets → (u k : ℕ) → u < length offsets → get_or (a ∷ offsets) u 0 ≤ k → k < get_or offsets u 0
      → Two (records_from a (rows_of (a ∷ offsets) targets)) (2 * (k - a)) (get_or targets k 0) (index_after (k + 1) (get_or offsets u 0))
  unfolding rows_of records_from
  record_at (ends e) u k h l m = absurd (not-suc-le-zero h)
  record_at (rises {a} {b} {xs} h r) zero k i l m =
      let row : List ℕ = take (b - a) (drop a targets) in
      let size : length row ≡ b - a = row_size a b h (rising_below r 0) in
      let at : get_or row (k - a) 0 ≡ get_or targets k 0 =
      get_or-take (b - a) (drop a targets) (k - a) 0 (omega arith) ∙ get_or-drop a targets (k - a) 0 ∙ ap (λ (n : ℕ). get_or targets n 0) (omega arith) in
      two_before
      (two_same (row_record a row (k - a) (omega arith)) refl at (same_index (omega arith) (omega arith)))
      (records_from (a + length row) (rows_of (b ∷ xs) targets))
      (omega (arith, length_row a row))
  record_at (rises {a} {b} {xs} h r) (suc u) k i l m =
      let row : List ℕ = take (b - a) (drop a targets) in
      let size : length row ≡ b - a = row_size a b h (rising_below r 0) in
      let low : b ≤ get_or (b ∷ xs) u 0 = rising_above r u (omega arith) in
      subst
      (λ (x : ℕ). Two (row_records a row ++ records_from x (rows_of (b ∷ xs) targets)) (2 * (k - a)) (get_or targets k 0) (index_after (k + 1) (get_or xs u 0)))
      (sym (row_between a b targets h (rising_below r 0)))
      (two_same (two_behind (record_at r u k (le_of_suc-le-suc i) l m) (row_records a row)) (omega (arith, length_row a row)) refl refl)

-- what the code needs to know of rows that are not malformed: their offsets, and each word of their file
pub record Written (offsets targets : List ℕ) (n : ℕ) : Type 0 where
  pub from : get_or offsets 0 0 ≡ 0
  pub to : get_or offsets n 0 ≡ length targets
  pub below : (u : ℕ) → get_or offsets u 0 ≤ length targets
  pub rise : (u : ℕ) → u < n → get_or offsets u 0 ≤ get_or offsets (u + 1) 0
  pub size : length (file_words (rows_of offsets targets)) ≡ 2 + n + 2 * length targets
  pub vertices : n ≡ get_or (file_words (rows_of offsets targets)) 0 0
  pub edges : length targets ≡ get_or (file_words (rows_of offsets targets)) 1 0
  pub head : (u : ℕ) → u < n → index_after (get_or offsets u 0) (get_or offsets (u + 1) 0) ≡ get_or (file_words (rows_of offsets targets)) (2 + u) 0
  pub entry : (u k : ℕ) → u < n → get_or offsets u 0 ≤ k → k < get_or offsets (u + 1) 0
      → Two (file_words (rows_of offsets targets)) (2 + n + 2 * k) (get_or targets k 0) (index_after (k + 1) (get_or offsets (u + 1) 0))

-- the same of offsets that rise from 0 to the end of the targets
module _ (targets offsets : List ℕ) (r : Rising (length targets) 0 offsets) where
  length_words : length (file_words (rows_of (0 ∷ offsets) targets)) ≡ 2 + length offsets + 2 * length targets
  unfolding file_words
  length_words =
      let g : Graph = rows_of (0 ∷ offsets) targets in
      rw length-append (omega (arith, length_heads 0 g, length_records 0 g, length_rows (0 ∷ offsets) targets, length_targets targets r))

  next_offset : (u : ℕ) → get_or (0 ∷ offsets) (u + 1) 0 ≡ get_or offsets u 0
  next_offset u = ap (λ (i : ℕ). get_or (0 ∷ offsets) i 0) (add-one u)

  head_word : (u : ℕ) → u < length offsets → index_after (get_or (0 ∷ offsets) u 0) (get_or (0 ∷ offsets) (u + 1) 0) ≡ get_or (file_words (rows_of (0 ∷ offsets) targets)) (2 + u) 0
  unfolding file_words
  head_word u h =
      let g : Graph = rows_of (0 ∷ offsets) targets in
      let place : 2 + u ≡ suc (suc u) = omega arith in
      let inside : u < length (heads_from 0 g) = omega (arith, length_heads 0 g, length_rows (0 ∷ offsets) targets) in
      same_index refl (next_offset u)
      ∙ sym (head_at targets r u h)
      ∙ sym (get_or-append (heads_from 0 g) (records_from 0 g) 0 u inside)
      ∙ ap (λ (i : ℕ). get_or (file_words g) i 0) (sym place)

  record_words : (u k : ℕ) → u < length offsets → get_or (0 ∷ offsets) u 0 ≤ k → k < get_or (0 ∷ offsets) (u + 1) 0
      → Two (file_words (rows_of (0 ∷ offsets) targets)) (2 + length offsets + 2 * k) (get_or targets k 0) (index_after (k + 1) (get_or (0 ∷ offsets) (u + 1) 0))
  unfolding file_words
  record_words u k h i j =
      let g : Graph = rows_of (0 ∷ offsets) targets in
      let up : k < get_or offsets u 0 = omega (arith, next_offset u) in
      two_same
      (two_behind (two_behind (record_at targets r u k h i up) (heads_from 0 g)) (length g ∷ length (targets_of g) ∷ []))
      (omega (arith, length_heads 0 g, length_rows (0 ∷ offsets) targets))
      refl
      (same_index refl (sym (next_offset u)))

  first_words : Two (file_words (rows_of (0 ∷ offsets) targets)) 0 (length offsets) (length targets)
  unfolding file_words
  first_words = record { fst = length_rows (0 ∷ offsets) targets; snd = omega (arith, length_targets targets r) }

  pub written_rising : get_or (0 ∷ offsets) (length offsets) 0 ≡ length targets → Written (0 ∷ offsets) targets (length offsets)
  written_rising e = record {
    from = refl;
    to = e;
    below = rising_below r;
    rise = λ u h. le_trans (rising_step r u h) (le_of_eq (sym (next_offset u)));
    size = length_words;
    vertices = sym first_words.fst;
    edges = sym first_words.snd;
    head = head_word;
    entry = record_words;
  }

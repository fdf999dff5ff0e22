-- Lines of the pages: how long they are, and what is read in their columns.
use mathlib.Core.Bool.{Bool, true, false, cond}
use mathlib.Core.Path.{◌≡◌, refl, sym, ap, ◌∙◌}
use mathlib.Core.List.{List, [], ◌∷◌, ◌++◌, append_assoc}
use Prim.Native.Nat.{ℕ, zero, suc, ◌+◌, ◌-◌, ◌*◌, ◌/◌, ◌%◌, ◌^◌, ◌≤◌, ◌<◌}
use native.Mathlib.Omega.{arith}
use lib.Dec.{eqb, ltb}
use lib.ListN.{length, take, drop, replicate, length-append}
use lib.Seq.{take_at, drop_at}
use borrow.Author.Tests.{ne_eqb, eqb-true, eqb-false}
use Rattle.numbers.specs.Numbers.{max_vertices, unset}
use Rattle.lists.specs.Lists.{elem}
use Rattle.lists.proofs.Or.{none_or}
use Rattle.lists.proofs.Tests.{elem_append}
use Rattle.text.specs.Text.{space, line_feed, dash, digit, decimal_in, decimal, label_text, right_aligned}
use Rattle.text.proofs.DecimalFacts.{tenth_below, decimal_short}
use Rattle.text.proofs.TextFacts.{label_short, label_unset, label_set, length_aligned}
use Rattle.page.specs.Layout.{line_bytes, title, head_line, vertex_line}
use Rattle.page.specs.Columns.{digits_from, number_read, label_read, columns}

-- Numbers and labels, read.

-- digits behind digits
digits_append : (front : ℕ) (a b : List ℕ) → digits_from front (a ++ b) ≡ digits_from (digits_from front a) b
unfolding digits_from
digits_append front [] b = refl
digits_append front (byte ∷ a) b = digits_append (cond (eqb byte space) front (10 * front + (byte - 48))) a b

-- blanks count for nothing
digits_blank : (front count : ℕ) (text : List ℕ) → digits_from front (replicate count space ++ text) ≡ digits_from front text
unfolding digits_from
digits_blank front zero text = refl
digits_blank front (suc count) text = digits_blank front count text

-- one digit
digits_one : (front d : ℕ) → digits_from front (digit d ∷ []) ≡ 10 * front + d
unfolding digits_from
digits_one front d =
    let same : digit d - 48 ≡ d = omega arith in
    rw (ne_eqb (digit d) space (λ (q : digit d ≡ space). omega arith)) (ap (λ (x : ℕ). 10 * front + x) same)

-- a number is read as it is written
decimal_read : (k x : ℕ) → x < 10 ^ k → digits_from 0 (decimal_in k x) ≡ x
unfolding decimal_in digits_from
decimal_read zero x h = omega arith
decimal_read (suc k) x h = go (ltb x 10) (decimal_read k (x / 10) (tenth_below k x h))
  where
    go : (b : Bool) → digits_from 0 (decimal_in k (x / 10)) ≡ x / 10
        → digits_from 0 (cond b (digit x ∷ []) (decimal_in k (x / 10) ++ (digit (x % 10) ∷ []))) ≡ x
    go true front = digits_one 0 x ∙ omega arith
    go false front =
        digits_append 0 (decimal_in k (x / 10)) (digit (x % 10) ∷ [])
        ∙ ap (λ (y : ℕ). digits_from y (digit (x % 10) ∷ [])) front
        ∙ digits_one (x / 10) (x % 10)
        ∙ omega arith

-- so is one in a column
pub number_read_lem : (width x : ℕ) → x < 10 ^ 20 → number_read (right_aligned width (decimal x)) ≡ x
unfolding number_read right_aligned decimal
number_read_lem width x h = digits_blank 0 (width - length (decimal x)) (decimal x) ∙ decimal_read 20 x h

-- no blank is a dash
blanks_set : (count : ℕ) (text : List ℕ) → elem dash (replicate count space ++ text) ≡ elem dash text
unfolding elem
blanks_set zero text = refl
blanks_set (suc count) text = blanks_set count text

-- no digit is
digit_set : (d : ℕ) → elem dash (digit d ∷ []) ≡ false
unfolding elem
digit_set d = rw (ne_eqb dash (digit d) (λ (q : dash ≡ digit d). omega arith))

-- so a number has none
decimal_set : (k x : ℕ) → elem dash (decimal_in k x) ≡ false
unfolding decimal_in elem
decimal_set zero x = refl
decimal_set (suc k) x = go (ltb x 10) (decimal_set k (x / 10))
  where
    go : (b : Bool) → elem dash (decimal_in k (x / 10)) ≡ false
        → elem dash (cond b (digit x ∷ []) (decimal_in k (x / 10) ++ (digit (x % 10) ∷ []))) ≡ false
    go true front = digit_set x
    go false front = elem_append dash (decimal_in k (x / 10)) (digit (x % 10) ∷ []) ∙ none_or _ _ front (digit_set (x % 10))

-- a dash in a column is unset
unset_read : (width : ℕ) → label_read (right_aligned width (dash ∷ [])) ≡ unset
unfolding label_read right_aligned elem
unset_read width = rw (blanks_set (width - 1) (dash ∷ []))

-- a number in a column has none
number_set : (width x : ℕ) → elem dash (right_aligned width (decimal x)) ≡ false
unfolding right_aligned decimal
number_set width x = blanks_set (width - length (decimal x)) (decimal x) ∙ decimal_set 20 x

-- and is itself
set_read : (width x : ℕ) → x < 10 ^ 20 → label_read (right_aligned width (decimal x)) ≡ x
unfolding label_read
set_read width x h = rw (number_set width x) (number_read_lem width x h)

-- a label is read as it is written
pub label-read : (width word : ℕ) → word < 10 ^ 20 → label_read (right_aligned width (label_text word)) ≡ word
label-read width word h = go (eqb word unset) refl
  where
    go : (b : Bool) → eqb word unset ≡ b → label_read (right_aligned width (label_text word)) ≡ word
    go true e = let same = eqb-true word unset e in rw (label_unset word same) (unset_read width ∙ sym same)
    go false e = rw (label_set word (eqb-false word unset e)) (set_read width word h)

-- Lines.

-- the fourth power of 10
four : 10 ^ 4 ≡ 10000
four = refl

-- a vertex, or a page's number, has at most four digits
pub few_digits : (x : ℕ) → x ≤ max_vertices → length (decimal x) ≤ 4
few_digits x h = decimal_short 4 x (omega (arith, four)) (omega arith)

-- so four columns are enough
number_column : (width x : ℕ) → 4 ≤ width → x ≤ max_vertices → length (right_aligned width (decimal x)) ≡ width
number_column width x w h = omega (arith, length_aligned width (decimal x), few_digits x h)

-- for a label five are
label_column : (width word : ℕ) → 5 ≤ width → word < 65536 → length (right_aligned width (label_text word)) ≡ width
label_column width word w h = omega (arith, length_aligned width (label_text word), label_short word h)

-- a page's line one has 21 bytes
pub length_head : (number : ℕ) → number ≤ max_vertices → length (head_line number) ≡ line_bytes
unfolding head_line
length_head number h =
    let column : List ℕ = right_aligned 10 (decimal number) in
    omega (arith, length-append (title ++ column) (line_feed ∷ []), length-append title column, number_column 10 number (omega arith) h)

-- it is printed in these pieces
pub head_line_columns : (number : ℕ) → title ++ (right_aligned 10 (decimal number) ++ (line_feed ∷ [])) ≡ head_line number
unfolding head_line
head_line_columns number = sym (append_assoc title (right_aligned 10 (decimal number)) (line_feed ∷ []))

-- and a vertex's line in these
pub vertex_line_columns : (v distance parent : ℕ)
    → (right_aligned 5 (decimal v) ++ (space ∷ [])) ++ (right_aligned 7 (label_text distance) ++ (space ∷ []))
    ++ (right_aligned 6 (label_text parent) ++ (line_feed ∷ []))
    ≡ vertex_line v distance parent
unfolding vertex_line
vertex_line_columns v distance parent = simp append_assoc

-- what stands in columns is found by their places
column_at : (line front text rest : List ℕ) {a width : ℕ} → line ≡ front ++ (text ++ rest) → length front ≡ a → length text ≡ width
    → take width (drop a line) ≡ text
column_at line front text rest {a} {width} e p q =
    ap (λ (l : List ℕ). take width (drop a l)) e
    ∙ ap (λ (l : List ℕ). take width l) (drop_at front (text ++ rest) a p)
    ∙ take_at text rest width q

-- the page's number is read
pub head_read : (number : ℕ) → number ≤ max_vertices → number_read (columns 11 20 (head_line number)) ≡ number
unfolding head_line
head_read number h =
    let column : List ℕ = right_aligned 10 (decimal number) in
    let size = number_column 10 number (omega arith) h in
    ap number_read (column_at (head_line number) title column (line_feed ∷ []) (append_assoc title column (line_feed ∷ [])) refl size)
    ∙ number_read_lem 10 number (omega arith)

-- A vertex's line.
module _ (v distance parent : ℕ) (near : v < max_vertices) (far : distance < 65536) (up : parent < 65536) where
  -- columns 1 to 5
  abbrev vertex_column : List ℕ
  vertex_column = right_aligned 5 (decimal v)

  -- columns 7 to 13
  abbrev distance_column : List ℕ
  distance_column = right_aligned 7 (label_text distance)

  -- columns 15 to 20
  abbrev parent_column : List ℕ
  parent_column = right_aligned 6 (label_text parent)

  length_first : length vertex_column ≡ 5
  length_first = number_column 5 v (omega arith) (omega arith)

  length_second : length distance_column ≡ 7
  length_second = label_column 7 distance (omega arith) far

  length_third : length parent_column ≡ 6
  length_third = label_column 6 parent (omega arith) up

  -- it has 21 bytes
  pub length_vertex : length (vertex_line v distance parent) ≡ line_bytes
  unfolding vertex_line
  length_vertex =
      omega (
        arith,
        length-append (vertex_column ++ (space ∷ distance_column) ++ (space ∷ parent_column)) (line_feed ∷ []),
        length-append (vertex_column ++ (space ∷ distance_column)) (space ∷ parent_column),
        length-append vertex_column (space ∷ distance_column),
        length_first,
        length_second,
        length_third,
      )

  -- the vertex is read
  pub vertex_read : number_read (columns 1 5 (vertex_line v distance parent)) ≡ v
  unfolding vertex_line
  vertex_read =
      let rest : List ℕ = (space ∷ distance_column) ++ (space ∷ parent_column) ++ (line_feed ∷ []) in
      ap number_read (column_at (vertex_line v distance parent) [] vertex_column rest (simp append_assoc) refl length_first) ∙ number_read_lem 5 v (omega arith)

  -- its distance is
  pub distance_read : label_read (columns 7 13 (vertex_line v distance parent)) ≡ distance
  unfolding vertex_line
  distance_read =
      let front : List ℕ = vertex_column ++ (space ∷ []) in
      let rest : List ℕ = (space ∷ parent_column) ++ (line_feed ∷ []) in
      let size : length front ≡ 6 = omega (arith, length-append vertex_column (space ∷ []), length_first) in
      ap label_read (column_at (vertex_line v distance parent) front distance_column rest (simp append_assoc) size length_second) ∙ label-read 7 distance (omega arith)

  -- and its parent
  pub parent_read : label_read (columns 15 20 (vertex_line v distance parent)) ≡ parent
  unfolding vertex_line
  parent_read =
      let front : List ℕ = vertex_column ++ (space ∷ distance_column) ++ (space ∷ []) in
      let size : length front ≡ 14 =
      omega (arith, length-append (vertex_column ++ (space ∷ distance_column)) (space ∷ []), length-append vertex_column (space ∷ distance_column), length_first, length_second) in
      ap label_read (column_at (vertex_line v distance parent) front parent_column (line_feed ∷ []) (simp append_assoc) size length_third) ∙ label-read 6 parent (omega arith)

-- The pages as they are printed: they grow vertex by vertex, by the vertex's line and, where a page begins, by the page's line one.
use mathlib.Core.Bool.{Bool, true, false, cond}
use mathlib.Core.Path.{◌≡◌, refl, sym, ap, ◌∙◌}
use mathlib.Core.List.{List, [], ◌∷◌, ◌++◌, append_assoc, append-nil, flatten}
use Prim.Native.Nat.{ℕ, zero, suc, ◌+◌, ◌-◌, ◌/◌, ◌%◌, ◌≤◌, ◌<◌}
use native.Mathlib.Nat.{add-zero}
use native.Mathlib.Omega.{arith}
use lib.Dec.{eqb, ltb}
use lib.ListN.{length, get_or, take, drop, length-append, length-map, length-drop, drop_of_length-le}
use lib.Seq.{take_all, take-append-le, drop-append-le}
use borrow.Author.Tests.{eq-eqb, ne_eqb, ltb-true, ltb-false}
use Rattle.lists.specs.Lists.{numbers_from, chunks_in, chunks}
use Rattle.lists.proofs.Tests.{length_range, map_range_more}
use Rattle.lists.proofs.Chunks.{flatten_append, flatten_one, flatten_more, chunks_nil, chunks_first, chunks_more}
use Rattle.text.specs.Printed.{Prints}
use Rattle.text.proofs.PrintFacts.{prints_then, prints_same}
use Rattle.page.specs.Layout.{head_line, vertex_line, lines_by_vertex, headed, pages, page_text}
use Rattle.page.specs.Steps.{entry_text}

-- Growth.

-- the bytes of pages that count from `number` on, of these pieces
abbrev text_from : ℕ → List (List (List ℕ)) → List ℕ
text_from number pieces = flatten (flatten (headed number pieces))

-- the first page, and the others
text_cons : (number : ℕ) (page : List (List ℕ)) (rest : List (List (List ℕ)))
    → text_from number (page ∷ rest) ≡ head_line number ++ (flatten page ++ text_from (suc number) rest)
unfolding headed flatten
text_cons number page rest = ap (λ (l : List ℕ). head_line number ++ l) (flatten_append page (flatten (headed (suc number) rest)))

-- what line v adds, on pages that count from `number` on: a page's line one before it, where it is the first of a page
abbrev added : ℕ → ℕ → List ℕ → List ℕ
added number v line = cond (eqb (v % 50) 0) (head_line (number + v / 50)) [] ++ line

-- a line on a page that isn't full
added_within : (number v : ℕ) (line : List ℕ) → 1 ≤ v → v < 50 → added number v line ≡ line
added_within number v line a b = rw (ne_eqb (v % 50) 0 (λ (q : v % 50 ≡ 0). omega arith))

-- a line on a later page, counted from the second page on
added_later : (number v : ℕ) (line : List ℕ) → 50 ≤ v → added (suc number) (v - 50) line ≡ added number v line
added_later number v line h =
    let rest : (v - 50) % 50 ≡ v % 50 = omega arith in
    let count : suc number + (v - 50) / 50 ≡ number + v / 50 = omega arith in
    rw (rest, count)

-- the first page of some lines, and the others
text_first : (count number : ℕ) (lines : List (List ℕ)) → 1 ≤ length lines
    → text_from number (chunks_in 50 (suc count) lines)
    ≡ head_line number ++ (flatten (take 50 lines) ++ text_from (suc number) (chunks_in 50 count (drop 50 lines)))
text_first count number lines h =
    ap (text_from number) (chunks_first 50 count lines h) ∙ text_cons number (take 50 lines) (chunks_in 50 count (drop 50 lines))

-- a page that is the only one
text_only : (count number : ℕ) (lines : List (List ℕ)) → 1 ≤ length lines → length lines ≤ 50
    → text_from number (chunks_in 50 (suc count) lines) ≡ head_line number ++ flatten lines
unfolding headed flatten
text_only count number lines a b =
    text_first count number lines a
    ∙ (λ i. head_line number ++ (flatten (take_all 50 lines b i) ++ text_from (suc number) (chunks_in 50 count (drop_of_length-le lines b i))))
    ∙ ap (λ (rest : List (List (List ℕ))). head_line number ++ (flatten lines ++ text_from (suc number) rest)) (chunks_nil 50 count)
    ∙ ap (λ (l : List ℕ). head_line number ++ l) (append-nil (flatten lines))

-- four texts, grouped otherwise
regroup : (a b c d : List ℕ) → a ++ (b ++ (c ++ d)) ≡ (a ++ (b ++ c)) ++ d
regroup a b c d = simp append_assoc

-- no line
text_none : (count number : ℕ) → text_from number (chunks_in 50 count []) ≡ []
unfolding headed flatten
text_none count number = ap (text_from number) (chunks_nil 50 count)

module _ (count number : ℕ) (lines : List (List ℕ)) (line : List ℕ) where
  -- with one more line at the end
  abbrev both : List (List ℕ)
  both = lines ++ (line ∷ [])

  size : length both ≡ suc (length lines)
  size = omega (arith, length-append lines (line ∷ []))

  -- on a page that isn't full
  text_within : 1 ≤ length lines → length lines < 50
      → text_from number (chunks_in 50 (suc count) both) ≡ text_from number (chunks_in 50 (suc count) lines) ++ added number (length lines) line
  text_within a b =
      text_only count number both (omega (arith, size)) (omega (arith, size))
      ∙ ap (λ (l : List ℕ). head_line number ++ l) (flatten_more lines line)
      ∙ sym (append_assoc (head_line number) (flatten lines) line)
      ∙ (λ i. sym (text_only count number lines a (omega arith)) i ++ sym (added_within number (length lines) line a b) i)

  -- on a page behind the first
  text_past : 50 ≤ length lines
      → text_from (suc number) (chunks_in 50 count (drop 50 lines ++ (line ∷ [])))
      ≡ text_from (suc number) (chunks_in 50 count (drop 50 lines)) ++ added (suc number) (length (drop 50 lines)) line
      → text_from number (chunks_in 50 (suc count) both) ≡ text_from number (chunks_in 50 (suc count) lines) ++ added number (length lines) line
  text_past a later =
      let front : List ℕ = flatten (take 50 lines) in
      let rest : List ℕ = text_from (suc number) (chunks_in 50 count (drop 50 lines)) in
      let same = ap (λ (v : ℕ). added (suc number) v line) (length-drop 50 lines) ∙ added_later number (length lines) line a in
      text_first count number both (omega (arith, size))
      ∙ (λ i. head_line number ++ (flatten (take-append-le 50 lines (line ∷ []) a i)
      ++ text_from (suc number) (chunks_in 50 count (drop-append-le 50 lines (line ∷ []) a i))))
      ∙ ap (λ (l : List ℕ). head_line number ++ (front ++ l)) later
      ∙ regroup (head_line number) front rest (added (suc number) (length (drop 50 lines)) line)
      ∙ (λ i. sym (text_first count number lines (omega arith)) i ++ same i)

-- one more line at the end
text_more : (count : ℕ) (lines : List (List ℕ)) (line : List ℕ) (number : ℕ) → length lines < count
    → text_from number (chunks_in 50 count (lines ++ (line ∷ []))) ≡ text_from number (chunks_in 50 count lines) ++ added number (length lines) line
text_more zero lines line number h = absurd (omega arith)
text_more (suc count) [] line number h =
    text_only count number (line ∷ []) (omega arith) (omega arith)
    ∙ (λ i. head_line (sym (add-zero number) i) ++ flatten_one line i)
    ∙ ap (λ (l : List ℕ). l ++ added number 0 line) (sym (text_none (suc count) number))
text_more (suc count) (first ∷ rest) line number h =
    go (ltb (length (first ∷ rest)) 50) refl (text_more count (drop 50 (first ∷ rest)) line (suc number))
  where
    lines : List (List ℕ)
    lines = first ∷ rest

    go : (b : Bool) → ltb (length lines) 50 ≡ b
        → (length (drop 50 lines) < count
        → text_from (suc number) (chunks_in 50 count (drop 50 lines ++ (line ∷ [])))
        ≡ text_from (suc number) (chunks_in 50 count (drop 50 lines)) ++ added (suc number) (length (drop 50 lines)) line)
        → text_from number (chunks_in 50 (suc count) (lines ++ (line ∷ [])))
        ≡ text_from number (chunks_in 50 (suc count) lines) ++ added number (length lines) line
    go true e later = text_within count number lines line (omega arith) (ltb-true (length lines) 50 e)
    go false e later =
        let past = ltb-false (length lines) 50 e in
        text_past count number lines line past (later (omega (arith, length-drop 50 lines)))

-- Vertices' lines.
module _ (distances parents : List ℕ) where
  -- the line of v
  abbrev pub line_of : ℕ → List ℕ
  line_of v = vertex_line v (get_or distances v 0) (get_or parents v 0)

  -- as many lines as vertices
  pub length_lines : (n : ℕ) → length (lines_by_vertex n distances parents) ≡ n
  unfolding lines_by_vertex
  length_lines n = length-map (numbers_from 0 n) line_of ∙ length_range 0 n

  -- one more
  lines_more : (v : ℕ) → lines_by_vertex v distances parents ++ (line_of v ∷ []) ≡ lines_by_vertex (v + 1) distances parents
  unfolding lines_by_vertex
  lines_more v = map_range_more line_of v

  -- the pages of no vertex
  pub pages_none : [] ≡ page_text 0 distances parents
  unfolding page_text pages headed chunks chunks_in lines_by_vertex numbers_from flatten
  pages_none = refl

  -- the pages of one vertex more
  pub pages_more : (v : ℕ) → page_text v distances parents ++ entry_text v (get_or distances v 0) (get_or parents v 0) ≡ page_text (v + 1) distances parents
  unfolding page_text pages chunks entry_text
  pages_more v =
      let lines : List (List ℕ) = lines_by_vertex v distances parents in
      let size = length_lines v in
      let number : v / 50 + 1 ≡ 1 + v / 50 = omega arith in
      ap (λ (k : ℕ). text_from 1 (chunks 50 lines) ++ (cond (eqb (v % 50) 0) (head_line k) [] ++ line_of v)) number
      ∙ (λ i. text_from 1 (sym (chunks_more 50 (omega arith) (length lines) lines (omega arith)) i) ++ added 1 (sym size i) (line_of v))
      ∙ sym (text_more (suc (length lines)) lines (line_of v) 1 (omega arith))
      ∙ (λ i. text_from 1 (chunks_in 50 (sym (length_more lines (line_of v)) i) (lines ++ (line_of v ∷ []))))
      ∙ ap (λ (l : List (List ℕ)). text_from 1 (chunks 50 l)) (lines_more v)
    where
      length_more : (a : List (List ℕ)) (x : List ℕ) → length (a ++ (x ∷ [])) ≡ suc (length a)
      length_more a x = omega (arith, length-append a (x ∷ []))

-- Printing.

-- the first vertex of a page
pub entry_first : (v distance parent : ℕ) → v % 50 ≡ 0 → entry_text v distance parent ≡ head_line (v / 50 + 1) ++ vertex_line v distance parent
unfolding entry_text
entry_first v distance parent h = rw (eq-eqb (v % 50) 0 h)

-- another one
pub entry_other : (v distance parent : ℕ) → (v % 50 ≡ 0 → ⊥) → entry_text v distance parent ≡ vertex_line v distance parent
unfolding entry_text
entry_other v distance parent h = rw (ne_eqb (v % 50) 0 h)

-- a step that prints the next vertex
pub prints_entry : (v : ℕ) (distances parents : List ℕ) {distance parent : ℕ} {output output' output'' : List ℕ} {at at' at'' : ℕ}
    → distance ≡ get_or distances v 0 → parent ≡ get_or parents v 0
    → Prints (page_text v distances parents) output at output' at' → Prints (entry_text v distance parent) output' at' output'' at''
    → Prints (page_text (v + 1) distances parents) output at output'' at''
prints_entry v distances parents {distance} {parent} d p f g =
    prints_same (prints_then (page_text v distances parents) (entry_text v distance parent) f g)
    (ap (λ (x : ℕ). page_text v distances parents ++ entry_text v x parent) d
    ∙ ap (λ (x : ℕ). page_text v distances parents ++ entry_text v (get_or distances v 0) x) p
    ∙ pages_more distances parents v)

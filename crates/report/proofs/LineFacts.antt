-- The program's lines in the pieces in which they are printed.
use mathlib.Core.Path.{◌≡◌, refl, sym, ap, ◌∙◌}
use mathlib.Core.List.{List, [], ◌∷◌, ◌++◌, append_assoc, map, flatten}
use Prim.Native.Nat.{ℕ, ◌+◌, ◌≤◌, ◌<◌}
use native.Mathlib.Omega.{arith}
use lib.ListN.{length, get_or}
use Rattle.lists.specs.Lists.{numbers_from}
use Rattle.lists.proofs.Chunks.{flatten_more}
use Rattle.lists.proofs.Tests.{map_range_more}
use Rattle.text.specs.Text.{space, line_feed, decimal, label_text, right_aligned}
use Rattle.text.specs.Printed.{Prints}
use Rattle.text.proofs.DecimalFacts.{decimal_short}
use Rattle.text.proofs.PrintFacts.{prints_then, prints_same}
use Rattle.text.proofs.TextFacts.{unaligned}
use Rattle.report.specs.Lines.{first_line, vertex_line, vertex_lines}

-- line one, as its fields are printed
pub first_line_fields : (number used effective layer : ℕ)
    → (right_aligned 0 (decimal number) ++ (space ∷ [])) ++ (right_aligned 0 (decimal used) ++ (space ∷ []))
    ++ (right_aligned 0 (decimal effective) ++ (space ∷ [])) ++ (right_aligned 0 (decimal layer) ++ (line_feed ∷ []))
    ≡ first_line (record { number = number; used = used; effective = effective; layer = layer })
unfolding first_line
first_line_fields number used effective layer = simp (unaligned, append_assoc)

-- a vertex below 1000 has at most three digits
pub vertex_short : (vertex : ℕ) → vertex < 1000 → length (decimal vertex) ≤ 3
vertex_short vertex h = decimal_short 3 vertex h (omega arith)

-- a vertex's line, as its fields are printed
pub vertex_line_fields : (vertex distance parent : ℕ)
    → (right_aligned 0 (decimal vertex) ++ (space ∷ [])) ++ (right_aligned 0 (label_text distance) ++ (space ∷ []))
    ++ (right_aligned 0 (label_text parent) ++ (line_feed ∷ []))
    ≡ vertex_line vertex distance parent
unfolding vertex_line
vertex_line_fields vertex distance parent = simp (unaligned, append_assoc)

-- no lines yet
pub vertex_lines_none : (distances parents : List ℕ) → [] ≡ vertex_lines 0 distances parents
unfolding vertex_lines numbers_from flatten
vertex_lines_none distances parents = refl

-- one line more
pub vertex_lines_more : (v : ℕ) (distances parents : List ℕ)
    → vertex_lines v distances parents ++ vertex_line v (get_or distances v 0) (get_or parents v 0) ≡ vertex_lines (v + 1) distances parents
unfolding vertex_lines
vertex_lines_more v distances parents =
    let line : ℕ → List ℕ = λ (u : ℕ). vertex_line u (get_or distances u 0) (get_or parents u 0) in
    sym (flatten_more (map line (numbers_from 0 v)) (line v)) ∙ ap flatten (map_range_more line v)

-- a step that prints the next line
pub prints_line : (v : ℕ) (distances parents : List ℕ) {distance parent : ℕ} {output output' output'' : List ℕ} {at at' at'' : ℕ}
    → distance ≡ get_or distances v 0 → parent ≡ get_or parents v 0
    → Prints (vertex_lines v distances parents) output at output' at' → Prints (vertex_line v distance parent) output' at' output'' at''
    → Prints (vertex_lines (v + 1) distances parents) output at output'' at''
prints_line v distances parents {distance} {parent} d p f g =
    prints_same (prints_then (vertex_lines v distances parents) (vertex_line v distance parent) f g)
    (ap (λ (x : ℕ). vertex_lines v distances parents ++ vertex_line v x parent) d
    ∙ ap (λ (x : ℕ). vertex_lines v distances parents ++ vertex_line v (get_or distances v 0) x) p
    ∙ vertex_lines_more v distances parents)

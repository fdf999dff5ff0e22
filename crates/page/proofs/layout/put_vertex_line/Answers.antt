-- `page::layout::put_vertex_line` meets its contract: three columns, one behind the other, each wide enough for what stands in it.
use mathlib.Core.List.{List, [], ◌∷◌, ◌++◌}
use Prim.Native.Nat.{ℕ}
use Rattle.text.specs.Text.{space, line_feed, decimal, label_text, right_aligned}
use Rattle.text.proofs.PrintFacts.{prints_then, prints_same}
use Rattle.page.proofs.LineFacts.{vertex_line_columns}
use Rattle.page.proofs.layout.put_vertex_line.Goals as goal

pub returns-clause-prints : goal.returns-clause-prints
returns-clause-prints c =
    let a = c.args in
    let vertex : List ℕ = right_aligned 5 (decimal a.vertex) ++ (space ∷ []) in
    let distance : List ℕ = right_aligned 7 (label_text a.distance) ++ (space ∷ []) in
    let parent : List ℕ = right_aligned 6 (label_text a.parent) ++ (line_feed ∷ []) in
    let two = prints_then vertex distance c.put_field-first.ensures.prints (rw c.from.ensures at c.put_label-second.ensures.prints) in
    prints_same (prints_then (vertex ++ distance) parent two (rw c.from-2.ensures at c.put_label.ensures.prints))
    (vertex_line_columns a.vertex a.distance a.parent)

-- `page::layout::put_entry` meets its contract: the first vertex of a page has the page's line one before its own.
use mathlib.Core.Path.{sym}
use Prim.Native.Nat.{◌+◌, ◌/◌}
use Rattle.text.proofs.PrintFacts.{prints_then, prints_same}
use Rattle.page.specs.Layout.{head_line, vertex_line}
use Rattle.page.proofs.PageFacts.{entry_first}
use Rattle.page.proofs.layout.put_entry.Goals as goal

pub returns-clause-prints : goal.returns-clause-prints
returns-clause-prints c =
    let a = c.args in
    let both = prints_then (head_line (a.vertex / 50 + 1)) (vertex_line a.vertex a.distance a.parent) c.put_head_line-next.ensures.prints
    c.put_vertex_line-2.ensures.prints in
    prints_same both (sym (entry_first a.vertex a.distance a.parent c.if-vertex-ne0.false))

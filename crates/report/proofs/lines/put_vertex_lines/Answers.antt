-- `report::lines::put_vertex_lines` meets its contract: the lines grow vertex by vertex.
use mathlib.Core.Path.{refl}
use borrow.Author.Rules.{rules}
use Rattle.text.proofs.PrintFacts.{prints_none, prints_same}
use Rattle.report.proofs.LineFacts.{prints_line, vertex_lines_none}
use Rattle.report.proofs.lines.put_vertex_lines.Goals as goal

pub loop-vertex-init : goal.loop-vertex-init
loop-vertex-init c =
    let a = c.args in
    (search rules, prints_same (prints_none a.output.now refl) (vertex_lines_none a.distances.now a.parents.now))

pub loop-vertex-preserved : goal.loop-vertex-preserved
loop-vertex-preserved c =
    let a = c.args in (
      search rules,
      prints_line c.loop-vertex.vertex a.distances.now a.parents.now refl refl c.loop-vertex.invariant.1 c.put_vertex_line-next.ensures.prints,
    )

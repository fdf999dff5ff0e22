-- The loop's invariant: the lines of the vertices passed are printed, in at most 16 places each.
use Rattle.std.proofs.Common.{◌+◌, ◌*◌, ◌≤◌}
use Rattle.text.specs.Printed.{Prints}
use Rattle.report.specs.Lines.{vertex_lines}
use Rattle.report.proofs.lines.put_vertex_lines.Given as goal

abbrev pub invariant-loop-vertex : goal.invariant-loop-vertex
invariant-loop-vertex l = (l.next ≤ l.at + 16 * l.vertex)
    × Prints (vertex_lines l.vertex l.distances l.parents) l.initial.output l.at l.output l.next

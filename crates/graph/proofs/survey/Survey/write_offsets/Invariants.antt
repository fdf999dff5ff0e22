-- `graph::survey::Survey::write_offsets` meets its contract. The invariant is `Offsets`, and that `offset` is the vertex's own.
use mathlib.Core.Path.{◌≡◌}
use Prim.Native.Nat.{◌<◌}
use lib.ListN.{get_or}
use Rattle.graph.specs.Graph.{offsets_of}
use Rattle.graph.specs.File.{graph_of}
use Rattle.graph.proofs.RowFacts.{Offsets}
use Rattle.graph.proofs.survey.Survey.write_offsets.Given as goal

abbrev pub invariant-loop-vertex : goal.invariant-loop-vertex
invariant-loop-vertex l = (l.offset ≡ get_or (offsets_of (graph_of l.self.file.now)) l.vertex 0) × (l.offset < 65536) × Offsets l.self.file.now l.fn.offsets l.offsets l.vertex

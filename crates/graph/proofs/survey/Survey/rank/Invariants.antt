-- `graph::survey::Survey::rank` meets its contract. The invariant is `Ranking`, `Ahead` of the record and of the next vertex's head, and that the
-- places from m on are as they were. The measure is what is left of the vertices and of the records.
use mathlib.Core.Path.{◌≡◌}
use Prim.Native.Nat.{◌+◌, ◌-◌, min}
use lib.ListN.{length, drop}
use Rattle.graph.proofs.RankFacts.{Ranking}
use Rattle.graph.specs.File.{head_index}
use Rattle.graph.proofs.AheadFacts.{Ahead}
use Rattle.graph.proofs.survey.Survey.rank.Given as goal

abbrev pub invariant-loop-index : goal.invariant-loop-index
invariant-loop-index l = Ranking l.self.file.now l.self.vertices l.self.edges l.marks l.vertex l.index l.count × Ahead l.self.file.now l.self.edges l.index l.next l.after × (l.head ≡ head_index l.self.file.now (min l.vertex (l.self.vertices - 1))) × Ahead l.self.file.now l.self.edges l.head l.second l.third
    × (drop l.self.edges l.marks ≡ drop l.self.edges l.initial.marks) × (length l.marks ≡ length l.initial.marks)

abbrev pub decreases-loop-index : goal.decreases-loop-index
decreases-loop-index l = (l.self.vertices - l.vertex) + (l.self.edges - l.count)

-- `graph::steps::scan` meets its contract. The invariant is `Passing`, of the nexts behind the heads and of the targets.
use Prim.Native.Nat.{◌+◌}
use Rattle.graph.proofs.WordRuns.{Passing}
use Rattle.graph.proofs.steps.scan.Given as goal

abbrev pub invariant-loop-i : goal.invariant-loop-i
invariant-loop-i l = Passing l.file (l.n + 3) 2 l.m l.initial.index l.i l.index × Passing l.file (l.n + 2) 2 l.m l.initial.target l.i l.target

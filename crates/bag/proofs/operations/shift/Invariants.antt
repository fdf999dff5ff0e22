-- `bag::operations::shift` meets its contract. The invariant is Shifting (ShiftFacts).
use Rattle.bag.proofs.ShiftFacts.{Shifting}
use Rattle.bag.proofs.operations.shift.Given as goal

abbrev pub invariant-loop-k : goal.invariant-loop-k
invariant-loop-k l = Shifting l.initial.left l.right l.fn.bag.slots l.left l.first l.second l.k

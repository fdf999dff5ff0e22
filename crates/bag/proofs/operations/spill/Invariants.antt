-- `bag::operations::spill` meets its contract. The invariant is Spilling (SpillFacts).
use lib.ListN.{set}
use Rattle.bag.proofs.SpillFacts.{Spilling}
use Rattle.bag.proofs.operations.spill.Given as goal

abbrev pub invariant-loop-k : goal.invariant-loop-k
invariant-loop-k l = Spilling l.initial.left l.right (set l.initial.slots l.from l.root) l.from l.left l.slots l.k

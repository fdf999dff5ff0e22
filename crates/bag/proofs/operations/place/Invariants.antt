-- `bag::operations::place` meets its contract. The invariant is Placing (PlaceFacts). The measure is 16 less k.
use Prim.Native.Nat.{◌-◌}
use Rattle.bag.proofs.PlaceFacts.{Placing}
use Rattle.bag.proofs.operations.place.Given as goal

abbrev pub invariant-loop-slots : goal.invariant-loop-slots
invariant-loop-slots l = Placing l.initial.left l.initial.right l.initial.slots l.x l.left l.right l.slots l.root l.k

abbrev pub decreases-loop-slots : goal.decreases-loop-slots
decreases-loop-slots l = 16 - l.k

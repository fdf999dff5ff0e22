-- `bag::operations::union` meets its contract. The invariant is Uniting (UnionFacts), which a slot that is added and one that is passed both keep.
use Rattle.bag.proofs.UnionFacts.{Uniting}
use Rattle.bag.proofs.operations.union.Given as goal

abbrev pub invariant-loop-k : goal.invariant-loop-k
invariant-loop-k l = Uniting l.initial.left l.initial.right l.initial.slots l.other-items l.left l.right l.slots l.carry l.k

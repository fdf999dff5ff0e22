-- `bagkit::family::fill` meets its contract. The invariant: the pool is well-formed with the bags.
use Rattle.bag.specs.Promises.{Pooled}
use Rattle.bagkit.proofs.family.fill.Given as goal

abbrev pub invariant-loop-k : goal.invariant-loop-k
invariant-loop-k l = Pooled l.left l.right l.filled

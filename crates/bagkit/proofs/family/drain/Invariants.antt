-- `bagkit::family::drain` meets its contract. The invariant: the pool is well-formed with the bags.
use Rattle.bag.specs.Promises.{Pooled}
use Rattle.bagkit.proofs.family.drain.Given as goal

abbrev pub invariant-loop : goal.invariant-loop
invariant-loop l = Pooled l.left l.right l.rest

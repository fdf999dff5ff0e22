-- `runs_bags::order::comes_out` is safe. The invariant: the pool is well-formed with the bags.
use Rattle.bag.specs.Promises.{Pooled}
use Rattle.runs_bags.proofs.order.comes_out.Given as goal

abbrev pub invariant-loop-wanted : goal.invariant-loop-wanted
invariant-loop-wanted l = Pooled l.left l.right l.rest

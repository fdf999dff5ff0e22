-- `runs_pool::random_operations::rounds` is safe. The invariant: the pool is well-formed with the bags.
use Rattle.bag.specs.Promises.{Pooled}
use Rattle.runs_pool.proofs.random_operations.rounds.Given as goal

abbrev pub invariant-loop-round : goal.invariant-loop-round
invariant-loop-round l = Pooled l.left l.right l.bags

-- `workers::crew::gather` meets its contract. The invariant is Gathering (GatherFacts).
use Rattle.workers.proofs.GatherFacts.{Gathering}
use Rattle.workers.proofs.crew.gather.Given as goal

abbrev pub invariant-loop-output : goal.invariant-loop-output
invariant-loop-output l = Gathering l.initial.bag l.output-items l.initial.left l.initial.right l.output-index l.left l.right l.bag

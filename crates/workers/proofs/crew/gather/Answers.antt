-- `workers::crew::gather` meets its contract. The invariant is Gathering (GatherFacts).
use Rattle.workers.proofs.GatherFacts.{gather_start, gather_requires, gather_step, gather_end}
use Rattle.workers.proofs.crew.gather.Goals as goal

pub loop-output-init : goal.loop-output-init
loop-output-init c = search gather_start

pub union-bag-requires : goal.union-bag-requires
union-bag-requires c = search gather_requires

pub loop-output-preserved : goal.loop-output-preserved
loop-output-preserved c = search gather_step

pub returns : goal.returns
returns c = search gather_end

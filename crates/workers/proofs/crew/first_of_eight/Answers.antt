-- `workers::crew::first_of_eight` meets its contract: the bag in the place of the first of eight empty ones.
use mathlib.Core.Path.{ap}
use lib.ListN.{set, replicate}
use Rattle.numbers.specs.Numbers.{max_workers}
use Rattle.bag.specs.declared.Bag as declared
use Rattle.workers.proofs.crew.first_of_eight.Goals as goal

pub returns : goal.returns
returns c = ap (λ (none : declared.Bag). set (replicate max_workers none) 0 c.args.bag) c.empty-none.ensures

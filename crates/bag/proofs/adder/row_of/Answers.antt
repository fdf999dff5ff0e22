-- `bag::adder::row_of` meets its contract: the row counts the pennants that are there.
use Rattle.bag.proofs.AddFacts.{row_whole}
use Rattle.bag.proofs.adder.row_of.Goals as goal

pub returns-clause-value : goal.returns-clause-value
returns-clause-value c = row_whole c.args.x c.args.y c.args.z c.filled.ensures.value c.filled-2.ensures.value c.filled-3.ensures.value

-- `bag::adder::filled` meets its contract, by cases (AddFacts).
use Rattle.std.proofs.Common.{◌∙◌}
use Rattle.bag.proofs.AddFacts.{present_bool}
use Rattle.bag.proofs.adder.filled.Goals as goal

pub returns-clause-value : goal.returns-clause-value
returns-clause-value c = c.from.ensures ∙ present_bool c.args.x

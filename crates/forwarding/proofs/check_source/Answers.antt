-- `forwarding::check_source` meets its contract: each way out has the number that the tests which led there give.
use Rattle.forwarding.proofs.SourceFacts.{source_far, sleepers_refused, sleepers_taken}
use Rattle.forwarding.proofs.check_source.Goals as goal

pub returns-then-n-source : goal.returns-then-n-source
returns-then-n-source c =
    let a = c.args in source_far a.n a.source a.sleepers.now c.if-n-source.true

pub returns-then-sleepers_wrong : goal.returns-then-sleepers_wrong
returns-then-sleepers_wrong c =
    let a = c.args in
    sleepers_refused a.n a.source a.sleepers.now c.if-n-source.false c.sleepers_wrong.ensures c.if-sleepers_wrong.true

pub returns : goal.returns
returns c =
    let a = c.args in
    sleepers_taken a.n a.source a.sleepers.now c.if-n-source.false c.sleepers_wrong.ensures c.if-sleepers_wrong.false

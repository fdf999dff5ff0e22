-- `forwarding::may_forward` meets its contract: the source may, and another vertex by its byte.
use borrow.Author.Tests.{eq-eqb, ne_eqb}
use Rattle.forwarding.specs.Sleepers.{is_sleepy, may_forward}
use Rattle.forwarding.proofs.may_forward.Goals as goal

pub returns-then-vertex-source : goal.returns-then-vertex-source
unfolding may_forward
returns-then-vertex-source c =
    let a = c.args in rw (eq-eqb a.vertex a.source c.if-vertex-source.true)

pub returns : goal.returns
unfolding may_forward is_sleepy
returns c =
    let a = c.args in rw (ne_eqb a.vertex a.source c.if-vertex-source.false)

-- `workers::moves::hold` meets its contract, by cases.
use Rattle.workers.proofs.RowFacts.{hold_there, hold_free}
use Rattle.workers.proofs.moves.hold.Goals as goal

pub returns-then-edge-end : goal.returns-then-edge-end
returns-then-edge-end c =
    λ offsets ends.
    let a = c.args in
    hold_there offsets a.vertex a.edge a.end ends c.if-edge-end.true

pub returns-else-edge-end : goal.returns-else-edge-end
returns-else-edge-end c =
    λ offsets ends.
    let a = c.args in
    hold_free offsets a.vertex a.edge a.end ends c.if-edge-end.false

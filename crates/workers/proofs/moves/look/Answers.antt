-- `workers::moves::look` meets its contract, by cases.
use mathlib.Core.Path.{refl}
use lib.ListN.{get_or}
use Rattle.workers.proofs.RowFacts.{look_unset, look_set}
use Rattle.workers.proofs.moves.look.Goals as goal

pub returns-then-at : goal.returns-then-at
returns-then-at c =
    λ offsets ends.
    let a = c.args in
    let label = c.at in
    look_unset offsets a.targets.now a.distances.now a.vertex a.edge a.end (get_or a.targets.now a.edge 0) label.result refl
    label.ensures ends c.if-at.true

pub returns : goal.returns
returns c =
    λ offsets ends.
    let a = c.args in
    let label = c.at in
    look_set offsets a.targets.now a.distances.now a.vertex a.edge a.end (get_or a.targets.now a.edge 0) label.result refl
    label.ensures c.hold.result (c.hold.ensures offsets ends) c.if-at.false

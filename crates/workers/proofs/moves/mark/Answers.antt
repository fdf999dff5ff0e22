-- `workers::moves::mark` meets its contract, by cases of the distance that stood there.
use native.Mathlib.Omega.{arith}
use mathlib.Core.Path.{◌∙◌}
use Prim.Native.Nat.{◌+◌}
use Rattle.workers.proofs.CountFacts.{count_unset, count_set}
use Rattle.workers.proofs.moves.mark.Goals.{then-old, else-old}
use Rattle.workers.proofs.moves.mark.Goals as goal

pub returns-clause-histogram_after : goal.returns-clause-histogram_after
returns-clause-histogram_after c =
    let a = c.args in
    let old = c.at-old in
    let place = a.layer + 1 in
    elim c.if-old.branch [
      | then-old w ↦
          count_unset a.distances.now a.histogram.now a.target place old.result old.ensures (omega (arith, w.if-old.true)) w.at.ensures
          (w.histogram-is ∙ w.put.ensures)
      | else-old w ↦
          w.histogram-is ∙ count_set a.distances.now a.histogram.now a.target place old.result old.ensures w.if-old.false
    ]

-- `workers::moves::begin` meets its contract: the number that is taken is a vertex, so its row is there, and it is held at its first edge.
use native.Mathlib.Omega.{arith}
use mathlib.Core.Path.{ap, ◌∙◌}
use Prim.Native.Nat.{ℕ, ◌+◌, ◌<◌}
use lib.ListN.{length, get_or}
use Rattle.workers.proofs.MoveFacts.{taken_copies, begun_from}
use Rattle.workers.proofs.moves.begin.Goals.{After-take-taken}
use Rattle.workers.proofs.moves.begin.Goals as goal

-- the number taken is a vertex
below : (c : After-take-taken) → c.take-taken.result.value + 1 < length c.args.offsets.now
below c =
    let a = c.args in
    c.requires.by_index c.take-taken.result.value
    (taken_copies a.left.now a.right.now a.values.now a.input c.requires.input_value c.take-taken.ensures)

pub at-requires : goal.at-requires
at-requires c = omega (arith, below (goal.at.at-requires c).After-take-taken)

pub bounds-offsets-from : goal.bounds-offsets-from
bounds-offsets-from c = omega (arith, below (goal.at.bounds-offsets-from c).After-take-taken, c.from-2.ensures)

pub returns : goal.returns
returns c =
    let offsets = c.args.offsets.now in
    let first = c.from.ensures ∙ c.at.ensures in
    let end = c.from-3.ensures ∙ ap (λ (i : ℕ). get_or offsets (i + 1) 0) c.from-2.ensures in
    begun_from c.take-taken.ensures first (c.hold.ensures offsets end)

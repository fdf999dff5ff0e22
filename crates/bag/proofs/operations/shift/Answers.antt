-- `bag::operations::shift` meets its contract. The invariant is Shifting (ShiftFacts).
use borrow.Author.Rules.{rules}
use mathlib.Core.Path.{◌≡◌}
use Prim.Native.Nat.{◌<◌}
use lib.ListN.{length}
use Rattle.bag.proofs.ShiftFacts.{next_slot, shifting_root, shifting_half, shifting_one, shifting_step, shifting_done}
use Rattle.bag.proofs.operations.shift.Goals as goal

pub halve-requires : goal.halve-requires
halve-requires c =
    let a = c.args in
    let now = c.loop-k in
    let long : length a.bag.slots ≡ 16 = search rules in
    let test : now.k < 15 = search rules in
    let next = next_slot a.bag.slots now.k test in
    record {
      x_in_bounds = rw next (shifting_root a.left.now a.right.now a.bag.slots c.requires long now.left now.first now.second now.k now.invariant test);
      x_in_bounds_2 = rw next (shifting_half a.left.now a.right.now a.bag.slots c.requires long now.left now.first now.second now.k now.invariant test);
    }

pub loop-k-preserved : goal.loop-k-preserved
loop-k-preserved c =
    let a = c.args in
    let now = c.loop-k in
    let long : length a.bag.slots ≡ 16 = search rules in
    let test : now.k < 15 = search rules in
    let halved = c.halve in
    let next = next_slot a.bag.slots now.k test in
    shifting_step a.left.now a.right.now a.bag.slots c.requires long now.left now.first now.second now.k now.invariant test _ next halved.new.left halved.result (halved.ensures now.k (rw next (shifting_one a.left.now a.right.now a.bag.slots c.requires long now.left now.first now.second now.k now.invariant test))) halved.auto.left

pub returns : goal.returns
returns c =
    let a = c.args in
    let now = c.loop-k in
    let long : length a.bag.slots ≡ 16 = search rules in
    shifting_done a.left.now a.right.now a.bag.slots c.requires long now.left now.first now.second now.k now.invariant (search rules)

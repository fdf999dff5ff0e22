-- `bag::operations::spill` meets its contract. The invariant is Spilling (SpillFacts).
use borrow.Author.Rules.{rules}
use native.Mathlib.Omega.{arith}
use mathlib.Core.Path.{◌≡◌}
use Prim.Native.Nat.{◌-◌, suc}
use lib.ListN.{length}
use Rattle.bag.proofs.SpillFacts.{spilling_in, spilling_out, spilling_root, spilling_half, spilling_start, spilling_one, spilling_step, spilling_done}
use Rattle.bag.proofs.operations.spill.Goals as goal

pub loop-k-init : goal.loop-k-init
loop-k-init c =
    let a = c.args in
    let long : length a.bag.slots ≡ 16 = search rules in
    spilling_in a.left.now a.right.now a.bag.slots a.from
    (spilling_start a.left.now a.right.now a.bag.slots a.from c.requires.pooled long c.requires.from_bound c.requires.filled)

pub halve-requires : goal.halve-requires
halve-requires c =
    let a = c.args in
    let now = c.loop-k in
    let long : length a.bag.slots ≡ 16 = search rules in
    let inv = spilling_out a.left.now a.right.now a.bag.slots a.from now.invariant in
    record {
      x_in_bounds = spilling_root a.left.now a.right.now a.bag.slots a.from c.requires.pooled long c.requires.from_bound c.requires.filled now.left now.slots now.k inv;
      x_in_bounds_2 = λ _. spilling_half a.left.now a.right.now a.bag.slots a.from c.requires.pooled long c.requires.from_bound c.requires.filled now.left now.slots now.k inv (now.k - 1) (search rules);
    }

pub offset_bounds-slots-k : goal.offset_bounds-slots-k
offset_bounds-slots-k c = omega (arith, c.loop-k.invariant.below)

pub bounds-slots-k : goal.bounds-slots-k
bounds-slots-k c = omega (arith, c.loop-k.invariant.below, c.requires.from_bound)

pub loop-k-preserved : goal.loop-k-preserved
loop-k-preserved c =
    let a = c.args in
    let now = c.loop-k in
    let long : length a.bag.slots ≡ 16 = search rules in
    let inv = spilling_out a.left.now a.right.now a.bag.slots a.from now.invariant in
    let halved = c.halve in
    let one : suc (now.k - 1) ≡ now.k = search rules in
    spilling_in a.left.now a.right.now a.bag.slots a.from
    (spilling_step a.left.now a.right.now a.bag.slots a.from c.requires.pooled long c.requires.from_bound c.requires.filled now.left now.slots now.k inv (now.k - 1) one halved.new.left halved.result (halved.ensures (now.k - 1) (rw one (spilling_one a.left.now a.right.now a.bag.slots a.from c.requires.pooled long c.requires.from_bound c.requires.filled now.left now.slots now.k inv))) halved.auto.left)

pub returns : goal.returns
returns c =
    let a = c.args in
    let now = c.loop-k in
    let long : length a.bag.slots ≡ 16 = search rules in
    let inv = spilling_out a.left.now a.right.now a.bag.slots a.from now.invariant in
    spilling_done a.left.now a.right.now a.bag.slots a.from c.requires.pooled long c.requires.from_bound c.requires.filled now.left now.slots now.k inv (search rules)

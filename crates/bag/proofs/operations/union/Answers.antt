-- `bag::operations::union` meets its contract. The invariant is Uniting (UnionFacts), which a slot that is added and one that is passed both keep.
use borrow.Author.Rules.{rules}
use native.Mathlib.Omega.{arith}
use mathlib.Core.Path.{◌≡◌}
use lib.ListN.{length}
use Rattle.bag.proofs.Outcomes.{unites}
use Rattle.bag.proofs.UnionFacts.{uniting_slot, uniting_other, uniting_carry, uniting_start, uniting_three, uniting_step, uniting_pass, uniting_done}
use Rattle.bag.proofs.operations.union.Goals.{then-other-ne0, else-other-ne0+else-carry-ne0}
use Rattle.bag.proofs.operations.union.Goals as goal

pub loop-k-init : goal.loop-k-init
loop-k-init c =
    let a = c.args in
    uniting_start a.left.now a.right.now a.a.slots a.b.slots (search rules)

pub add-sum-requires : goal.add-sum-requires
add-sum-requires c =
    let a = c.args in
    let now = c.loop-k in
    let long : length a.b.slots ≡ 16 = search rules in
    let test = c.loop-k-test.true in
    record {
      x_in_bounds = uniting_slot a.left.now a.right.now a.a.slots a.b.slots c.requires long now.left now.right now.slots now.carry now.k now.invariant test;
      y_in_bounds = uniting_other a.left.now a.right.now a.a.slots a.b.slots c.requires long now.left now.right now.slots now.carry now.k now.invariant test;
      z_in_bounds = uniting_carry a.left.now a.right.now a.a.slots a.b.slots c.requires long now.left now.right now.slots now.carry now.k now.invariant test;
      left_in_bounds = omega (arith, c.requires.wide, now.invariant.left_length, now.invariant.right_length);
    }

pub loop-k-preserved : goal.loop-k-preserved
loop-k-preserved c =
    let a = c.args in
    let now = c.loop-k in
    let long : length a.b.slots ≡ 16 = search rules in
    let test = c.loop-k-test.true in
    let three = uniting_three a.left.now a.right.now a.a.slots a.b.slots c.requires long now.left now.right now.slots now.carry now.k now.invariant test in
    let step = uniting_step a.left.now a.right.now a.a.slots a.b.slots c.requires long now.left now.right now.slots now.carry now.k now.invariant test in
    let pass = uniting_pass a.left.now a.right.now a.a.slots a.b.slots c.requires long now.left now.right now.slots now.carry now.k now.invariant test in
    elim c.if-other-ne0.branch [
      | then-other-ne0 w ↦
          let added = w.add-sum in
          rw (w.left-is, w.right-is, w.slots-is, w.carry-is)
          (step added.new.left added.new.right added.result.slot added.result.carry (added.ensures now.k three) added.auto.left added.auto.right)
      | else-other-ne0+else-carry-ne0 w ↦
          rw (w.left-is, w.right-is, w.slots-is, w.carry-is) (pass w.if-other-ne0.false w.if-carry-ne0.false)
    ]

pub returns : goal.returns
returns c =
    let a = c.args in
    let now = c.loop-k in
    let long : length a.b.slots ≡ 16 = search rules in
    unites a.left.now a.right.now a.a.slots a.b.slots now.left now.right now.slots c.requires
    (uniting_done a.left.now a.right.now a.a.slots a.b.slots c.requires long now.left now.right now.slots now.carry now.k now.invariant (search rules)) now.invariant.kept now.invariant.left_length now.invariant.right_length now.invariant.long

-- `bag::operations::place` meets its contract. The invariant is Placing (PlaceFacts). The measure is 16 less k.
use borrow.Author.Rules.{rules}
use native.Mathlib.Omega.{arith}
use Rattle.bag.proofs.PlaceFacts.{placed_on, placing_start, placing_root, placing_filled, placing_step, placing_done}
use Rattle.bag.proofs.operations.place.Goals as goal

pub loop-slots-init : goal.loop-slots-init
loop-slots-init c = placing_start c.args.left.now c.args.right.now c.args.bag.slots c.args.x c.requires (search rules)

pub link-requires : goal.link-requires
link-requires c =
    let a = c.args in
    let now = c.loop-slots in
    let root = placing_root a.left.now a.right.now a.bag.slots a.x c.requires now.left now.right now.slots now.root now.k now.invariant in
    record {
      x_in_bounds = placing_filled a.left.now a.right.now a.bag.slots a.x c.requires now.left now.right now.slots now.root now.k now.invariant c.loop-slots-test.true;
      y_in_bounds = omega (arith, root, c.requires.wide, now.invariant.left_length, now.invariant.right_length);
    }

pub loop-slots-preserved : goal.loop-slots-preserved
loop-slots-preserved c =
    let a = c.args in
    let now = c.loop-slots in
    let linked = c.link in
    placed_on a.left.now a.right.now a.bag.slots a.x
    (placing_step a.left.now a.right.now a.bag.slots a.x c.requires now.left now.right now.slots now.root now.k now.invariant c.loop-slots-test.true)
    linked.ensures.left_after
    linked.ensures.right_after

pub returns : goal.returns
returns c =
    let a = c.args in
    let now = c.loop-slots in
    placing_done a.left.now a.right.now a.bag.slots a.x c.requires now.left now.right now.slots now.root now.k now.invariant c.loop-slots-test.false

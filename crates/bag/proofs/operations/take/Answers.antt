-- `bag::operations::take` meets its contract: the lowest filled slot is spread over those below, and its root is freed.
use borrow.Author.Rules.{rules}
use native.Mathlib.Omega.{arith}
use mathlib.Core.Path.{◌≡◌, refl, sym, ◌∙◌}
use mathlib.Core.Bool.{false}
use Prim.Native.Nat.{◌<◌}
use Rattle.std.proofs.Common.{Some}
use Rattle.pennant.specs.Bag.{is_empty}
use Rattle.bag.specs.Nodes.{nodes_of}
use Rattle.bag.proofs.FilledFacts.{first_filled, Lowest, filled_position, lowest_found}
use Rattle.bag.proofs.HeldFacts.{held_empty}
use Rattle.bag.proofs.Outcomes.{taken_within, takes}
use Rattle.bag.proofs.operations.take.Goals.{After-lowest, After-unwrap-k, Start}
use Rattle.bag.proofs.operations.take.Goals as goal

-- there is a node
some_node : (c : Start) → is_empty (nodes_of c.args.left.now c.args.right.now c.args.bag) ≡ false
some_node c = sym (held_empty c.args.left.now c.args.right.now c.args.values.now c.args.bag) ∙ c.requires.bag_value

-- so a filled slot is found
found : (c : After-lowest) → c.lowest.result ≡ Some (first_filled 0 c.args.bag.slots)
found c =
    let slots = c.args.bag.slots in
    c.lowest.ensures
    ∙ filled_position slots (lowest_found c.args.left.now c.args.right.now slots refl (some_node (goal.at.After-lowest c).Start)).within

-- it is the lowest one
low : (c : After-unwrap-k) → Lowest c.args.left.now c.args.right.now c.args.bag.slots 0 c.unwrap-k.result
low c =
    let at : c.unwrap-k.result ≡ first_filled 0 c.args.bag.slots = cc (found (goal.at.After-unwrap-k c).After-lowest, c.unwrap-k.ensures) in
    lowest_found c.args.left.now c.args.right.now c.args.bag.slots at (some_node (goal.at.After-unwrap-k c).Start)

-- one of 16
low_within : (c : After-unwrap-k) → c.unwrap-k.result < 16
low_within c = omega (arith, (low c).within, c.requires.pooled.formed.0.sixteen)

pub unwrap-k-requires : goal.unwrap-k-requires
unwrap-k-requires c = rw (found (goal.at.unwrap-k-requires c).After-lowest) refl

pub offset_bounds-slots-k : goal.offset_bounds-slots-k
offset_bounds-slots-k c = omega (arith, low_within c)

pub bounds-slots-k : goal.bounds-slots-k
bounds-slots-k c = low_within c

pub spill-rest-requires : goal.spill-rest-requires
spill-rest-requires c = record {
  pooled = c.requires.pooled;
  from_bound = low_within (goal.at.spill-rest-requires c).After-unwrap-k;
  filled = (low (goal.at.spill-rest-requires c).After-unwrap-k).some;
}

pub release-requires : goal.release-requires
release-requires c =
    let a = c.args in
    omega (
      arith,
      taken_within a.left.now a.right.now a.bag.slots c.requires.pooled (some_node (goal.at.release-requires c).Start) c.unwrap-k.result (low (goal.at.release-requires c).After-unwrap-k),
      c.spill-rest.auto.left,
    )

pub at-requires : goal.at-requires
at-requires c =
    let a = c.args in
    omega (
      arith,
      taken_within a.left.now a.right.now a.bag.slots c.requires.pooled (some_node (goal.at.at-requires c).Start) c.unwrap-k.result (low (goal.at.at-requires c).After-unwrap-k),
      c.requires.left_in_bounds,
    )

pub returns : goal.returns
returns c =
    let a = c.args in
    let spilled = c.spill-rest in
    takes a.left.now a.right.now a.bag.slots c.requires.pooled (some_node (goal.at.returns c).Start) c.unwrap-k.result (low (goal.at.returns c).After-unwrap-k)
    spilled.new.left spilled.result.slots spilled.ensures spilled.auto.left (search rules)
    a.values.now c.release.ensures c.at.ensures

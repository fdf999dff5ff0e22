-- `bag::operations::insert` meets its contract: the first free node is apart from the bag, and is placed in it.
use borrow.Author.Rules.{rules}
use native.Mathlib.Omega.{arith}
use mathlib.Core.Path.{ap, ◌∙◌}
use Prim.Native.Nat.{ℕ}
use lib.ListN.{set}
use Rattle.bag.proofs.Outcomes.{loosened, placed_in, next_within, next_loose, inserts}
use Rattle.bag.proofs.operations.insert.Goals as goal

pub allocate-x-requires : goal.allocate-x-requires
allocate-x-requires c =
    let a = c.args in
    let within = next_within a.left.now a.right.now a.bag.slots c.requires.pooled c.requires.some_free in
    record {
      left_nonzero = c.requires.pooled.some;
      left_in_bounds = within;
      left_in_bounds_2 = omega (arith, within, c.requires.left_in_bounds);
    }

pub place-requires : goal.place-requires
place-requires c =
    let a = c.args in
    let first = c.allocate-x in
    loosened a.left.now a.right.now a.bag.slots first.ensures.value first.ensures.left_after (next_loose a.left.now a.right.now a.bag.slots c.requires.pooled c.requires.some_free)

pub returns : goal.returns
returns c =
    let a = c.args in
    let first = c.allocate-x in
    let placed = c.place in
    inserts a.left.now a.right.now a.bag.slots c.requires.pooled c.requires.some_free a.values.now a.value placed.new.left placed.new.right placed.result.slots
    c.requires.left_in_bounds
    (first.ensures.values_after ∙ ap (λ (x : ℕ). set a.values.now x a.value) first.ensures.value)
    (placed_in a.left.now a.right.now a.bag.slots first.ensures.value first.ensures.left_after placed.ensures)
    (placed.auto.left ∙ first.auto.left)
    placed.auto.right
    (search rules)

-- `bag::adder::add` meets its contract, by the rule of the table (AddFacts).
use native.Mathlib.Omega.{arith}
use lib.ListN.{length}
use Rattle.bag.proofs.AddFacts.{entry_below, add_whole}
use Rattle.bag.proofs.adder.add.Goals as goal

pub link_some-requires : goal.link_some-requires
link_some-requires c =
    let a = c.args in
    let row = c.row_of-row in
    record {
      x_in_bounds = rw c.pick-root.ensures (entry_below a.x a.y a.z row.result 1 (length a.left.now) row.ensures.upper_bound (omega arith) c.requires.x_in_bounds c.requires.y_in_bounds c.requires.z_in_bounds);
      y_in_bounds = rw c.pick.ensures (entry_below a.x a.y a.z row.result 2 (length a.right.now) row.ensures.upper_bound (omega arith) (omega arith) (omega arith) (omega arith));
    }

pub returns : goal.returns
returns c =
    let a = c.args in
    let linked = c.link_some in
    λ k p. add_whole a.left.now a.right.now k a.x a.y a.z p c.row_of-row.ensures.value c.pick-root.ensures c.pick.ensures c.pick-2.ensures linked.ensures.left_after linked.ensures.right_after

-- `bag::adder::link_some` meets its contract, by cases.
use borrow.Author.Rules.{rules}
use Rattle.bag.proofs.AddFacts.{linked_some, linked_none}
use Rattle.bag.proofs.adder.link_some.Goals as goal

pub returns-then-x-ne0 : goal.returns-then-x-ne0
returns-then-x-ne0 c =
    let linked = c.link in
    let both = linked_some c.args.x c.args.y c.args.left.now c.args.right.now (search rules) linked.ensures.left_after linked.ensures.right_after in
    record { left_after = both.0; right_after = both.1 }

pub returns-else-x-ne0 : goal.returns-else-x-ne0
returns-else-x-ne0 c =
    let both = linked_none c.args.x c.args.y c.args.left.now c.args.right.now (search rules) in
    record { left_after = both.0; right_after = both.1 }

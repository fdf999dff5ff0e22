-- `bag::operations::split` meets its contract: with slot 0 empty the two halves are whole, else its node is placed in the first.
use borrow.Author.Rules.{rules}
use Rattle.bag.proofs.Outcomes.{split_even, odd_loose, split_odd}
use Rattle.bag.proofs.operations.split.Goals as goal

pub returns-then-odd-eq0 : goal.returns-then-odd-eq0
returns-then-odd-eq0 c =
    let a = c.args in
    let shifted = c.shift-halves in
    split_even a.left.now a.right.now a.bag.slots c.requires shifted.new.left shifted.result.first.slots shifted.result.second.slots shifted.ensures shifted.auto.left (search rules) (search rules) c.if-odd-eq0.true

pub place-requires : goal.place-requires
place-requires c =
    let a = c.args in
    let shifted = c.shift-halves in
    odd_loose a.left.now a.right.now a.bag.slots c.requires shifted.new.left shifted.result.first.slots shifted.result.second.slots shifted.ensures shifted.auto.left (search rules) (search rules) (search rules)

pub returns : goal.returns
returns c =
    let a = c.args in
    let shifted = c.shift-halves in
    let placed = c.place in
    split_odd a.left.now a.right.now a.bag.slots c.requires shifted.new.left shifted.result.first.slots shifted.result.second.slots shifted.ensures shifted.auto.left (search rules) (search rules) (search rules)
    placed.new.left placed.new.right placed.result.slots placed.ensures placed.auto.left placed.auto.right (search rules)

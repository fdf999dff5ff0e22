-- `forwarding::sleepers_wrong` meets its contract: by the list's length, or by its largest byte.
use borrow.Author.Rules.{rules}
use Rattle.forwarding.proofs.SourceFacts.{wrong_length, wrong_largest}
use Rattle.forwarding.proofs.sleepers_wrong.Goals as goal

pub returns-then-sleepers-n : goal.returns-then-sleepers-n
returns-then-sleepers-n c =
    let a = c.args in wrong_length a.n a.sleepers.now c.if-sleepers-n.true

pub returns : goal.returns
returns c =
    let a = c.args in wrong_largest a.n a.sleepers.now (search rules) c.largest_byte.ensures

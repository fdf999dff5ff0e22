-- `forwarding::largest_byte` meets its contract: its fold gives the largest.
use borrow.Author.Rules.{rules}
use Rattle.forwarding.proofs.SourceFacts.{largest_fold}
use Rattle.forwarding.proofs.largest_byte.Goals as goal

pub returns : goal.returns
returns c = rw (← largest_fold c.args.bytes.now) (search rules)

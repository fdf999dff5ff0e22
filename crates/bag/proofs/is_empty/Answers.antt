-- `bag::is_empty` meets its contract: nothing is held where all slots are empty (FilledFacts).
use Rattle.std.proofs.Common.{sym, ◌∙◌}
use borrow.Author.Rules.{rules}
use Rattle.bag.proofs.FilledFacts.{is_none}
use Rattle.bag.proofs.HeldFacts.{held_empty}
use Rattle.bag.proofs.is_empty.Goals as goal

pub returns : goal.returns
returns c = λ left right values pool. is_none left right c.args.bag.slots (search rules) c.eq.ensures ∙ sym (held_empty left right values c.args.bag)

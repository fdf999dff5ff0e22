-- `bag::at_least_two` meets its contract: two or more are held where some slot past slot 0 is filled (FilledFacts).
use Rattle.std.proofs.Common.{sym, ◌∙◌}
use borrow.Author.Rules.{rules}
use Rattle.bag.proofs.FilledFacts.{is_two}
use Rattle.bag.proofs.HeldFacts.{held_two}
use Rattle.bag.proofs.at_least_two.Goals as goal

pub returns : goal.returns
returns c = λ left right values pool. is_two left right c.args.bag.slots (search rules) c.ne.ensures ∙ sym (held_two left right values c.args.bag)

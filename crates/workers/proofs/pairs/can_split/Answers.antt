-- `workers::pairs::can_split` meets its contract: where the first test fails, the second isn't made.
use Rattle.std.proofs.Common.{sym, ap, ◌∙◌, Bool, ◌&&◌}
use Rattle.pennant.specs.Bag.{at_least_two}
use Rattle.bag.specs.Nodes.{held_by}
use Rattle.workers.proofs.PairFacts.{pool_first, pool_second}
use Rattle.workers.proofs.pairs.can_split.Goals as goal

pub returns-then-empty : goal.returns-then-empty
returns-then-empty c =
    let a = c.args in
    λ left right values pool.
    let told = sym (c.is_empty-empty.ensures left right values (pool_second a.giver a.taker pool)) ∙ c.if-empty.true in
    c.at_least_two.ensures left right values (pool_first a.giver a.taker pool)
    ∙ sym (ap (λ (b : Bool). b && at_least_two (held_by left right values a.giver)) told)

pub returns-else-empty : goal.returns-else-empty
returns-else-empty c =
    let a = c.args in
    λ left right values pool.
    let told = sym (c.is_empty-empty.ensures left right values (pool_second a.giver a.taker pool)) ∙ c.if-empty.false in
    c.if-empty.false ∙ sym (ap (λ (b : Bool). b && at_least_two (held_by left right values a.giver)) told)

-- `workers::pairs::can_unite` meets its contract: where the first test fails, the second isn't made.
use Rattle.std.proofs.Common.{sym, ap, ◌∙◌, Bool, not, ◌&&◌}
use Rattle.pennant.specs.Bag.{is_empty}
use Rattle.bag.specs.Nodes.{held_by}
use Rattle.workers.proofs.PairFacts.{pool_first, pool_second}
use Rattle.workers.proofs.pairs.can_unite.Goals as goal

pub returns-then-not-is_empty : goal.returns-then-not-is_empty
returns-then-not-is_empty c =
    let a = c.args in
    λ left right values pool.
    let told = sym (c.is_empty.ensures left right values (pool_second a.taker a.giver pool)) ∙ c.if-not-is_empty.true in
    ap not (c.is_empty-then-not-is_empty.ensures left right values (pool_first a.taker a.giver pool))
    ∙ sym (ap (λ (b : Bool). not b && not (is_empty (held_by left right values a.taker))) told)

pub returns-else-not-is_empty : goal.returns-else-not-is_empty
returns-else-not-is_empty c =
    let a = c.args in
    λ left right values pool.
    let told = sym (c.is_empty.ensures left right values (pool_second a.taker a.giver pool)) ∙ c.if-not-is_empty.false in
    ap not c.if-not-is_empty.false
    ∙ sym (ap (λ (b : Bool). not b && not (is_empty (held_by left right values a.taker))) told)

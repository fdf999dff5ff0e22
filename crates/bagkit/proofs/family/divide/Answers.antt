-- `bagkit::family::divide` meets its contract: a split into the place of an empty bag of the family leaves the pool well-formed.
use Rattle.std.proofs.Common.{[], get_or, sym, ◌∙◌, arith}
use Rattle.bag.specs.Nodes.{past_bag}
use Rattle.bag.proofs.Family.{pool_one, family_two, split_two}
use Rattle.bagkit.proofs.family.divide.Goals as goal

pub split-halves-requires : goal.split-halves-requires
split-halves-requires c = pool_one c.args.bags c.args.i c.requires.pooled (omega arith)

pub returns-then-is_empty : goal.returns-then-is_empty
returns-then-is_empty c =
    let bags = c.args.bags in
    let tested = c.is_empty in
    let halves = c.split-halves in
    let none = sym (tested.ensures c.args.left.now c.args.right.now [] (pool_one bags c.args.j c.requires.pooled (omega arith)))
    ∙ c.if-is_empty.true in
    (family_two _ _ _ _ bags c.args.i c.args.j halves.result.first halves.result.second c.requires.pooled (omega arith) (omega arith)
    c.requires.differ (split_two [] (get_or bags c.args.j past_bag) none halves.ensures.moved)).pool

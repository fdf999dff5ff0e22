-- `bagkit::family::draw` meets its contract: taking from one bag of the family leaves the pool well-formed.
use Rattle.std.proofs.Common.{sym, ◌∙◌, arith}
use Rattle.bag.proofs.Family.{pool_one, family_one}
use Rattle.bagkit.proofs.family.draw.Goals as goal

pub take-taken-requires-clause-pooled : goal.take-taken-requires-clause-pooled
take-taken-requires-clause-pooled c = pool_one c.args.bags c.args.i c.requires.pooled (omega arith)

pub take-taken-requires-clause-bag_value : goal.take-taken-requires-clause-bag_value
take-taken-requires-clause-bag_value c =
    let pooled = pool_one c.args.bags c.args.i c.requires.pooled (omega arith) in
    sym (c.is_empty.ensures c.args.left.now c.args.right.now c.args.values.now pooled) ∙ c.if-is_empty.false

pub returns : goal.returns
returns c =
    let taken = c.take-taken in
    (family_one _ _ _ _ c.args.bags c.args.i taken.result.bag c.requires.pooled (omega arith) taken.ensures.moved).pool

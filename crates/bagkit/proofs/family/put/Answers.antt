-- `bagkit::family::put` meets its contract: inserting into one bag of the family leaves the pool well-formed.
use Rattle.std.proofs.Common.{arith}
use Rattle.bag.proofs.Family.{pool_one, family_one}
use Rattle.bagkit.proofs.family.put.Goals as goal

pub insert-requires-clause-pooled : goal.insert-requires-clause-pooled
insert-requires-clause-pooled c = pool_one c.args.bags c.args.i c.requires.pooled (omega arith)

pub returns : goal.returns
returns c =
    let inserted = c.insert in
    (family_one _ _ _ _ c.args.bags c.args.i inserted.result c.requires.pooled (omega arith) inserted.ensures.moved).pool

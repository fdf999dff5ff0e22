-- `bagkit::family::unite` meets its contract: uniting two bags of the family leaves the pool well-formed, with an empty bag at j.
use Rattle.std.proofs.Common.{arith}
use Rattle.bag.specs.Nodes.{new_bag}
use Rattle.bag.proofs.Family.{pool_two, family_two}
use Rattle.bagkit.proofs.family.unite.Goals as goal

pub union-requires : goal.union-requires
union-requires c = pool_two c.args.bags c.args.i c.args.j c.requires.pooled (omega arith) (omega arith) c.requires.differ

pub returns : goal.returns
returns c =
    let united = c.union in
    rw c.empty.ensures
    (family_two _ _ _ _ c.args.bags c.args.i c.args.j united.result new_bag c.requires.pooled (omega arith) (omega arith)
    c.requires.differ united.ensures.moved).pool

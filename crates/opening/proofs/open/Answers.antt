-- `opening::open` meets its contract: the labels, their counts, the new pool, and the source in the bag.
use native.Mathlib.Omega.{arith}
use lib.ListN.{length}
use Rattle.opening.proofs.OpenFacts.{nodes_word, nodes_room, new_pool, new_room, new_opened}
use Rattle.opening.proofs.open.Goals as goal

pub overflow_mul-workers : goal.overflow_mul-workers
overflow_mul-workers c =
    let sized = c.requires.sized in
    record { fits = nodes_word sized.few_workers sized.few-vertices c.label.auto.distances }

pub pool-requires : goal.pool-requires
pool-requires c =
    let sized = c.requires.sized in
    let facts = nodes_room sized.few_workers sized.few-vertices c.label.auto.distances sized.nodes in
    record {
      nodes_in_bounds = facts.0;
      nodes_bound = facts.1;
    }

pub insert-requires : goal.insert-requires
insert-requires c =
    let first = c.requires in
    let m = length c.label.new.distances in
    let same = c.label.auto.distances in
    let long = c.pool.auto.left in
    record {
      pooled = new_pool first.sized first.source_in_bounds m same c.pool.ensures long c.empty.ensures;
      left_in_bounds = omega (arith, first.sized.numbered, long);
      some_free = new_room first.sized first.source_in_bounds m same c.pool.ensures long c.empty.ensures;
    }

pub returns : goal.returns
returns c =
    let first = c.requires in
    let label = c.label in
    new_opened first.sized first.source_in_bounds (length label.new.distances) label.auto.distances c.pool.ensures c.pool.auto.left
    c.empty.ensures label.ensures.distances_after label.ensures.parents_after c.count.ensures c.insert.ensures

-- `bagkit::family::start` meets its contract: the chained nodes are free, and four empty bags hold none.
use Rattle.std.proofs.Common.{◌≡◌, ℕ, ◌<◌, ◌≤◌, List, [], ◌∷◌, ◌++◌, length, arith}
use Rattle.lists.specs.Lists.{overlay, numbers_from}
use Rattle.bag.specs.declared.Bag.{Bag}
use Rattle.bag.specs.Nodes.{new_bag}
use Rattle.bag.specs.Promises.{Pooled}
use Rattle.bag.proofs.Free.{free_chained, pool_free}
use Rattle.bagkit.proofs.family.start.Goals as goal

-- a new pool with four empty bags
start_pool : (left : List ℕ) {left' right : List ℕ} {b : Bag} (nodes : ℕ) → left' ≡ overlay (numbers_from 1 nodes ++ 0 ∷ []) left → b ≡ new_bag
    → nodes < length left → length left' ≡ length left → length left ≤ 65536 → length left ≤ length right
    → Pooled left' right (b ∷ b ∷ b ∷ b ∷ [])
start_pool left {left'} {right} nodes chained none h long few wide =
    rw none (pool_free left' right nodes 4 (rw chained (free_chained left nodes h)) (omega arith) (omega arith) (omega arith))

pub returns : goal.returns
returns c =
    let pooled = c.pool in
    start_pool c.args.left.now c.args.nodes pooled.ensures c.empty-none.ensures c.requires.nodes_in_bounds pooled.auto.left c.requires.left_len_bound c.requires.left_in_bounds

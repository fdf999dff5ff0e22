-- Two workers' exchanges: a pool's two bags by themselves, how many numbers two bags have after a split or a union, and the table's kinds 1 and 2.
use mathlib.Core.Path.{◌≡◌, refl, ap, ◌∙◌}
use mathlib.Core.Bool.{true, cond, not, ◌&&◌}
use mathlib.Core.List.{List, [], ◌∷◌}
use mathlib.Core.Option.{none, some}
use Prim.Native.Nat.{ℕ, ◌+◌}
use native.Mathlib.Omega.{arith}
use lib.ListN.{get_or, set}
use Rattle.graph.specs.Graph.{Graph}
use Rattle.pennant.specs.Bag.{Bag, is_empty, at_least_two, empty_bag, bag_union, split_first, split_second}
use Rattle.pennant.specs.Held.{size, one}
use Rattle.pennant.proofs.Laws.{weigh_split, weigh_union, weigh_empty, empty_weighs}
use Rattle.bag.specs.declared.Bag as declared
use Rattle.bag.specs.Promises.{Pooled}
use Rattle.bag.proofs.Family.{pool_one}
use Rattle.schedule.specs.declared.Event.TheVariants.{Split, Unite}
use Rattle.model.specs.State as model
use Rattle.model.specs.Table.{replace_workers, split_inputs, unite_outputs, act}
use Rattle.workers.specs.Shown.{crew_of}
use Rattle.workers.proofs.CrewFacts.{Even, crew_at, crew_input, crew_output}

-- the two bags of a pool by themselves
pub pool_first : {left right : List ℕ} (a b : declared.Bag) → Pooled left right (a ∷ b ∷ []) → Pooled left right (a ∷ [])
pool_first a b pool = pool_one (a ∷ b ∷ []) 0 pool (omega arith)

pub pool_second : {left right : List ℕ} (a b : declared.Bag) → Pooled left right (a ∷ b ∷ []) → Pooled left right (b ∷ [])
pool_second a b pool = pool_one (a ∷ b ∷ []) 1 pool (omega arith)

-- two bags have as many numbers after a split of the second, where the first was empty
pub split_size : (taker giver : Bag) → is_empty taker ≡ true → size (split_second giver) + size (split_first giver) ≡ size taker + size giver
split_size taker giver bare = omega (arith, weigh_split one giver, empty_weighs one taker bare)

-- and after a union
pub unite_size : (giver taker : Bag) → size empty_bag + size (bag_union taker giver) ≡ size giver + size taker
unite_size giver taker = omega (arith, weigh_union one taker giver, weigh_empty one)

-- The table's kinds 1 and 2, of workers whose bags and phases stand in three lists.

module _ {n : ℕ} (g : Graph) (s : model.State) (inputs outputs : List Bag) (phases : List model.Phase) (even : Even n inputs outputs phases)
    (is : s.workers ≡ crew_of inputs outputs phases) (w v : ℕ) where
  -- worker k of the state
  at : (k : ℕ) → model.worker_at s.workers k ≡ model.worker_with (get_or inputs k empty_bag) (get_or outputs k empty_bag) (get_or phases k model.free)
  at k = ap (λ (l : List model.Worker). model.worker_at l k) is ∙ crew_at inputs outputs phases k even

  -- kind 1: two input bags are replaced
  pub split_act : act g s (Split w v)
      ≡ cond (is_empty (get_or inputs w empty_bag) && at_least_two (get_or inputs v empty_bag))
      (some (replace_workers s (crew_of (set (set inputs v (split_first (get_or inputs v empty_bag))) w (split_second (get_or inputs v empty_bag))) outputs phases))) none
  unfolding act split_inputs
  split_act =
      rw (
        at w,
        at v,
        is,
        ← crew_input inputs outputs phases v (split_first (get_or inputs v empty_bag)),
        ← crew_input (set inputs v (split_first (get_or inputs v empty_bag))) outputs phases w (split_second (get_or inputs v empty_bag)),
      )
      refl

  -- kind 2: two output bags
  pub unite_act : act g s (Unite w v)
      ≡ cond (not (is_empty (get_or outputs w empty_bag)) && not (is_empty (get_or outputs v empty_bag)))
      (some (replace_workers s (crew_of inputs (set (set outputs v (bag_union (get_or outputs v empty_bag) (get_or outputs w empty_bag))) w empty_bag) phases))) none
  unfolding act unite_outputs
  unite_act =
      rw (
        at w,
        at v,
        is,
        ← crew_output inputs outputs phases v (bag_union (get_or outputs v empty_bag) (get_or outputs w empty_bag)),
        ← crew_output inputs (set outputs v (bag_union (get_or outputs v empty_bag) (get_or outputs w empty_bag))) phases w empty_bag,
      )
      refl

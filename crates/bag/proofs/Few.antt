-- The pigeonhole: what is apart in a pool has fewer nodes than the pool has places.
use Prim.Native.Nat.{ℕ, ◌-◌, ◌≤◌, ◌<◌}
use native.Mathlib.Omega.{arith}
use mathlib.Core.Path.{◌≡◌, refl, ap}
use mathlib.Core.Bool.{Bool, true, false}
use mathlib.Core.List.{List, [], ◌∷◌}
use lib.ListN.{length}
use Rattle.lists.specs.Lists.{sum_of, elem, repeats}
use Rattle.lists.proofs.Or.{not_so}
use Rattle.lists.proofs.Tests.{elem_cases, repeats_cons, distinct_short}
use Rattle.pennant.specs.Pennant.{Slot}
use Rattle.pennant.specs.Bag.{is_gap, slot_count}
use Rattle.pennant.specs.Held.{one, only, slot_items, weigh_slot, Pennant}
use Rattle.pennant.proofs.Laws.{weigh_slot_items, only_self, pennant_size, power_below}
use Rattle.bag.specs.Promises.{in_pool}
use Rattle.bag.proofs.Only.{in_pool_once, in_pool_within}

-- a number of the list counts there
elem_counts : (x : ℕ) (l : List ℕ) → elem x l ≡ true → 1 ≤ sum_of (only x) l
unfolding sum_of elem
elem_counts x [] e = absurd (omega (arith, ap {B = ℕ} (λ (b : Bool). elim b [ true ↦ 1 | false ↦ 0 ]) e))
elem_counts x (y ∷ l) e =
    elem_cases x y l e (λ (q : x ≡ y). omega (arith, only_self x, ap (λ (n : ℕ). only x n) q)) (λ (q : elem x l ≡ true). omega (arith, elem_counts x l q))

-- a list in which each number counts at most once has no repeat
single_distinct : (l : List ℕ) → ((x : ℕ) → sum_of (only x) l ≤ 1) → repeats l ≡ false
unfolding sum_of repeats
single_distinct [] h = refl
single_distinct (y ∷ l) h =
    repeats_cons y l
    (not_so (elem y l) (λ (e : elem y l ≡ true). omega (arith, h y, only_self y, elem_counts y l e)))
    (single_distinct l (λ x. omega (arith, h x)))

-- the weight 1 counts the places
pub sum_one : (l : List ℕ) → sum_of one l ≡ length l
unfolding sum_of
sum_one [] = refl
sum_one (x ∷ l) = omega (arith, sum_one l)

module _ (places : ℕ) where
  -- a list of nodes, each used at most once
  pub few_nodes : (l : List ℕ) → ((x : ℕ) → sum_of (only x) l ≤ in_pool places x) → length l ≤ places - 1
  few_nodes l h =
      distinct_short (places - 1) l
      (single_distinct l (λ x. omega (arith, h x, in_pool_once places x)))
      (λ x e. let w = in_pool_within places x (omega (arith, h x, elem_counts x l e)) in omega arith)

  -- a pennant of nodes
  pub few_pennant : (x : Slot) → ((i : ℕ) → weigh_slot (only i) x ≤ in_pool places i) → weigh_slot one x ≤ places - 1
  few_pennant x h =
      rw (weigh_slot_items one x, sum_one (slot_items x)) (few_nodes (slot_items x) (λ i. rw (weigh_slot_items (only i) x) at (h i)))

-- a pennant of nodes of a pool stands in one of 16 slots
pub rank_below : (places k : ℕ) (x : Slot) → Pennant k x → is_gap x ≡ false → ((i : ℕ) → weigh_slot (only i) x ≤ in_pool places i) → places ≤ 65536 → k < 16
rank_below places k x shaped filled apart few = power_below k slot_count (omega (arith, few_pennant places x apart, pennant_size k x shaped filled))

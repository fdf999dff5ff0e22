-- How many workers hold a vertex and how many numbers are in bags: the table's test for a close by these counts.
use mathlib.Core.Path.{◌≡◌, refl, sym, ap}
use mathlib.Core.Bool.{Bool, true, false, ◌&&◌}
use mathlib.Core.List.{List, [], ◌∷◌, map, foldl}
use Prim.Native.Nat.{ℕ, zero, suc, ◌+◌, ◌≤◌, ◌<◌}
use native.Mathlib.Nat.{zero-add}
use native.Mathlib.Omega.{arith}
use borrow.Author.Tests.{eq-eqb, ne_eqb}
use lib.Dec.{eqb}
use lib.ListN.{length, get_or, set, take}
use lib.Seq.{length-take-le, get_or-take, take-set-lt}
use Rattle.lists.specs.Lists.{sum_of}
use Rattle.lists.proofs.Sums.{sum_set}
use Rattle.pennant.specs.Bag.{Bag, is_empty, bag_union}
use Rattle.pennant.specs.Held.{size, one}
use Rattle.pennant.proofs.Laws.{empty_size, weigh_union}
use Rattle.model.specs.Table.{is_free, all_idle}
use Rattle.workers.specs.declared.Phase.{Phase}
use Rattle.workers.specs.declared.Phase.TheVariants.{Free, Holding, InHand, Marked, Named}
use Rattle.workers.specs.Shown.{crew_of, phase_of}
use Rattle.workers.specs.Steps.{held_of}

-- One phase.

-- one that is not free holds a vertex
pub held_one : (phase : Phase) → (phase ≡ Free → ⊥) → held_of phase ≡ 1
unfolding held_of
held_one Free h = absurd (h refl)
held_one (Holding u e f) h = refl
held_one (InHand u e f t) h = refl
held_one (Marked u e f t) h = refl
held_one (Named u e f t) h = refl

-- All phases.

module _ (phases : List Phase) (P : ℕ) (there : P ≤ length phases) where
  module _ (w : ℕ) (below : w < P) where
    -- worker w among the first P
    inside : w < length (take P phases)
    inside = omega (arith, length-take-le P phases there)

    -- with its phase replaced
    pub busy_set : (p : Phase) → sum_of held_of (take P (set phases w p)) + held_of (get_or phases w Free) ≡ sum_of held_of (take P phases) + held_of p
    busy_set p = omega (
      arith,
      ap (sum_of held_of) (take-set-lt P phases w p below),
      sum_set held_of (take P phases) w p Free inside,
      ap held_of (get_or-take P phases w Free below),
    )

    -- one that holds a vertex is counted
    pub busy_some : held_of (get_or phases w Free) ≤ sum_of held_of (take P phases)
    unfolding held_of
    busy_some = omega (arith, busy_set Free)

-- both sums are 0 exactly where their sum is
zero_both : (m n : ℕ) → (eqb m 0 && eqb n 0) ≡ eqb (m + n) 0
zero_both zero n = ap (λ (k : ℕ). eqb k 0) (sym (zero-add n))
zero_both (suc m) n = rw (ne_eqb (suc m) 0 (λ q. omega arith), ne_eqb (suc m + n) 0 (λ q. omega arith))

-- a sum with a 1 in it is not 0
one_counts : (m n : ℕ) → false ≡ eqb (m + (1 + n)) 0
one_counts m n = sym (ne_eqb (m + (1 + n)) 0 (λ q. omega arith))

-- all are idle where neither a bag has a number nor a phase counts
pub idle_counted : (offsets : List ℕ) (inputs outputs : List Bag) (phases : List Phase) → length outputs ≡ length inputs → length phases ≡ length inputs
    → all_idle (crew_of inputs outputs (map (phase_of offsets) phases)) ≡ eqb (sum_of size inputs + sum_of held_of phases) 0
unfolding crew_of phase_of all_idle is_free held_of sum_of
idle_counted offsets [] outputs [] h k = refl
idle_counted offsets [] outputs (p ∷ phases) h k = absurd (omega arith)
idle_counted offsets (a ∷ inputs) [] phases h k = absurd (omega arith)
idle_counted offsets (a ∷ inputs) (b ∷ outputs) [] h k = absurd (omega arith)
idle_counted offsets (a ∷ inputs) (b ∷ outputs) (Free ∷ phases) h k =
    let all : size a + (sum_of size inputs + sum_of held_of phases) ≡ size a + sum_of size inputs + (0 + sum_of held_of phases) = omega arith in
    rw (empty_size a, idle_counted offsets inputs outputs phases (omega arith) (omega arith), zero_both (size a) (sum_of size inputs + sum_of held_of phases))
    (ap (λ (n : ℕ). eqb n 0) all)
idle_counted offsets (a ∷ inputs) (b ∷ outputs) (Holding u e f ∷ phases) h k = one_counts (size a + sum_of size inputs) (sum_of held_of phases)
idle_counted offsets (a ∷ inputs) (b ∷ outputs) (InHand u e f t ∷ phases) h k = one_counts (size a + sum_of size inputs) (sum_of held_of phases)
idle_counted offsets (a ∷ inputs) (b ∷ outputs) (Marked u e f t ∷ phases) h k = one_counts (size a + sum_of size inputs) (sum_of held_of phases)
idle_counted offsets (a ∷ inputs) (b ∷ outputs) (Named u e f t ∷ phases) h k = one_counts (size a + sum_of size inputs) (sum_of held_of phases)

-- bags that all are empty
unfoldable pub all_empty : List Bag → Bool
all_empty [] = true
all_empty (b ∷ bags) = is_empty b && all_empty bags

-- they are where no number is in them
pub bare_counted : (bags : List Bag) → sum_of size bags ≡ 0 → all_empty bags ≡ true
unfolding all_empty sum_of
bare_counted [] none = refl
bare_counted (b ∷ bags) none = rw (empty_size b, eq-eqb (size b) 0 (omega arith)) (bare_counted bags (omega arith))

-- bags that are united one after the other hold what they all hold
pub united_size : (b : Bag) (bags : List Bag) → size (foldl bag_union b bags) ≡ size b + sum_of size bags
unfolding sum_of
united_size b [] = omega arith
united_size b (c ∷ bags) = omega (arith, united_size (bag_union b c) bags, weigh_union one b c)

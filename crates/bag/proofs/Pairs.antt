-- Two pennants linked, and one split, on the lists: the trees are those of pennant union and pennant split.
use Prim.Native.Nat.{ℕ, zero, suc, ◌+◌, ◌≤◌, ◌<◌}
use native.Mathlib.Omega.{arith}
use mathlib.Core.Path.{◌≡◌, refl, sym, ap, ◌∙◌}
use mathlib.Core.List.{List, [], ◌∷◌}
use lib.ListN.{length, get_or, set}
use lib.Seq.{get_or-set_same, get_or-set_other}
use Rattle.lists.specs.Lists.{sum_of}
use Rattle.pennant.specs.Pennant.{Tree, tip, pennant_union, pennant_first, pennant_second}
use Rattle.pennant.specs.Held.{weigh_tree, weigh_slot, only}
use Rattle.pennant.proofs.Laws.{only_self, only_other}
use Rattle.bag.specs.Nodes.{tree_at, pennant_at}
use Rattle.bag.specs.Promises.{in_pool}
use Rattle.bag.specs.Steps.{uses_at, Pennants, Halved}
use Rattle.bag.proofs.Only.{other_only, in_pool_once, in_pool_within}
use Rattle.bag.proofs.Kept.{Same, tree_kept}

-- a slot that is filled
pub pennant_some : (left right : List ℕ) (k x : ℕ) → (x ≡ 0 → ⊥) → pennant_at left right k x ≡ tip x (tree_at left right k (get_or left x 0))
unfolding pennant_at
pennant_some left right k zero h = absurd (h refl)
pennant_some left right k (suc x) h = refl

-- a root counts in its pennant
pub root_counts : (left right : List ℕ) (k x : ℕ) → (x ≡ 0 → ⊥) → 1 ≤ weigh_slot (only x) (pennant_at left right k x)
unfolding pennant_at weigh_slot
root_counts left right k zero h = absurd (h refl)
root_counts left right k (suc x) h = omega (arith, only_self (suc x))

-- a root, or 0, is within the list
pub root_below : (left right : List ℕ) (k x : ℕ) → 0 < length left → ((i : ℕ) → weigh_slot (only i) (pennant_at left right k x) ≤ in_pool (length left) i) → x < length left
root_below left right k zero h apart = h
root_below left right k (suc x) h apart =
    (in_pool_within (length left) (suc x) (omega (arith, apart (suc x), root_counts left right k (suc x) (λ (e : suc x ≡ 0). omega arith)))).1

module _ (left right : List ℕ) (k : ℕ) where
  -- a node that is neither x nor y is as it was
  link_off : (x y i : ℕ) → only i x + only i y ≡ 0 → Same left right (set left x y) (set right y (get_or left x 0)) i
  link_off x y i c = (
    get_or-set_other left x i y 0 (λ (e : i ≡ x). other_only i x (omega arith) (sym e)),
    get_or-set_other right y i (get_or left x 0) 0 (λ (e : i ≡ y). other_only i y (omega arith) (sym e)),
  )

  -- link x y: the pennant with the root x is the union
  pub link_pennant : (x y : ℕ) → (x ≡ 0 → ⊥) → (y ≡ 0 → ⊥) → Pennants left right k (x ∷ y ∷ [])
      → pennant_at (set left x y) (set right y (get_or left x 0)) (suc k) x ≡ pennant_union (pennant_at left right k x) (pennant_at left right k y)
  unfolding pennant_at pennant_union tree_at sum_of weigh_slot
  link_pennant zero y h g p = absurd (h refl)
  link_pennant (suc x) zero h g p = absurd (g refl)
  link_pennant (suc x) (suc y) h g p =
      rw (
        get_or-set_same left (suc x) (suc y) 0 in_x.1,
        get_or-set_other left (suc x) (suc y) (suc y) 0 (λ (e : suc y ≡ suc x). other e),
        get_or-set_same right (suc y) (get_or left (suc x) 0) 0 (omega (arith, in_y.1, p.wide)),
        tree_kept left right left' right' k (get_or left (suc x) 0) (λ i c. link_off (suc x) (suc y) i (omega (arith, c, p.apart i, in_pool_once (length left) i))),
        tree_kept left right left' right' k (get_or left (suc y) 0) (λ i c. link_off (suc x) (suc y) i (omega (arith, c, p.apart i, in_pool_once (length left) i))),
      )
    where
      left' : List ℕ
      left' = set left (suc x) (suc y)

      right' : List ℕ
      right' = set right (suc y) (get_or left (suc x) 0)

      in_x : (0 < suc x) × (suc x < length left)
      in_x = in_pool_within (length left) (suc x) (omega (arith, p.apart (suc x), only_self (suc x)))

      in_y : (0 < suc y) × (suc y < length left)
      in_y = in_pool_within (length left) (suc y) (omega (arith, p.apart (suc y), only_self (suc y)))

      other : suc y ≡ suc x → ⊥
      other e = omega (arith, p.apart (suc x), in_pool_once (length left) (suc x), only_self (suc x), ap (λ (n : ℕ). only (suc x) n) e)

  -- link changes nothing at other nodes
  pub link_kept : (x y : ℕ) (i : ℕ) → (x ≡ 0 → ⊥) → (y ≡ 0 → ⊥) → uses_at i left right k (x ∷ y ∷ []) ≡ 0 → Same left right (set left x y) (set right y (get_or left x 0)) i
  unfolding pennant_at sum_of weigh_slot
  link_kept zero y i h g c = absurd (h refl)
  link_kept (suc x) zero i h g c = absurd (g refl)
  link_kept (suc x) (suc y) i h g c = link_off (suc x) (suc y) i (omega arith)

  -- a pennant of more than one node: the root of the half is a node, and another
  pub half_within : (x : ℕ) → (x ≡ 0 → ⊥) → Pennants left right (suc k) (x ∷ [])
      → (x < length left) × (0 < get_or left x 0) × (get_or left x 0 < length left) × (get_or left x 0 ≡ x → ⊥)
  unfolding pennant_at tree_at sum_of weigh_slot weigh_tree
  half_within zero h p = absurd (h refl)
  half_within (suc x) h p = (
    in_x.1,
    in_y.0,
    in_y.1,
    λ (e : get_or left (suc x) 0 ≡ suc x). omega (arith, p.apart (suc x), in_pool_once (length left) (suc x), only_self (suc x), ap (λ (n : ℕ). only (suc x) n) e),
  )
    where
      in_x : (0 < suc x) × (suc x < length left)
      in_x = in_pool_within (length left) (suc x) (omega (arith, p.apart (suc x), only_self (suc x)))

      y : ℕ
      y = get_or left (suc x) 0

      in_y : (0 < y) × (y < length left)
      in_y = in_pool_within (length left) y (omega (arith, p.apart y, only_self y))

  -- halve x: the root keeps one half, its left child becomes the root of the other
  pub halve_pennant : (x : ℕ) → (x ≡ 0 → ⊥) → Pennants left right (suc k) (x ∷ [])
      → Halved left right k x (set left x (get_or right (get_or left x 0) 0)) (get_or left x 0)
  unfolding pennant_at pennant_first pennant_second tree_at sum_of weigh_slot weigh_tree
  halve_pennant zero h p = absurd (h refl)
  halve_pennant (suc x) h p = record {
    first =
        rw (get_or-set_same left (suc x) (get_or right half 0) 0 within.0) (ap (λ (t : Tree). tip (suc x) t) (kept_tree (get_or right half 0) (λ i c. omega (arith, c, p.apart i, in_pool_once (length left) i))));
    second =
        pennant_some left' right k half (λ (q : half ≡ 0). omega (arith, within.1))
        ∙ ap (λ (t : Tree). tip half t)
        (ap (λ (n : ℕ). tree_at left' right k n) (same half (only_other half (suc x) (λ (q : suc x ≡ half). within.3 (sym q))))
        ∙ kept_tree (get_or left half 0) (λ i c. omega (arith, c, p.apart i, in_pool_once (length left) i)));
    kept = λ i c. same i (omega arith);
  }
    where
      within : (suc x < length left) × (0 < get_or left (suc x) 0) × (get_or left (suc x) 0 < length left) × (get_or left (suc x) 0 ≡ suc x → ⊥)
      within = half_within (suc x) h p

      half : ℕ
      half = get_or left (suc x) 0

      left' : List ℕ
      left' = set left (suc x) (get_or right half 0)

      -- a node but the root is as it was
      same : (i : ℕ) → only i (suc x) ≡ 0 → get_or left' i 0 ≡ get_or left i 0
      same i c = get_or-set_other left (suc x) i (get_or right half 0) 0 (λ (q : i ≡ suc x). other_only i (suc x) c (sym q))

      -- a tree without the root is as it was
      kept_tree : (x' : ℕ) → ((i : ℕ) → 1 ≤ weigh_tree (only i) (tree_at left right k x') → only i (suc x) ≡ 0) → tree_at left' right k x' ≡ tree_at left right k x'
      kept_tree x' off = tree_kept left right left' right k x' (λ i c. (same i (off i c), refl))

-- where there is no pennant, nothing is split
pub halve_zero : (left right : List ℕ) (k x : ℕ) → x ≡ 0 → Halved left right k x left 0
unfolding pennant_at pennant_first pennant_second
halve_zero left right k zero e = record { first = refl; second = refl; kept = λ i c. refl }
halve_zero left right k (suc x) e = absurd (omega arith)

-- where there is one, the list and the half as the code leaves them
pub halve_some : (left right : List ℕ) (k x : ℕ) {left' : List ℕ} {half : ℕ} → (x ≡ 0 → ⊥) → half ≡ get_or left x 0 → left' ≡ set left x (get_or right (get_or left x 0) 0)
    → Pennants left right (suc k) (x ∷ []) → Halved left right k x left' half
halve_some left right k x h e d p = rw (e, d) (halve_pennant left right k x h p)

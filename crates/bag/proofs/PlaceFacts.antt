-- BAG-INSERT on the lists: what holds between its steps, that each step keeps it, and what it says at the end.
use Prim.Native.Nat.{ℕ, suc, ◌+◌, ◌≤◌, ◌<◌}
use native.Mathlib.Omega.{arith}
use native.Mathlib.Numerals.{add-one}
use mathlib.Core.Path.{◌≡◌, refl, sym, ap, ◌∙◌}
use mathlib.Core.Bool.{false}
use mathlib.Core.List.{List, [], ◌∷◌, ◌++◌}
use lib.ListN.{length, get_or, take, drop, set, length-set}
use Rattle.lists.specs.Lists.{sum_of}
use Rattle.pennant.specs.Pennant.{Slot, gap, pennant_union}
use Rattle.pennant.specs.Bag.{Bag, is_gap, insert_pennant, bag_insert}
use Rattle.pennant.specs.Held.{weigh_slot, weigh, only, copies}
use Rattle.pennant.proofs.Laws.{weigh_append, weigh_pennant_union, weigh_insert_pennant, weigh_insert}
use Rattle.bag.specs.Nodes.{tree_at, pennant_at, slot_nodes}
use Rattle.bag.specs.Promises.{in_pool}
use Rattle.bag.specs.Steps.{Pennants, Loose, Placed}
use Rattle.bag.proofs.Only.{in_pool_once, in_pool_within}
use Rattle.bag.proofs.Kept.{Same, nodes_kept, nodes_at, nodes_set, length_nodes, pennant_shaped}
use Rattle.bag.proofs.Few.{rank_below}
use Rattle.bag.proofs.Pairs.{pennant_some, root_counts, link_pennant, link_kept}
use Rattle.bag.proofs.Backbone.{insert_pass, insert_here, weigh_parts, slot_weighs}

-- a filled slot is no gap
pub some_filled : (left right : List ℕ) (k x : ℕ) → (x ≡ 0 → ⊥) → is_gap (pennant_at left right k x) ≡ false
some_filled left right k x h = ap is_gap (pennant_some left right k x h)

-- an empty one is
pub none_gap : (left right : List ℕ) (k x : ℕ) → x ≡ 0 → pennant_at left right k x ≡ gap
unfolding pennant_at
none_gap left right k x e = ap (λ (n : ℕ). pennant_at left right k n) e

module _ (left₀ right₀ slots₀ : List ℕ) (x : ℕ) where
  -- before slot k the insertion is done, from slot k on it is that of the pennant at root
  pub record Placing (left right slots : List ℕ) (root k : ℕ) : Type 0 where
    pub tree : take k (slot_nodes left right slots) ++ insert_pennant (pennant_at left right k root) (drop k (slot_nodes left right slots)) ≡ bag_insert x (slot_nodes left₀ right₀ slots₀)
    pub kept : (i : ℕ) → only i x + copies i (slot_nodes left₀ right₀ slots₀) ≡ 0 → Same left₀ right₀ left right i
    pub some : root ≡ 0 → ⊥
    pub below : k < 16
    pub long : length slots ≡ 16
    pub left_length : length left ≡ length left₀
    pub right_length : length right ≡ length right₀

  -- at the start
  pub placing_start : Loose left₀ right₀ slots₀ x → length slots₀ ≡ 16 → Placing left₀ right₀ slots₀ x 0
  unfolding bag_insert tree_at
  placing_start p l = record {
    tree = ap (λ (s : Slot). insert_pennant s (slot_nodes left₀ right₀ slots₀)) (pennant_some left₀ right₀ 0 x p.some);
    kept = λ i c. (refl, refl);
    some = p.some;
    below = omega arith;
    long = l;
    left_length = refl;
    right_length = refl;
  }

  -- the same, of lists that are known to be these
  pub placed_on : {left right left' right' slots : List ℕ} {root k : ℕ} → Placing left right slots root k → left' ≡ left → right' ≡ right → Placing left' right' slots root k
  placed_on w l r = rw (l, r) w

  module _ (p : Loose left₀ right₀ slots₀ x) (left right slots : List ℕ) (root k : ℕ) (w : Placing left right slots root k) where
    -- no node is lost or gained
    placing_weighs : (f : ℕ → ℕ) → weigh_slot f (pennant_at left right k root) + weigh f (slot_nodes left right slots) ≡ f x + weigh f (slot_nodes left₀ right₀ slots₀)
    placing_weighs f =
        omega (
          arith,
          ap (λ (s : Bag). weigh f s) w.tree,
          weigh_append f (take k (slot_nodes left right slots)) (insert_pennant (pennant_at left right k root) (drop k (slot_nodes left right slots))),
          weigh_insert_pennant f (pennant_at left right k root) (drop k (slot_nodes left right slots)),
          weigh_parts f k (slot_nodes left right slots),
          weigh_insert f x (slot_nodes left₀ right₀ slots₀),
        )

    -- each is used at most once
    placing_apart : (i : ℕ) → weigh_slot (only i) (pennant_at left right k root) + copies i (slot_nodes left right slots) ≤ in_pool (length left) i
    placing_apart i = rw w.left_length (omega (arith, placing_weighs (only i), p.apart i))

    filled_within : k < length (slot_nodes left right slots)
    filled_within = rw (length_nodes left right slots) (omega (arith, w.below, w.long))

    slot_counts : (i : ℕ) → weigh (only i) (slot_nodes left right (set slots k 0)) + weigh_slot (only i) (pennant_at left right k (get_or slots k 0)) ≡ copies i (slot_nodes left right slots)
    slot_counts i = slot_weighs left right slots k (omega (arith, w.below, w.long)) (only i)

    -- the pennant in a filled slot and the one on its way are apart
    pub placing_pair : Pennants left right k (get_or slots k 0 ∷ root ∷ [])
    unfolding sum_of
    placing_pair = record { wide = omega (arith, p.wide, w.left_length, w.right_length); apart = λ i. omega (arith, placing_apart i, slot_counts i) }

    pub placing_root : root < length left
    placing_root = (in_pool_within (length left) root (omega (arith, placing_apart root, root_counts left right k root w.some))).1

    module _ (filled : get_or slots k 0 ≡ 0 → ⊥) where
      pub placing_filled : get_or slots k 0 < length left
      placing_filled = (in_pool_within (length left) (get_or slots k 0) (omega (arith, placing_apart (get_or slots k 0), slot_counts (get_or slots k 0), root_counts left right k (get_or slots k 0) filled))).1

      left' : List ℕ
      left' = set left (get_or slots k 0) root

      right' : List ℕ
      right' = set right root (get_or left (get_or slots k 0) 0)

      -- the slots that stay are as they were
      others_kept : slot_nodes left' right' (set slots k 0) ≡ slot_nodes left right (set slots k 0)
      unfolding left' right' sum_of
      others_kept =
          nodes_kept left right left' right' (set slots k 0)
          (λ i c. link_kept left right k (get_or slots k 0) root i filled w.some (omega (arith, c, placing_apart i, slot_counts i, in_pool_once (length left) i)))

      -- the united pennant
      whole : pennant_at left' right' (suc k) (get_or slots k 0) ≡ pennant_union (pennant_at left right k (get_or slots k 0)) (pennant_at left right k root)
      unfolding left' right'
      whole = link_pennant left right k (get_or slots k 0) root filled w.some placing_pair

      whole_apart : (i : ℕ) → weigh_slot (only i) (pennant_at left' right' (suc k) (get_or slots k 0)) ≤ in_pool (length left) i
      unfolding sum_of
      whole_apart i = rw (whole, weigh_pennant_union (only i) (pennant_at left right k (get_or slots k 0)) (pennant_at left right k root)) (omega (arith, placing_pair.apart i))

      -- a filled slot is emptied, its pennant united with the one on its way
      pub placing_step : Placing (set left (get_or slots k 0) root) (set right root (get_or left (get_or slots k 0) 0)) (set slots k 0) (get_or slots k 0) (k + 1)
      unfolding left' right' pennant_at sum_of
      placing_step = record {
        tree =
            rw (add-one k, others_kept, whole, nodes_set left right slots k 0)
            (sym (rw (nodes_at left right slots k) at (insert_pass k (pennant_at left right k root) (slot_nodes left right slots) filled_within (ap is_gap (nodes_at left right slots k) ∙ some_filled left right k (get_or slots k 0) filled)))
            ∙ w.tree);
        kept = λ i c.
            let same = link_kept left right k (get_or slots k 0) root i filled w.some (omega (arith, c, placing_weighs (only i), slot_counts i)) in
            let before = w.kept i c in
            (same.0 ∙ before.0, same.1 ∙ before.1);
        some = filled;
        below = omega (arith, rank_below (length left) (suc k) (pennant_at left' right' (suc k) (get_or slots k 0)) (pennant_shaped left' right' (suc k) (get_or slots k 0)) (some_filled left' right' (suc k) (get_or slots k 0) filled) whole_apart (omega (arith, w.left_length, p.few)));
        long = length-set slots k 0 ∙ w.long;
        left_length = length-set left (get_or slots k 0) root ∙ w.left_length;
        right_length = length-set right root (get_or left (get_or slots k 0) 0) ∙ w.right_length;
      }

    -- at an empty slot the insertion ends
    pub placing_done : get_or slots k 0 ≡ 0 → Placed left₀ right₀ slots₀ x left right (set slots k root)
    placing_done empty = record {
      nodes =
          nodes_set left right slots k root
          ∙ sym (insert_here k (pennant_at left right k root) (slot_nodes left right slots) filled_within (ap is_gap (nodes_at left right slots k ∙ none_gap left right k (get_or slots k 0) empty)))
          ∙ w.tree;
      kept_left = λ i c. (w.kept i c).0;
      kept_right = λ i c. (w.kept i c).1;
    }

-- Take's splits on the lists: what holds between them, that each keeps it, and what it says at the end.
use Prim.Native.Nat.{ℕ, suc, ◌+◌, ◌≤◌, ◌<◌}
use native.Mathlib.Omega.{arith}
use mathlib.Core.Path.{◌≡◌, refl, ap, ◌∙◌}
use mathlib.Core.List.{List, [], ◌∷◌}
use lib.ListN.{length, get_or, drop, set, length-set}
use lib.Seq.{set-set, set-get_or}
use Rattle.lists.specs.Lists.{sum_of}
use Rattle.lists.proofs.Replaced.{drop_set}
use Rattle.pennant.specs.Pennant.{gap}
use Rattle.pennant.specs.Bag.{Bag, spread}
use Rattle.pennant.specs.Held.{weigh_slot, weigh, only, copies}
use Rattle.pennant.proofs.Laws.{weigh_spread}
use Rattle.bag.specs.Nodes.{tree_at, pennant_at, slot_nodes, bag_with}
use Rattle.bag.specs.Promises.{in_pool, weigh_nodes, Pooled}
use Rattle.bag.specs.Steps.{Pennants, Halved, Spilled}
use Rattle.bag.proofs.Only.{in_pool_once}
use Rattle.bag.proofs.Kept.{drop_kept, nodes_set, length_nodes, pennant_shaped}
use Rattle.bag.proofs.Pairs.{pennant_some, root_below, half_within}
use Rattle.bag.proofs.Backbone.{weigh_parts, next_weighs}

-- the halves and the root weigh what the pennant does
spread_weighs : (f : ℕ → ℕ) (left right : List ℕ) (k root : ℕ) (s : Bag) → (root ≡ 0 → ⊥)
    → f root + weigh f (spread k (pennant_at left right k root) s) ≡ weigh_slot f (pennant_at left right k root) + weigh f s
spread_weighs f left right k root s h =
    let e = pennant_some left right k root h in
    rw e (weigh_spread f k root (tree_at left right k (get_or left root 0)) s (rw e at (pennant_shaped left right k root)))

module _ (left₀ right slots₀ : List ℕ) (top : ℕ) where
  -- what is to come: the pennant at the root spread over the slots below k
  pub record Spilling (left slots : List ℕ) (k : ℕ) : Type 0 where
    pub tree : spread k (pennant_at left right k (get_or slots₀ top 0)) (drop k (slot_nodes left right slots)) ≡ spread top (pennant_at left₀ right top (get_or slots₀ top 0)) (gap ∷ drop (suc top) (slot_nodes left₀ right slots₀))
    pub kept : (i : ℕ) → copies i (slot_nodes left₀ right slots₀) ≡ 0 → get_or left i 0 ≡ get_or left₀ i 0
    pub below : k ≤ top
    pub long : length slots ≡ 16
    pub left_length : length left ≡ length left₀

  module _ (p : Pooled left₀ right (bag_with slots₀ ∷ [])) (l : length slots₀ ≡ 16) (h : top < 16) (some : get_or slots₀ top 0 ≡ 0 → ⊥) where
    top_within : top < length (slot_nodes left₀ right slots₀)
    top_within = rw (length_nodes left₀ right slots₀) (omega arith)

    -- at the start: the slot is emptied
    pub spilling_start : Spilling left₀ (set slots₀ top 0) top
    unfolding pennant_at
    spilling_start = record {
      tree = ap (λ (s : Bag). spread top (pennant_at left₀ right top (get_or slots₀ top 0)) s) (ap (λ (s : Bag). drop top s) (nodes_set left₀ right slots₀ top 0) ∙ drop_set (slot_nodes left₀ right slots₀) top gap top_within);
      kept = λ i c. refl;
      below = omega arith;
      long = length-set slots₀ top 0 ∙ l;
      left_length = refl;
    }

    module _ (left slots : List ℕ) (k : ℕ) (w : Spilling left slots k) where
      -- no node is gained
      spilling_weighs : (f : ℕ → ℕ) → weigh_slot f (pennant_at left right k (get_or slots₀ top 0)) + weigh f (drop k (slot_nodes left right slots)) ≤ weigh f (slot_nodes left₀ right slots₀)
      unfolding weigh weigh_slot sum_of
      spilling_weighs f =
          omega (
            arith,
            ap (λ (s : Bag). weigh f s) w.tree,
            spread_weighs f left right k (get_or slots₀ top 0) (drop k (slot_nodes left right slots)) some,
            spread_weighs f left₀ right top (get_or slots₀ top 0) (gap ∷ drop (suc top) (slot_nodes left₀ right slots₀)) some,
            weigh_parts f top (slot_nodes left₀ right slots₀),
            next_weighs left₀ right slots₀ top (omega arith) f,
          )

      -- each is used at most once
      spilling_apart : (i : ℕ) → weigh_slot (only i) (pennant_at left right k (get_or slots₀ top 0)) + weigh (only i) (drop k (slot_nodes left right slots)) ≤ in_pool (length left) i
      unfolding weigh_nodes sum_of
      spilling_apart i = rw w.left_length (omega (arith, spilling_weighs (only i), p.apart i))

      -- the pennant that is split is well-formed
      pub spilling_one : Pennants left right k (get_or slots₀ top 0 ∷ [])
      unfolding sum_of
      spilling_one = record { wide = omega (arith, p.wide, w.left_length); apart = λ i. omega (arith, spilling_apart i) }

      -- its root is within the list, and so is the half's
      pub spilling_root : get_or slots₀ top 0 < length left
      spilling_root = root_below left right k (get_or slots₀ top 0) (omega (arith, p.some, w.left_length)) (λ i. omega (arith, spilling_apart i))

      pub spilling_half : (m : ℕ) → suc m ≡ k → get_or left (get_or slots₀ top 0) 0 < length right
      spilling_half m e = omega (arith, (half_within left right m (get_or slots₀ top 0) some (rw e spilling_one)).2, p.wide, w.left_length)

      -- a half fills the slot below
      pub spilling_step : (m : ℕ) → suc m ≡ k → (left' : List ℕ) (half : ℕ) → Halved left right m (get_or slots₀ top 0) left' half → length left' ≡ length left → Spilling left' (set slots m half) m
      unfolding spread sum_of
      spilling_step m e left' half d ll = record {
        tree =
            ap (λ (s : Bag). spread m (pennant_at left' right m (get_or slots₀ top 0)) s) (ap (λ (s : Bag). drop m s) (nodes_set left' right slots m half) ∙ drop_set (slot_nodes left' right slots) m (pennant_at left' right m half) within)
            ∙ rw (d.first, d.second, rest) (rw (← e) at w.tree);
        kept = λ i c. off i (omega (arith, spilling_weighs (only i), c)) ∙ w.kept i c;
        below = omega (arith, w.below);
        long = length-set slots m half ∙ w.long;
        left_length = ll ∙ w.left_length;
      }
        where
          within : m < length (slot_nodes left' right slots)
          within = rw (length_nodes left' right slots) (omega (arith, w.below, w.long))

          off : (i : ℕ) → weigh_slot (only i) (pennant_at left right k (get_or slots₀ top 0)) ≡ 0 → get_or left' i 0 ≡ get_or left i 0
          off i c = d.kept i (rw e (omega arith))

          rest : drop (suc m) (slot_nodes left' right slots) ≡ drop (suc m) (slot_nodes left right slots)
          rest = drop_kept left right left' right slots (suc m) (λ i c. (off i (omega (arith, rw e at c, spilling_apart i, in_pool_once (length left) i)), refl))

      -- at the end every slot is filled as it should be
      pub spilling_done : k ≡ 0 → Spilled left₀ right slots₀ top left slots
      unfolding spread
      spilling_done e = record { nodes = rw e at w.tree; kept = w.kept }

-- a slot emptied and filled again
filled_again : (slots : List ℕ) (top : ℕ) → set (set slots top 0) top (get_or slots top 0) ≡ slots
filled_again slots top = set-set slots top 0 (get_or slots top 0) ∙ set-get_or slots top 0

module _ (left₀ right slots₀ : List ℕ) (top : ℕ) {left slots : List ℕ} {k : ℕ} where
  -- the loop's invariant, in which slot `top` is emptied and the root stands beside it
  pub spilling_in : Spilling left₀ right slots₀ top left slots k → Spilling left₀ right (set (set slots₀ top 0) top (get_or slots₀ top 0)) top left slots k
  spilling_in w = rw (filled_again slots₀ top) w

  pub spilling_out : Spilling left₀ right (set (set slots₀ top 0) top (get_or slots₀ top 0)) top left slots k → Spilling left₀ right slots₀ top left slots k
  spilling_out w = rw (filled_again slots₀ top) at w

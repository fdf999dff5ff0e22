-- BAG-SPLIT on the lists, but for the pennant in slot 0: what holds between its steps, that each step keeps it, and what it says at the end.
use Prim.Native.Nat.{ℕ, suc, ◌+◌, ◌≤◌, ◌<◌}
use native.Mathlib.Omega.{arith}
use native.Mathlib.Numerals.{add-one}
use mathlib.Core.Path.{◌≡◌, refl, sym, ap, ◌∙◌}
use mathlib.Core.List.{List, [], ◌∷◌, ◌++◌, map, append_assoc}
use lib.ListN.{length, get_or, take, drop, set, length-set, drop_of_length-le}
use lib.Seq.{take-suc-set, drop-cons, take_all, take-suc, get_or-set_other}
use Rattle.std.proofs.lemmas.List.{get_or-take}
use Rattle.std.proofs.lemmas.Grind.{get_or_after_one}
use Rattle.lists.specs.Lists.{sum_of}
use Rattle.pennant.specs.Pennant.{Slot, gap, pennant_first, pennant_second}
use Rattle.pennant.specs.Bag.{Bag}
use Rattle.pennant.specs.Held.{weigh_slot, weigh, only}
use Rattle.pennant.proofs.Laws.{weigh_append, weigh_halves, weigh_end}
use Rattle.bag.specs.Nodes.{pennant_at, slot_nodes, bag_with}
use Rattle.bag.specs.Promises.{in_pool, weigh_nodes, Pooled}
use Rattle.bag.specs.Steps.{Pennants, Halved, Shifted}
use Rattle.bag.proofs.Only.{in_pool_once}
use Rattle.bag.proofs.Kept.{drop_kept, take_kept, nodes_at, nodes_set, length_nodes}
use Rattle.bag.proofs.Pairs.{root_below, half_within}
use Rattle.bag.proofs.Backbone.{weigh_parts, next_weighs}
use Rattle.bag.proofs.PlaceFacts.{none_gap}

-- the slots past slot 0
pub next_slot : (slots : List ℕ) (k : ℕ) → k < 15 → get_or (take 15 (drop 1 slots)) k 0 ≡ get_or slots (suc k) 0
next_slot slots k h = get_or-take 15 (drop 1 slots) k 0 h ∙ get_or_after_one slots k 0 ∙ ap (λ i. get_or slots i 0) (omega arith)

-- one of the two bags that are made: before slot k as g makes it of the pennants one slot up, its last slot still empty
pub record Filling (g : Slot → Slot) (left₀ right slots₀ left part : List ℕ) (k : ℕ) : Type 0 where
  pub tree : take k (slot_nodes left right part) ++ (map g (drop (suc k) (slot_nodes left right slots₀)) ++ gap ∷ []) ≡ map g (drop 1 (slot_nodes left₀ right slots₀)) ++ gap ∷ []
  pub last : get_or part 15 0 ≡ 0
  pub long : length part ≡ 16

-- a node that is written at slot k
filling_step : (g : Slot → Slot) (left₀ right slots₀ left part left' : List ℕ) (k x : ℕ) → Filling g left₀ right slots₀ left part k → k < 15 → length slots₀ ≡ 16
    → pennant_at left' right k x ≡ g (pennant_at left right (suc k) (get_or slots₀ (suc k) 0))
    → take k (slot_nodes left' right part) ≡ take k (slot_nodes left right part)
    → drop (suc (suc k)) (slot_nodes left' right slots₀) ≡ drop (suc (suc k)) (slot_nodes left right slots₀)
    → Filling g left₀ right slots₀ left' (set part k x) (k + 1)
filling_step g left₀ right slots₀ left part left' k x w h l here before after = record {
  tree =
      rw (add-one k, after)
      (rw (
        nodes_set left' right part k x,
        take-suc-set (slot_nodes left' right part) k (pennant_at left' right k x) (rw (length_nodes left' right part) (omega (arith, w.long))),
        before,
        here,
        append_assoc (take k (slot_nodes left right part)) (g (pennant_at left right (suc k) (get_or slots₀ (suc k) 0)) ∷ []) (map g (drop (suc (suc k)) (slot_nodes left right slots₀)) ++ gap ∷ []),
      )
      (rw (drop-cons (slot_nodes left right slots₀) (suc k) gap (rw (length_nodes left right slots₀) (omega arith)), nodes_at left right slots₀ (suc k)) at w.tree));
  last = get_or-set_other part k 15 x 0 (λ (e : 15 ≡ k). omega arith) ∙ w.last;
  long = length-set part k x ∙ w.long;
}

-- with 15 slots written the bag is whole
filling_done : (g : Slot → Slot) (left₀ right slots₀ left part : List ℕ) → Filling g left₀ right slots₀ left part 15 → length slots₀ ≡ 16
    → slot_nodes left right part ≡ map g (drop 1 (slot_nodes left₀ right slots₀)) ++ gap ∷ []
filling_done g left₀ right slots₀ left part w l =
    sym (take_all 16 (slot_nodes left right part) (rw (length_nodes left right part) (omega (arith, w.long))))
    ∙ take-suc (slot_nodes left right part) 15 gap (rw (length_nodes left right part) (omega (arith, w.long)))
    ∙ ap (λ (s : Slot). take 15 (slot_nodes left right part) ++ s ∷ []) (nodes_at left right part 15 ∙ none_gap left right 15 (get_or part 15 0) w.last)
    ∙ rw (drop_of_length-le (slot_nodes left right slots₀) {i = 16} (rw (length_nodes left right slots₀) (omega arith))) at w.tree

module _ (left₀ right slots₀ : List ℕ) where
  -- between two steps: both bags are made up to slot k
  pub record Shifting (left first second : List ℕ) (k : ℕ) : Type 0 where
    pub firsts : Filling pennant_first left₀ right slots₀ left first k
    pub seconds : Filling pennant_second left₀ right slots₀ left second k
    pub kept : (i : ℕ) → weigh (only i) (drop 1 (slot_nodes left₀ right slots₀)) ≡ 0 → get_or left i 0 ≡ get_or left₀ i 0
    pub below : k ≤ 15
    pub left_length : length left ≡ length left₀

  module _ (p : Pooled left₀ right (bag_with slots₀ ∷ [])) (l : length slots₀ ≡ 16) (left first second : List ℕ) (k : ℕ) (w : Shifting left first second k) where
    -- no node is lost or gained
    shifting_weighs : (f : ℕ → ℕ)
        → weigh f (take k (slot_nodes left right first)) + weigh f (take k (slot_nodes left right second)) + weigh f (drop (suc k) (slot_nodes left right slots₀)) ≡ weigh f (drop 1 (slot_nodes left₀ right slots₀))
    shifting_weighs f =
        omega (
          arith,
          ap (λ (s : Bag). weigh f s) w.firsts.tree,
          ap (λ (s : Bag). weigh f s) w.seconds.tree,
          weigh_append f (take k (slot_nodes left right first)) (map pennant_first (drop (suc k) (slot_nodes left right slots₀)) ++ gap ∷ []),
          weigh_append f (take k (slot_nodes left right second)) (map pennant_second (drop (suc k) (slot_nodes left right slots₀)) ++ gap ∷ []),
          weigh_end f (map pennant_first (drop (suc k) (slot_nodes left right slots₀))),
          weigh_end f (map pennant_second (drop (suc k) (slot_nodes left right slots₀))),
          weigh_end f (map pennant_first (drop 1 (slot_nodes left₀ right slots₀))),
          weigh_end f (map pennant_second (drop 1 (slot_nodes left₀ right slots₀))),
          weigh_halves f (drop (suc k) (slot_nodes left right slots₀)),
          weigh_halves f (drop 1 (slot_nodes left₀ right slots₀)),
        )

    -- each is used at most once
    shifting_apart : (i : ℕ)
        → weigh (only i) (take k (slot_nodes left right first)) + weigh (only i) (take k (slot_nodes left right second)) + weigh (only i) (drop (suc k) (slot_nodes left right slots₀)) ≤ in_pool (length left) i
    unfolding weigh_nodes sum_of
    shifting_apart i = rw w.left_length (omega (arith, shifting_weighs (only i), weigh_parts (only i) 1 (slot_nodes left₀ right slots₀), p.apart i))

    module _ (h : k < 15) where
      next_counts : (f : ℕ → ℕ) → weigh f (drop (suc k) (slot_nodes left right slots₀)) ≡ weigh_slot f (pennant_at left right (suc k) (get_or slots₀ (suc k) 0)) + weigh f (drop (suc (suc k)) (slot_nodes left right slots₀))
      next_counts f = next_weighs left right slots₀ (suc k) (omega arith) f

      -- the pennant that is split is well-formed
      pub shifting_one : Pennants left right (suc k) (get_or slots₀ (suc k) 0 ∷ [])
      unfolding sum_of
      shifting_one = record { wide = omega (arith, p.wide, w.left_length); apart = λ i. omega (arith, shifting_apart i, next_counts (only i)) }

      -- its root is within the list, and so is the half's
      pub shifting_root : get_or slots₀ (suc k) 0 < length left
      shifting_root = root_below left right (suc k) (get_or slots₀ (suc k) 0) (omega (arith, p.some, w.left_length)) (λ i. omega (arith, shifting_apart i, next_counts (only i)))

      pub shifting_half : (get_or slots₀ (suc k) 0 ≡ 0 → ⊥) → get_or left (get_or slots₀ (suc k) 0) 0 < length right
      shifting_half some = omega (arith, (half_within left right k (get_or slots₀ (suc k) 0) some shifting_one).2, p.wide, w.left_length)

      -- its root goes to the first bag, the half to the second, one slot down
      shifting_next : (left' : List ℕ) (half : ℕ) → Halved left right k (get_or slots₀ (suc k) 0) left' half → length left' ≡ length left → Shifting left' (set first k (get_or slots₀ (suc k) 0)) (set second k half) (k + 1)
      unfolding sum_of
      shifting_next left' half d ll = record {
        firsts = filling_step pennant_first left₀ right slots₀ left first left' k (get_or slots₀ (suc k) 0) w.firsts h l d.first (takes first (λ i c. omega (arith, c, shifting_apart i, next_counts (only i), in_pool_once (length left) i))) rest;
        seconds = filling_step pennant_second left₀ right slots₀ left second left' k half w.seconds h l d.second (takes second (λ i c. omega (arith, c, shifting_apart i, next_counts (only i), in_pool_once (length left) i))) rest;
        kept = λ i c. off i (omega (arith, shifting_weighs (only i), next_counts (only i), c)) ∙ w.kept i c;
        below = omega arith;
        left_length = ll ∙ w.left_length;
      }
        where
          off : (i : ℕ) → weigh_slot (only i) (pennant_at left right (suc k) (get_or slots₀ (suc k) 0)) ≡ 0 → get_or left' i 0 ≡ get_or left i 0
          off i c = d.kept i (omega arith)

          takes : (part : List ℕ) → ((i : ℕ) → 1 ≤ weigh (only i) (take k (slot_nodes left right part)) → weigh_slot (only i) (pennant_at left right (suc k) (get_or slots₀ (suc k) 0)) ≡ 0)
              → take k (slot_nodes left' right part) ≡ take k (slot_nodes left right part)
          takes part away = take_kept left right left' right part k (λ i c. (off i (away i c), refl))

          rest : drop (suc (suc k)) (slot_nodes left' right slots₀) ≡ drop (suc (suc k)) (slot_nodes left right slots₀)
          rest = drop_kept left right left' right slots₀ (suc (suc k)) (λ i c. (off i (omega (arith, c, shifting_apart i, next_counts (only i), in_pool_once (length left) i)), refl))

      -- the same, for the node as the code reads it
      pub shifting_step : (x : ℕ) → x ≡ get_or slots₀ (suc k) 0 → (left' : List ℕ) (half : ℕ) → Halved left right k x left' half → length left' ≡ length left → Shifting left' (set first k x) (set second k half) (k + 1)
      shifting_step x e left' half d ll = rw e (shifting_next left' half (rw e at d) ll)

    -- at the end
    pub shifting_done : k ≡ 15 → Shifted left₀ right slots₀ left first second
    shifting_done e = record {
      nodes_first = filling_done pennant_first left₀ right slots₀ left first (rw e at w.firsts) l;
      nodes_second = filling_done pennant_second left₀ right slots₀ left second (rw e at w.seconds) l;
      kept = w.kept;
    }

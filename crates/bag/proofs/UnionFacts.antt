-- BAG-UNION on the lists: what holds between its steps, that each step keeps it, and what it says at the end.
use Prim.Native.Nat.{ℕ, zero, suc, ◌+◌, ◌≤◌, ◌<◌}
use native.Mathlib.Omega.{arith}
use native.Mathlib.Numerals.{add-one}
use mathlib.Core.Path.{◌≡◌, refl, sym, ap, ◌∙◌}
use mathlib.Core.List.{List, [], ◌∷◌, ◌++◌}
use lib.ListN.{length, get_or, take, drop, set, length-set}
use lib.Seq.{set-set, set-get_or}
use Rattle.lists.specs.Lists.{sum_of}
use Rattle.pennant.specs.Pennant.{Slot, gap}
use Rattle.pennant.specs.Bag.{Bag, adder_sum, add_from, bag_union}
use Rattle.pennant.specs.Held.{weigh_slot, weigh, only}
use Rattle.pennant.proofs.Laws.{weigh_append, weigh_add_from, weigh_union}
use Rattle.bag.specs.Nodes.{pennant_at, slot_nodes, bag_with}
use Rattle.bag.specs.Promises.{in_pool, weigh_nodes, Pooled}
use Rattle.bag.specs.Steps.{Pennants, Added}
use Rattle.bag.proofs.Only.{in_pool_once}
use Rattle.bag.proofs.Kept.{Same, nodes_kept, drop_kept, nodes_at, nodes_set, length_nodes, pennant_shaped}
use Rattle.bag.proofs.Few.{rank_below}
use Rattle.bag.proofs.Pairs.{root_below}
use Rattle.bag.proofs.AddFacts.{add_nothing}
use Rattle.bag.proofs.Backbone.{add_pass, add_end, weigh_parts, slot_weighs, next_weighs}
use Rattle.bag.proofs.PlaceFacts.{some_filled, none_gap}

module _ (left₀ right₀ a b : List ℕ) where
  -- before slot k the union is done, from slot k on it is that with the carry
  pub record Uniting (left right slots : List ℕ) (carry k : ℕ) : Type 0 where
    pub tree : take k (slot_nodes left right slots) ++ add_from (pennant_at left right k carry) (drop k (slot_nodes left right slots)) (drop k (slot_nodes left right b)) ≡ bag_union (slot_nodes left₀ right₀ a) (slot_nodes left₀ right₀ b)
    pub kept : (i : ℕ) → weigh_nodes (only i) left₀ right₀ (bag_with a ∷ bag_with b ∷ []) ≡ 0 → Same left₀ right₀ left right i
    pub below : k ≤ 16
    pub long : length slots ≡ 16
    pub left_length : length left ≡ length left₀
    pub right_length : length right ≡ length right₀

  -- at the start
  pub uniting_start : length a ≡ 16 → Uniting left₀ right₀ a 0 0
  unfolding bag_union pennant_at
  uniting_start l = record { tree = refl; kept = λ i c. (refl, refl); below = omega arith; long = l; left_length = refl; right_length = refl }

  module _ (p : Pooled left₀ right₀ (bag_with a ∷ bag_with b ∷ [])) (l : length b ≡ 16) (left right slots : List ℕ) (carry k : ℕ) (w : Uniting left right slots carry k) where
    -- no node is lost or gained
    uniting_weighs : (f : ℕ → ℕ) → weigh f (slot_nodes left right slots) + weigh_slot f (pennant_at left right k carry) + weigh f (drop k (slot_nodes left right b)) ≡ weigh_nodes f left₀ right₀ (bag_with a ∷ bag_with b ∷ [])
    unfolding weigh_nodes sum_of
    uniting_weighs f =
        omega (
          arith,
          ap (λ (s : Bag). weigh f s) w.tree,
          weigh_append f (take k (slot_nodes left right slots)) (add_from (pennant_at left right k carry) (drop k (slot_nodes left right slots)) (drop k (slot_nodes left right b))),
          weigh_add_from f (pennant_at left right k carry) (drop k (slot_nodes left right slots)) (drop k (slot_nodes left right b)),
          weigh_parts f k (slot_nodes left right slots),
          weigh_union f (slot_nodes left₀ right₀ a) (slot_nodes left₀ right₀ b),
        )

    -- each is used at most once
    uniting_apart : (i : ℕ) → weigh (only i) (slot_nodes left right slots) + weigh_slot (only i) (pennant_at left right k carry) + weigh (only i) (drop k (slot_nodes left right b)) ≤ in_pool (length left) i
    uniting_apart i = rw w.left_length (omega (arith, uniting_weighs (only i), p.apart i))

    -- past the last slot nothing is carried, and the slots are those of the union
    pub uniting_done : k ≡ 16 → slot_nodes left right slots ≡ bag_union (slot_nodes left₀ right₀ a) (slot_nodes left₀ right₀ b)
    uniting_done e =
        sym (add_end 16 (slot_nodes left right slots) (slot_nodes left right b) (length_nodes left right slots ∙ w.long) (length_nodes left right b ∙ l))
        ∙ ap (λ (y : Slot). take 16 (slot_nodes left right slots) ++ add_from y (drop 16 (slot_nodes left right slots)) (drop 16 (slot_nodes left right b))) (sym (none carry refl))
        ∙ rw e at w.tree
      where
        none : (x : ℕ) → carry ≡ x → pennant_at left right 16 carry ≡ gap
        none zero q = none_gap left right 16 carry q
        none (suc x) q =
            let some : carry ≡ 0 → ⊥ = λ (z : carry ≡ 0). omega arith in
            let high = rank_below (length left) k (pennant_at left right k carry) (pennant_shaped left right k carry) (some_filled left right k carry some) (λ i. omega (arith, uniting_apart i)) (omega (arith, w.left_length, p.few)) in
            absurd (omega arith)

    module _ (h : k < 16) where
      slots_within : k < length (slot_nodes left right slots)
      slots_within = rw (length_nodes left right slots) (omega (arith, w.long))

      others_within : k < length (slot_nodes left right b)
      others_within = rw (length_nodes left right b) (omega arith)

      slot_counts : (f : ℕ → ℕ) → weigh f (slot_nodes left right (set slots k 0)) + weigh_slot f (pennant_at left right k (get_or slots k 0)) ≡ weigh f (slot_nodes left right slots)
      slot_counts f = slot_weighs left right slots k (omega (arith, w.long)) f

      other_counts : (f : ℕ → ℕ) → weigh f (drop k (slot_nodes left right b)) ≡ weigh_slot f (pennant_at left right k (get_or b k 0)) + weigh f (drop (suc k) (slot_nodes left right b))
      other_counts f = next_weighs left right b k (omega arith) f

      -- the three pennants of slot k are apart
      pub uniting_three : Pennants left right k (get_or slots k 0 ∷ get_or b k 0 ∷ carry ∷ [])
      unfolding sum_of
      uniting_three = record { wide = omega (arith, p.wide, w.left_length, w.right_length); apart = λ i. omega (arith, uniting_apart i, slot_counts (only i), other_counts (only i)) }

      uniting_some : 0 < length left
      uniting_some = omega (arith, p.some, w.left_length)

      -- their roots are within the list
      pub uniting_slot : get_or slots k 0 < length left
      uniting_slot = root_below left right k (get_or slots k 0) uniting_some (λ i. omega (arith, uniting_apart i, slot_counts (only i)))

      pub uniting_other : get_or b k 0 < length left
      uniting_other = root_below left right k (get_or b k 0) uniting_some (λ i. omega (arith, uniting_apart i, other_counts (only i)))

      pub uniting_carry : carry < length left
      uniting_carry = root_below left right k carry uniting_some (λ i. omega (arith, uniting_apart i))

      -- the slot's sum is stored and the carry goes on
      pub uniting_step : (left' right' : List ℕ) (slot carry' : ℕ) → Added left right k (get_or slots k 0) (get_or b k 0) carry left' right' slot carry'
          → length left' ≡ length left → length right' ≡ length right → Uniting left' right' (set slots k slot) carry' (k + 1)
      unfolding sum_of
      uniting_step left' right' slot carry' d ll rl = record {
        tree =
            rw (add-one k, d.carried, sums, others)
            (sym (rw (nodes_at left right slots k, nodes_at left right b k) at (add_pass k (pennant_at left right k carry) (slot_nodes left right slots) (slot_nodes left right b) slots_within others_within))
            ∙ w.tree);
        kept = λ i c.
            let same = off i (omega (arith, c, uniting_weighs (only i), slot_counts (only i), other_counts (only i))) in
            let before = w.kept i c in
            (same.0 ∙ before.0, same.1 ∙ before.1);
        below = omega arith;
        long = length-set slots k slot ∙ w.long;
        left_length = ll ∙ w.left_length;
        right_length = rl ∙ w.right_length;
      }
        where
          off : (i : ℕ) → weigh_slot (only i) (pennant_at left right k (get_or slots k 0)) + weigh_slot (only i) (pennant_at left right k (get_or b k 0)) + weigh_slot (only i) (pennant_at left right k carry) ≡ 0 → Same left right left' right' i
          off i c = (d.kept_left i (omega arith), d.kept_right i (omega arith))

          -- the other slots are as they were
          slots_same : slot_nodes left' right' (set slots k 0) ≡ slot_nodes left right (set slots k 0)
          slots_same = nodes_kept left right left' right' (set slots k 0) (λ i c. off i (omega (arith, c, uniting_apart i, slot_counts (only i), other_counts (only i), in_pool_once (length left) i)))

          others : drop (suc k) (slot_nodes left' right' b) ≡ drop (suc k) (slot_nodes left right b)
          others = drop_kept left right left' right' b (suc k) (λ i c. off i (omega (arith, c, uniting_apart i, slot_counts (only i), other_counts (only i), in_pool_once (length left) i)))

          sums : slot_nodes left' right' (set slots k slot) ≡ set (slot_nodes left right slots) k (adder_sum (pennant_at left right k (get_or slots k 0)) (pennant_at left right k (get_or b k 0)) (pennant_at left right k carry))
          sums =
              ap (λ (xs : List ℕ). slot_nodes left' right' xs) (sym (set-set slots k 0 slot))
              ∙ nodes_set left' right' (set slots k 0) k slot
              ∙ rw (slots_same, d.sum, nodes_set left right slots k 0) (set-set (slot_nodes left right slots) k (pennant_at left right k 0) (adder_sum (pennant_at left right k (get_or slots k 0)) (pennant_at left right k (get_or b k 0)) (pennant_at left right k carry)))

      -- a slot with nothing to add is passed: its sum is what it holds, and nothing is carried
      pub uniting_pass : get_or b k 0 ≡ 0 → carry ≡ 0 → Uniting left right slots carry (k + 1)
      uniting_pass e q = rw q (rw (set-get_or slots k 0) at (uniting_step left right (get_or slots k 0) 0 (rw (e, q) (add_nothing left right k (get_or slots k 0))) refl refl))

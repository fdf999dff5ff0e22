-- The operations on a backbone at slot k: what is before k is done, what is from k on is still to do.
use Prim.Native.Nat.{ℕ, zero, suc, ◌+◌, ◌<◌}
use native.Mathlib.Omega.{arith}
use mathlib.Core.Path.{◌≡◌, refl, sym, ap, ◌∙◌}
use mathlib.Core.Bool.{true, false, true≢false}
use mathlib.Core.List.{List, [], ◌∷◌, ◌++◌}
use lib.ListN.{length, get_or, take, drop, set}
use Rattle.lists.specs.Lists.{sum_of}
use Rattle.lists.proofs.Sums.{sum_set}
use Rattle.pennant.specs.Pennant.{Slot, gap, tip, pennant_union}
use Rattle.pennant.specs.Bag.{Bag, is_gap, insert_pennant, insert_filled, adder_sum, adder_carry, add_from}
use Rattle.pennant.specs.Held.{weigh, weigh_slot}
use Rattle.bag.specs.Nodes.{pennant_at, slot_nodes}
use Rattle.bag.proofs.Kept.{length_nodes, nodes_at, nodes_set}

-- an insertion goes on past a filled slot
pub insert_pass : (k : ℕ) (x : Slot) (s : Bag) → k < length s → is_gap (get_or s k gap) ≡ false
    → take k s ++ insert_pennant x (drop k s) ≡ take (suc k) (set s k gap) ++ insert_pennant (pennant_union (get_or s k gap) x) (drop (suc k) (set s k gap))
unfolding insert_pennant
insert_pass k x [] h f = absurd (omega arith)
insert_pass zero x (gap ∷ s) h f = absurd (true≢false f)
insert_pass zero x (tip a t ∷ s) h f = refl
insert_pass (suc k) x (y ∷ s) h f = ap (λ (l : Bag). y ∷ l) (insert_pass k x s (omega arith) f)

-- and ends at an empty one
pub insert_here : (k : ℕ) (x : Slot) (s : Bag) → k < length s → is_gap (get_or s k gap) ≡ true → take k s ++ insert_pennant x (drop k s) ≡ set s k x
unfolding insert_pennant
insert_here k x [] h f = absurd (omega arith)
insert_here zero x (gap ∷ s) h f = refl
insert_here zero x (tip a t ∷ s) h f = absurd (true≢false (sym f))
insert_here (suc k) x (y ∷ s) h f = ap (λ (l : Bag). y ∷ l) (insert_here k x s (omega arith) f)

-- a union does one slot
pub add_pass : (k : ℕ) (z : Slot) (s t : Bag) → k < length s → k < length t
    → take k s ++ add_from z (drop k s) (drop k t)
    ≡ take (suc k) (set s k (adder_sum (get_or s k gap) (get_or t k gap) z)) ++ add_from (adder_carry (get_or s k gap) (get_or t k gap) z) (drop (suc k) (set s k (adder_sum (get_or s k gap) (get_or t k gap) z))) (drop (suc k) t)
unfolding add_from
add_pass k z [] t h g = absurd (omega arith)
add_pass k z (x ∷ s) [] h g = absurd (omega arith)
add_pass zero z (x ∷ s) (y ∷ t) h g = refl
add_pass (suc k) z (x ∷ s) (y ∷ t) h g = ap (λ (l : Bag). x ∷ l) (add_pass k z s t (omega arith) (omega arith))

-- and ends where nothing is carried past the last
pub add_end : (k : ℕ) (s t : Bag) → length s ≡ k → length t ≡ k → take k s ++ add_from gap (drop k s) (drop k t) ≡ s
unfolding add_from insert_filled
add_end zero [] [] h g = refl
add_end zero [] (y ∷ t) h g = absurd (omega arith)
add_end zero (x ∷ s) t h g = absurd (omega arith)
add_end (suc k) [] t h g = absurd (omega arith)
add_end (suc k) (x ∷ s) [] h g = absurd (omega arith)
add_end (suc k) (x ∷ s) (y ∷ t) h g = ap (λ (l : Bag). x ∷ l) (add_end k s t (omega arith) (omega arith))

-- weights of a backbone: the slots before k and those from k on, one slot replaced, slot k and those after it
module _ (f : ℕ → ℕ) where
  pub weigh_parts : (k : ℕ) (s : Bag) → weigh f (take k s) + weigh f (drop k s) ≡ weigh f s
  unfolding weigh sum_of
  weigh_parts zero s = omega arith
  weigh_parts (suc k) [] = omega arith
  weigh_parts (suc k) (x ∷ s) = omega (arith, weigh_parts k s)

  pub weigh_set : (k : ℕ) (s : Bag) (y : Slot) → k < length s → weigh f (set s k y) + weigh_slot f (get_or s k gap) ≡ weigh f s + weigh_slot f y
  unfolding weigh
  weigh_set k s y h = sum_set (weigh_slot f) s k y gap h

  pub weigh_next : (k : ℕ) (s : Bag) → k < length s → weigh f (drop k s) ≡ weigh_slot f (get_or s k gap) + weigh f (drop (suc k) s)
  unfolding weigh sum_of
  weigh_next k [] h = absurd (omega arith)
  weigh_next zero (x ∷ s) h = refl
  weigh_next (suc k) (x ∷ s) h = weigh_next k s (omega arith)

-- The same of a bag of nodes.
module _ (left right slots : List ℕ) (k : ℕ) (h : k < length slots) (f : ℕ → ℕ) where
  within : k < length (slot_nodes left right slots)
  within = rw (length_nodes left right slots) h

  -- slot k emptied, and what it held
  pub slot_weighs : weigh f (slot_nodes left right (set slots k 0)) + weigh_slot f (pennant_at left right k (get_or slots k 0)) ≡ weigh f (slot_nodes left right slots)
  unfolding pennant_at weigh_slot
  slot_weighs = rw (nodes_set left right slots k 0, ← (nodes_at left right slots k)) (weigh_set f k (slot_nodes left right slots) gap within ∙ omega arith)

  -- slot k and those after it
  pub next_weighs : weigh f (drop k (slot_nodes left right slots)) ≡ weigh_slot f (pennant_at left right k (get_or slots k 0)) + weigh f (drop (suc k) (slot_nodes left right slots))
  next_weighs = rw (nodes_at left right slots k) at (weigh_next f k (slot_nodes left right slots) within)

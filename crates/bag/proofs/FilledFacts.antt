-- Filled slots: whether there are any, or any past slot 0, which of them is the first, and what the bag is then.
use Prim.Native.Nat.{ℕ, zero, suc, ◌+◌, ◌≤◌, ◌<◌}
use native.Mathlib.Omega.{arith}
use native.Mathlib.Nat.{zero-add}
use mathlib.Core.Path.{◌≡◌, refl, sym, ap, ◌∙◌}
use mathlib.Core.Bool.{Bool, true, false, not, true≢false}
use mathlib.Core.List.{List, [], ◌∷◌}
use lib.ListN.{length, get_or, drop, set, replicate, drop_of_length-le}
use lib.Seq.{drop-cons}
use lib.Dec.{eqb, eqb-suc-zero}
use lib.Pointwise.{pointwise}
use Rattle.std.proofs.Common.{Some}
use Rattle.std.proofs.lemmas.Grind.{common_steps}
use Rattle.std.specs.List.{position, position_or_len}
use Rattle.pennant.specs.Pennant.{Slot, gap, tip}
use Rattle.pennant.specs.Bag.{is_empty, at_least_two, spread, take_from, taken_number}
use Rattle.bag.specs.Nodes.{tree_at, pennant_at, slots_from, slot_nodes}
use Rattle.bag.proofs.Kept.{length_nodes, nodes_at}
use Rattle.bag.proofs.Pairs.{pennant_some}
use Rattle.bag.proofs.PlaceFacts.{none_gap}

-- the place of the first number other than 0, counted from k; past the end where all are 0
unfoldable pub first_filled : ℕ → List ℕ → ℕ
first_filled k [] = k
first_filled k (zero ∷ xs) = first_filled (suc k) xs
first_filled k (suc x ∷ xs) = k

-- a number that is not 0 is found
filled_first : (k x : ℕ) (xs : List ℕ) → (x ≡ 0 → ⊥) → first_filled k (x ∷ xs) ≡ k
unfolding first_filled
filled_first k zero xs h = absurd (h refl)
filled_first k (suc x) xs h = refl

-- a 0 is passed
empty_first : (k x : ℕ) (xs : List ℕ) → x ≡ 0 → first_filled k (x ∷ xs) ≡ first_filled (suc k) xs
unfolding first_filled
empty_first k zero xs e = refl
empty_first k (suc x) xs e = absurd (omega arith)

module _ (slots : List ℕ) (k : ℕ) where
  -- slot k is found where it is filled
  pub filled_here : k < length slots → (get_or slots k 0 ≡ 0 → ⊥) → first_filled k (drop k slots) ≡ k
  filled_here h f = rw (drop-cons slots k 0 h) (filled_first k (get_or slots k 0) (drop (suc k) slots) f)

  -- slot k is passed where it is empty
  filled_next : k < length slots → get_or slots k 0 ≡ 0 → first_filled k (drop k slots) ≡ first_filled (suc k) (drop (suc k) slots)
  filled_next h e = rw (drop-cons slots k 0 h) (empty_first k (get_or slots k 0) (drop (suc k) slots) e)

-- how far the first number other than 0 is
prefix_filled : (k : ℕ) (xs : List ℕ) → first_filled k xs ≡ k + position_or_len (λ x. not (eqb x 0)) xs
unfolding first_filled
prefix_filled k [] = omega arith
prefix_filled k (zero ∷ xs) = omega (arith, prefix_filled (suc k) xs)
prefix_filled k (suc x ∷ xs) = rw (eqb-suc-zero x) (omega arith)

-- where some number is not 0, its position is found
pub filled_position : (xs : List ℕ) → first_filled 0 xs < length xs → position (λ x. not (eqb x 0)) xs ≡ Some (first_filled 0 xs)
filled_position xs h = let e = prefix_filled 0 xs in grind (arith, common_steps)

-- Slots compared with as many empty ones.
module _ (left right : List ℕ) where
  -- nothing is held where all slots are empty
  none_held : (k : ℕ) (slots : List ℕ) → pointwise eqb slots (replicate (length slots) 0) ≡ is_empty (slots_from left right k slots)
  unfolding slots_from pennant_at is_empty
  none_held k [] = refl
  none_held k (zero ∷ slots) = none_held (suc k) slots
  none_held k (suc x ∷ slots) = rw (eqb-suc-zero x)

  pub is_none : (slots : List ℕ) {none : Bool} → length slots ≡ 16 → none ≡ pointwise eqb slots (replicate 16 0) → none ≡ is_empty (slot_nodes left right slots)
  unfolding slot_nodes
  is_none slots long e = e ∙ rw long at (none_held 0 slots)

  -- two or more are held where some slot past slot 0 is filled
  some_past : (slots : List ℕ) → not (pointwise eqb (set slots 0 0) (replicate (length slots) 0)) ≡ at_least_two (slot_nodes left right slots)
  unfolding slot_nodes slots_from at_least_two
  some_past [] = refl
  some_past (x ∷ slots) = ap not (none_held 1 slots)

  pub is_two : (slots : List ℕ) {two : Bool} → length slots ≡ 16 → two ≡ not (pointwise eqb (set slots 0 0) (replicate 16 0)) → two ≡ at_least_two (slot_nodes left right slots)
  is_two slots long e = e ∙ rw long at (some_past slots)

module _ (left right slots : List ℕ) (k : ℕ) where
  -- past the last slot the bag is empty
  nodes_end : length slots ≤ k → is_empty (drop k (slot_nodes left right slots)) ≡ true
  unfolding is_empty
  nodes_end h = ap is_empty (drop_of_length-le (slot_nodes left right slots) {i = k} (rw (length_nodes left right slots) h))

  module _ (h : k < length slots) where
    slot_next : drop k (slot_nodes left right slots) ≡ pennant_at left right k (get_or slots k 0) ∷ drop (suc k) (slot_nodes left right slots)
    slot_next = drop-cons (slot_nodes left right slots) k gap (rw (length_nodes left right slots) h) ∙ ap (λ (x : Slot). x ∷ drop (suc k) (slot_nodes left right slots)) (nodes_at left right slots k)

    -- an empty slot before the others
    slot_empty : get_or slots k 0 ≡ 0 → drop k (slot_nodes left right slots) ≡ gap ∷ drop (suc k) (slot_nodes left right slots)
    slot_empty e = slot_next ∙ ap (λ (x : Slot). x ∷ drop (suc k) (slot_nodes left right slots)) (none_gap left right k (get_or slots k 0) e)

    -- a filled one
    slot_filled : (get_or slots k 0 ≡ 0 → ⊥)
        → drop k (slot_nodes left right slots) ≡ tip (get_or slots k 0) (tree_at left right k (get_or left (get_or slots k 0) 0)) ∷ drop (suc k) (slot_nodes left right slots)
    slot_filled f = slot_next ∙ ap (λ (x : Slot). x ∷ drop (suc k) (slot_nodes left right slots)) (pennant_some left right k (get_or slots k 0) f)

module _ (left right : List ℕ) where
  -- the lowest filled slot r of those from k on
  pub record Lowest (slots : List ℕ) (k r : ℕ) : Type 0 where
    pub within : r < length slots
    pub some : get_or slots r 0 ≡ 0 → ⊥
    pub rest : take_from k (drop k (slot_nodes left right slots)) ≡ spread r (pennant_at left right r (get_or slots r 0)) (gap ∷ drop (suc r) (slot_nodes left right slots))
    pub taken : taken_number (drop k (slot_nodes left right slots)) ≡ get_or slots r 0

  lowest_from : (slots : List ℕ) (n k : ℕ) → k + n ≡ length slots → is_empty (drop k (slot_nodes left right slots)) ≡ false → Lowest slots k (first_filled k (drop k slots))
  unfolding is_empty take_from taken_number
  lowest_from slots zero k e f = absurd (true≢false (sym (nodes_end left right slots k (omega arith)) ∙ f))
  lowest_from slots (suc n) k e f = go (lowest_from slots n (suc k) (omega arith)) (get_or slots k 0) refl
    where
      within : k < length slots
      within = omega arith

      go : (is_empty (drop (suc k) (slot_nodes left right slots)) ≡ false → Lowest slots (suc k) (first_filled (suc k) (drop (suc k) slots))) → (x : ℕ) → get_or slots k 0 ≡ x → Lowest slots k (first_filled k (drop k slots))
      go lower zero q =
          let gone = slot_empty left right slots k within q in
          let after : Lowest slots (suc k) (first_filled (suc k) (drop (suc k) slots)) = lower (rw gone at f) in
          let found : first_filled k (drop k slots) ≡ first_filled (suc k) (drop (suc k) slots) = filled_next slots k within q in
          rw found (record {
            within = after.within;
            some = after.some;
            rest = ap (take_from k) gone ∙ after.rest;
            taken = ap taken_number gone ∙ after.taken;
          })
      go lower (suc x) q =
          let some : get_or slots k 0 ≡ 0 → ⊥ = λ (z : get_or slots k 0 ≡ 0). omega arith in
          let full = slot_filled left right slots k within some in
          rw (filled_here slots k within some) (record {
            within = within;
            some = some;
            rest = ap (take_from k) full ∙ ap (λ (x : Slot). spread k x (gap ∷ drop (suc k) (slot_nodes left right slots))) (sym (pennant_some left right k (get_or slots k 0) some));
            taken = ap taken_number full;
          })

  -- take goes by the first filled slot
  pub lowest_found : (slots : List ℕ) {r : ℕ} → r ≡ first_filled 0 slots → is_empty (slot_nodes left right slots) ≡ false → Lowest slots 0 r
  lowest_found slots e f = rw e (lowest_from slots (length slots) 0 (zero-add (length slots)) f)

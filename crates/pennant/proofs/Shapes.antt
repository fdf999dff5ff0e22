-- Each operation keeps the shape of a bag: slot k is empty or holds a pennant of size 2^k. And what take does to a weight, which rests
-- on the shape.
use mathlib.Core.Path.{◌≡◌, refl}
use mathlib.Core.Bool.{false, true≢false}
use mathlib.Core.List.{[], ◌∷◌, ◌++◌, map}
use Prim.Native.Nat.{ℕ, zero, suc, ◌+◌}
use native.Mathlib.Omega.{arith}
use lib.ListN.{replicate}
use Rattle.lists.specs.Lists.{sum_of}
use Rattle.pennant.specs.Pennant.{Tree, null, node, Slot, gap, tip, pennant_union, pennant_first, pennant_second}
use Rattle.pennant.specs.Bag.{Bag, slot_count, empty_bag, insert_pennant, bag_insert, insert_filled, adder_sum, adder_carry, add_from, bag_union}
use Rattle.pennant.specs.Bag.{split_first, split_second, spread, take_from, take_rest, taken_number, is_gap, is_empty}
use Rattle.pennant.specs.Held.{weigh_tree, weigh_slot, weigh, Complete, Pennant, ShapedFrom, Shaped}

-- Pennants.

-- a union of two pennants of size 2^k has size 2^(k+1)
pub pennant_union_shape : (k : ℕ) (x y : Slot) → Pennant k x → Pennant k y → is_gap x ≡ false → is_gap y ≡ false → Pennant (suc k) (pennant_union x y)
unfolding pennant_union
pennant_union_shape k gap y p q e f = absurd (true≢false e)
pennant_union_shape k (tip a x) gap p q e f = absurd (true≢false f)
pennant_union_shape k (tip a x) (tip b y) p q e f = (q, p)

-- a union with a pennant is a pennant
pub pennant_union_filled : (x y : Slot) → is_gap x ≡ false → is_gap (pennant_union x y) ≡ false
unfolding pennant_union
pennant_union_filled gap y e = absurd (true≢false e)
pennant_union_filled (tip a x) gap e = refl
pennant_union_filled (tip a x) (tip b y) e = refl

-- what a split keeps of a pennant of size 2^(k+1) has size 2^k
pub first_shape : (k : ℕ) (x : Slot) → Pennant (suc k) x → Pennant k (pennant_first x)
unfolding pennant_first
first_shape k gap p = tt
first_shape k (tip a null) p = absurd p
first_shape k (tip a (node b y x)) p = p.1

-- and so has what it splits off
pub second_shape : (k : ℕ) (x : Slot) → Pennant (suc k) x → Pennant k (pennant_second x)
unfolding pennant_second
second_shape k gap p = tt
second_shape k (tip a null) p = absurd p
second_shape k (tip a (node b y x)) p = p.0

-- The empty bag.

-- empty slots have the shape
pub shaped_gaps : (k n : ℕ) → ShapedFrom k (replicate n gap)
shaped_gaps k zero = tt
shaped_gaps k (suc n) = (tt, shaped_gaps (suc k) n)

-- the empty bag has the shape
pub shaped_empty : Shaped empty_bag
unfolding empty_bag
shaped_empty = shaped_gaps 0 slot_count

-- Insertion.

-- a pennant inserted where its size belongs
pub shaped_insert_pennant : (k : ℕ) (x : Slot) (s : Bag) → Pennant k x → is_gap x ≡ false → ShapedFrom k s → ShapedFrom k (insert_pennant x s)
unfolding insert_pennant
shaped_insert_pennant k x [] p e h = (p, tt)
shaped_insert_pennant k x (gap ∷ s) p e h = (p, h.1)
shaped_insert_pennant k x (tip a t ∷ s) p e h =
    (tt, shaped_insert_pennant (suc k) (pennant_union (tip a t) x) s (pennant_union_shape k (tip a t) x h.0 p refl e) (pennant_union_filled (tip a t) x refl) h.1)

-- a number inserted
pub shaped_insert : (a : ℕ) (s : Bag) → Shaped s → Shaped (bag_insert a s)
unfolding bag_insert
shaped_insert a s h = shaped_insert_pennant 0 (tip a null) s tt refl h

-- a pennant inserted if there is one
pub shaped_insert_filled : (k : ℕ) (x : Slot) (s : Bag) → Pennant k x → ShapedFrom k s → ShapedFrom k (insert_filled x s)
unfolding insert_filled
shaped_insert_filled k gap s p h = h
shaped_insert_filled k (tip a t) s p h = shaped_insert_pennant k (tip a t) s p refl h

-- Union.

-- the full adder's sum: empty or of the size of the three
pub adder_sum_shape : (k : ℕ) (x y z : Slot) → Pennant k x → Pennant k y → Pennant k z → Pennant k (adder_sum x y z)
unfolding adder_sum
adder_sum_shape k gap gap gap p q r = tt
adder_sum_shape k (tip a x) gap gap p q r = p
adder_sum_shape k gap (tip b y) gap p q r = q
adder_sum_shape k gap gap (tip c z) p q r = r
adder_sum_shape k (tip a x) (tip b y) gap p q r = tt
adder_sum_shape k (tip a x) gap (tip c z) p q r = tt
adder_sum_shape k gap (tip b y) (tip c z) p q r = tt
adder_sum_shape k (tip a x) (tip b y) (tip c z) p q r = p

-- the full adder's carry: empty or of twice that size
pub adder_carry_shape : (k : ℕ) (x y z : Slot) → Pennant k x → Pennant k y → Pennant k z → Pennant (suc k) (adder_carry x y z)
unfolding adder_carry
adder_carry_shape k gap gap gap p q r = tt
adder_carry_shape k (tip a x) gap gap p q r = tt
adder_carry_shape k gap (tip b y) gap p q r = tt
adder_carry_shape k gap gap (tip c z) p q r = tt
adder_carry_shape k (tip a x) (tip b y) gap p q r = pennant_union_shape k (tip a x) (tip b y) p q refl refl
adder_carry_shape k (tip a x) gap (tip c z) p q r = pennant_union_shape k (tip a x) (tip c z) p r refl refl
adder_carry_shape k gap (tip b y) (tip c z) p q r = pennant_union_shape k (tip b y) (tip c z) q r refl refl
adder_carry_shape k (tip a x) (tip b y) (tip c z) p q r = pennant_union_shape k (tip b y) (tip c z) q r refl refl

-- two bags added from a carry on
pub shaped_add_from : (k : ℕ) (y : Slot) (s t : Bag) → Pennant k y → ShapedFrom k s → ShapedFrom k t → ShapedFrom k (add_from y s t)
unfolding add_from
shaped_add_from k y [] t p g h = shaped_insert_filled k y t p h
shaped_add_from k y (a ∷ s) [] p g h = shaped_insert_filled k y (a ∷ s) p g
shaped_add_from k y (a ∷ s) (b ∷ t) p g h =
    (adder_sum_shape k a b y g.0 h.0 p, shaped_add_from (suc k) (adder_carry a b y) s t (adder_carry_shape k a b y g.0 h.0 p) g.1 h.1)

-- a union of bags
pub shaped_union : (s t : Bag) → Shaped s → Shaped t → Shaped (bag_union s t)
unfolding bag_union
shaped_union s t g h = shaped_add_from 0 gap s t tt g h

-- Split.

-- what h makes of each pennant, one slot down, and an empty slot at the end
pub shaped_lower : (h : Slot → Slot) → ((k : ℕ) (x : Slot) → Pennant (suc k) x → Pennant k (h x)) → (k : ℕ) (s : Bag) → ShapedFrom (suc k) s → ShapedFrom k (map h s ++ gap ∷ [])
shaped_lower h lower k [] p = (tt, tt)
shaped_lower h lower k (x ∷ s) p = (lower k x p.0, shaped_lower h lower (suc k) s p.1)

-- what a split leaves
pub shaped_first : (s : Bag) → Shaped s → Shaped (split_first s)
unfolding split_first
shaped_first [] h = tt
shaped_first (y ∷ s) h = shaped_insert_filled 0 y (map pennant_first s ++ gap ∷ []) h.0 (shaped_lower pennant_first first_shape 0 s h.1)

-- what a split returns
pub shaped_second : (s : Bag) → Shaped s → Shaped (split_second s)
unfolding split_second
shaped_second [] h = tt
shaped_second (y ∷ s) h = shaped_lower pennant_second second_shape 0 s h.1

-- Take.

-- a pennant spread over the slots before its own
pub shaped_spread : (k : ℕ) (x : Slot) (s : Bag) → Pennant k x → ShapedFrom k s → Shaped (spread k x s)
unfolding spread
shaped_spread zero x s p h = h
shaped_spread (suc k) x s p h = shaped_spread k (pennant_first x) (pennant_second x ∷ s) (first_shape k x p) (second_shape k x p, h)

-- what take leaves, the first k slots being empty
pub shaped_take_from : (k : ℕ) (s : Bag) → ShapedFrom k s → Shaped (take_from k s)
unfolding take_from
shaped_take_from k [] h = shaped_gaps 0 k
shaped_take_from k (gap ∷ s) h = shaped_take_from (suc k) s h.1
shaped_take_from k (tip a t ∷ s) h = shaped_spread k (tip a t) (gap ∷ s) h.0 (tt, h.1)

-- what take leaves
pub shaped_rest : (s : Bag) → Shaped s → Shaped (take_rest s)
unfolding take_rest
shaped_rest s h = shaped_take_from 0 s h

-- a pennant spread, and its root's number, weigh what the pennant weighed
pub weigh_spread : (f : ℕ → ℕ) (k a : ℕ) (t : Tree) (s : Bag) → Complete k t → f a + weigh f (spread k (tip a t) s) ≡ weigh_slot f (tip a t) + weigh f s
unfolding spread pennant_first pennant_second weigh weigh_slot weigh_tree sum_of
weigh_spread f zero a null s c = omega arith
weigh_spread f zero a (node b l r) s c = absurd c
weigh_spread f (suc k) a null s c = absurd c
weigh_spread f (suc k) a (node b l r) s c = omega (arith, weigh_spread f k a r (tip b l ∷ s) c.1)

-- the number taken and what take leaves, the first k slots being empty
pub weigh_take_from : (f : ℕ → ℕ) (k : ℕ) (s : Bag) → ShapedFrom k s → is_empty s ≡ false → f (taken_number s) + weigh f (take_from k s) ≡ weigh f s
unfolding take_from taken_number is_empty weigh weigh_slot sum_of
weigh_take_from f k [] h e = absurd (true≢false e)
weigh_take_from f k (gap ∷ s) h e = omega (arith, weigh_take_from f (suc k) s h.1 e)
weigh_take_from f k (tip a t ∷ s) h e = omega (arith, weigh_spread f k a t (gap ∷ s) h.0)

-- the number taken and what take leaves weigh what the bag weighed
pub weigh_rest : (f : ℕ → ℕ) (s : Bag) → Shaped s → is_empty s ≡ false → f (taken_number s) + weigh f (take_rest s) ≡ weigh f s
unfolding take_rest
weigh_rest f s h e = weigh_take_from f 0 s h e

-- How many numbers a bag of the right shape holds, slot by slot and half by half, and how many slots its backbone has after each
-- operation.
use mathlib.Core.Path.{◌≡◌, refl, sym, ap, ◌∙◌}
use mathlib.Core.Bool.{Bool, true, false, not, true≢false}
use mathlib.Core.List.{[], ◌∷◌, ◌++◌, map}
use Prim.Native.Nat.{ℕ, zero, suc, ◌+◌, ◌-◌, ◌/◌, ◌^◌, ◌≤◌, ◌<◌}
use native.Mathlib.Nat.{add-zero, zero-add, add-suc, suc-add, pow-le-pow_right}
use native.Mathlib.Omega.{arith}
use lib.Dec.{leb, ltb}
use lib.ListN.{length, get_or, replicate, length-append, length-map, length-replicate}
use borrow.Author.Tests.{leb-true, le-leb, lt-leb, ltb-true, ltb-false}
use Rattle.lists.specs.Lists.{sum_of}
use Rattle.pennant.specs.Pennant.{Tree, null, node, Slot, gap, tip, pennant_union, pennant_first, pennant_second}
use Rattle.pennant.specs.Bag.{Bag, slot_count, empty_bag, insert_pennant, bag_insert, insert_filled, adder_carry, add_from, bag_union, split_first}
use Rattle.pennant.specs.Bag.{split_second, spread, take_from, take_rest, is_gap, is_empty, at_least_two}
use Rattle.pennant.specs.Held.{weigh_tree, weigh_slot, weigh, one, size, Complete, Pennant, ShapedFrom, Shaped}
use Rattle.pennant.proofs.Weights.{weigh_pennant_union, weigh_slot_within, weigh_adder, weigh_halves, weigh_end, weigh_split, empty_weighs, filled_size, sized_filled}
use Rattle.pennant.proofs.Shapes.{pennant_union_shape, pennant_union_filled, first_shape, adder_carry_shape, shaped_lower}

-- Pennants and slots.

-- a complete tree of depth k holds 2^k - 1 numbers
pub complete_size : (k : ℕ) (t : Tree) → Complete k t → suc (weigh_tree one t) ≡ 2 ^ k
unfolding weigh_tree
complete_size zero null c = refl
complete_size zero (node a l r) c = absurd c
complete_size (suc k) null c = absurd c
complete_size (suc k) (node a l r) c = omega (arith, complete_size k l c.0, complete_size k r c.1)

-- a pennant of slot k holds 2^k
pub pennant_size : (k : ℕ) (x : Slot) → Pennant k x → is_gap x ≡ false → weigh_slot one x ≡ 2 ^ k
unfolding weigh_slot
pennant_size k gap p e = absurd (true≢false e)
pennant_size k (tip a t) p e = omega (arith, complete_size k t p)

-- a slot k, empty or not, holds at most 2^k
pub pennant_within : (k : ℕ) (x : Slot) → Pennant k x → weigh_slot one x ≤ 2 ^ k
unfolding weigh_slot
pennant_within k gap p = omega arith
pennant_within k (tip a t) p = omega (arith, complete_size k t p)

-- one slot up counted in the power or in the places
power_up : (k n : ℕ) → 2 ^ (suc k + n) ≡ 2 ^ (k + suc n)
power_up k n = rw (suc-add, add-suc)

-- no places more
power_end : (k : ℕ) → 2 ^ (k + 0) ≡ 2 ^ k
power_end k = rw add-zero

-- the k-th of the slots from j on holds 2^(j+k)
slot_size_from : (j : ℕ) (s : Bag) → ShapedFrom j s → (k : ℕ) → is_gap (get_or s k gap) ≡ false → weigh_slot one (get_or s k gap) ≡ 2 ^ (j + k)
slot_size_from j [] h k e = absurd (true≢false e)
slot_size_from j (x ∷ s) h zero e = pennant_size j x h.0 e ∙ sym (power_end j)
slot_size_from j (x ∷ s) h (suc k) e = slot_size_from (suc j) s h.1 k e ∙ power_up j k

-- slot k holds 2^k
pub slot_size : (s : Bag) → Shaped s → (k : ℕ) → is_gap (get_or s k gap) ≡ false → weigh_slot one (get_or s k gap) ≡ 2 ^ k
slot_size s h k e = rw (zero-add k) at (slot_size_from 0 s h k e)

-- a filled slot k needs 2^k numbers
pub slot_within : (s : Bag) → Shaped s → (k : ℕ) → is_gap (get_or s k gap) ≡ false → 2 ^ k ≤ size s
slot_within s h k e = omega (arith, slot_size s h k e, weigh_slot_within one s k)

-- a power of two that is less than another
pub power_below : (k n : ℕ) → 2 ^ k < 2 ^ n → k < n
power_below k n small = go (ltb k n) refl
  where
    go : (b : Bool) → ltb k n ≡ b → k < n
    go true e = ltb-true k n e
    go false e =
        let large : 2 ^ n ≤ 2 ^ k = pow-le-pow_right (omega arith) (ltb-false k n e) in
        absurd (omega arith)

-- with fewer than 2^16 numbers no slot above 15 is filled
pub no_slot_above : (s : Bag) → Shaped s → size s < 2 ^ slot_count → (k : ℕ) → slot_count ≤ k → is_gap (get_or s k gap) ≡ true
no_slot_above s h small k above = go (is_gap (get_or s k gap)) refl
  where
    go : (b : Bool) → is_gap (get_or s k gap) ≡ b → b ≡ true
    go true e = refl
    go false e = absurd (omega (arith, power_below k slot_count (omega (arith, slot_within s h k e))))

-- Halves.

-- a split of a pennant keeps as much as it splits off
pub pennant_halves : (k : ℕ) (x : Slot) → Pennant (suc k) x → weigh_slot one (pennant_first x) ≡ weigh_slot one (pennant_second x)
unfolding pennant_first pennant_second weigh_slot
pennant_halves k gap p = refl
pennant_halves k (tip a null) p = absurd p
pennant_halves k (tip a (node b y x)) p = omega (arith, complete_size k y p.0, complete_size k x p.1)

-- every pennant above slot 0 split: as much is kept as is split off
same_halves : (k : ℕ) (s : Bag) → ShapedFrom (suc k) s → weigh one (map pennant_first s) ≡ weigh one (map pennant_second s)
unfolding weigh sum_of
same_halves k [] h = refl
same_halves k (x ∷ s) h = omega (arith, pennant_halves k x h.0, same_halves (suc k) s h.1)

-- a split leaves the greater half and returns the lesser
pub split_sizes : (s : Bag) → Shaped s → (size (split_first s) ≡ size s - size s / 2) × (size (split_second s) ≡ size s / 2)
unfolding split_second weigh sum_of
split_sizes [] h = omega (arith, weigh_split one [])
split_sizes (y ∷ s) h =
    omega (arith, weigh_split one (y ∷ s), weigh_end one (map pennant_second s), weigh_halves one s, same_halves 0 s h.1, pennant_within 0 y h.0)

-- there are at least two where the size is at least 2
pub two_size : (s : Bag) → Shaped s → at_least_two s ≡ leb 2 (size s)
unfolding at_least_two weigh sum_of
two_size [] h = refl
two_size (x ∷ s) h = go (is_empty s) refl
  where
    go : (b : Bool) → is_empty s ≡ b → not b ≡ leb 2 (weigh_slot one x + weigh one s)
    go true e = sym (lt-leb 2 (weigh_slot one x + weigh one s) (omega (arith, empty_weighs one s e, pennant_within 0 x h.0)))
    go false e = sym (le-leb 2 (weigh_slot one x + weigh one s) (omega (arith, filled_size s e, weigh_halves one s, same_halves 0 s h.1)))

-- where there are at least two, both halves of a split hold a number
pub split_filled : (s : Bag) → Shaped s → at_least_two s ≡ true → (is_empty (split_first s) ≡ false) × (is_empty (split_second s) ≡ false)
split_filled s h e =
    let two = leb-true 2 (size s) (sym (two_size s h) ∙ e) in
    let parts = split_sizes s h in
    (sized_filled (split_first s) (omega arith), sized_filled (split_second s) (omega arith))

-- What fits into a backbone.

-- the slots from k on hold at most what their number allows
size_from : (k : ℕ) (s : Bag) → ShapedFrom k s → weigh one s + 2 ^ k ≤ 2 ^ (k + length s)
unfolding weigh sum_of
size_from k [] h = omega (arith, power_end k)
size_from k (x ∷ s) h = omega (arith, pennant_within k x h.0, size_from (suc k) s h.1, power_up k (length s))

-- n slots hold fewer than 2^n numbers
pub size_within : (s : Bag) → Shaped s → size s < 2 ^ length s
size_within s h = omega (arith, rw (zero-add (length s)) at (size_from 0 s h))

-- Lengths of backbones.

-- the empty bag has its 16 slots
pub length_empty : length empty_bag ≡ slot_count
unfolding empty_bag
length_empty = length-replicate slot_count gap

-- slots that are all empty are gaps
gaps : (s : Bag) → is_empty s ≡ true → s ≡ replicate (length s) gap
unfolding is_empty
gaps [] empty = refl
gaps (gap ∷ s) empty = ap (λ (t : Bag). gap ∷ t) (gaps s empty)
gaps (tip a t ∷ s) empty = absurd (true≢false (sym empty))

-- of 16 slots there is one empty bag
pub empty_bare : (s : Bag) → is_empty s ≡ true → length s ≡ slot_count → s ≡ empty_bag
unfolding empty_bag
empty_bare s empty long = gaps s empty ∙ ap (λ (n : ℕ). replicate n gap) long

-- a pennant inserted needs no slot more if there is room
pub length_insert_pennant : (k : ℕ) (x : Slot) (s : Bag) → Pennant k x → is_gap x ≡ false → ShapedFrom k s → weigh_slot one x + weigh one s < 2 ^ (k + length s)
    → length (insert_pennant x s) ≡ length s
unfolding insert_pennant weigh sum_of
length_insert_pennant k x [] p e h small = absurd (omega (arith, pennant_size k x p e, power_end k))
length_insert_pennant k x (gap ∷ s) p e h small = refl
length_insert_pennant k x (tip a t ∷ s) p e h small =
    let room : weigh_slot one (pennant_union (tip a t) x) + weigh one s < 2 ^ (suc k + length s) = omega (arith, weigh_pennant_union one (tip a t) x, power_up k (length s)) in
    ap suc (length_insert_pennant (suc k) (pennant_union (tip a t) x) s (pennant_union_shape k (tip a t) x h.0 p refl e) (pennant_union_filled (tip a t) x refl) h.1 room)

-- a number inserted needs no slot more if fewer than 2^16 are held then
pub length_insert : (a : ℕ) (s : Bag) → Shaped s → length s ≡ slot_count → size s + 1 < 2 ^ slot_count → length (bag_insert a s) ≡ slot_count
unfolding bag_insert weigh_slot weigh_tree
length_insert a s h l small =
    let room : 1 + 0 + size s < 2 ^ (0 + length s) = rw l (omega arith) in
    length_insert_pennant 0 (tip a null) s tt refl h room ∙ l

-- a pennant inserted if there is one needs no slot more if there is room
pub length_insert_filled : (k : ℕ) (x : Slot) (s : Bag) → Pennant k x → ShapedFrom k s → weigh_slot one x + weigh one s < 2 ^ (k + length s)
    → length (insert_filled x s) ≡ length s
unfolding insert_filled
length_insert_filled k gap s p h small = refl
length_insert_filled k (tip a t) s p h small = length_insert_pennant k (tip a t) s p refl h small

-- two bags of one length added from a carry on need no slot more if there is room
pub length_add_from : (k : ℕ) (y : Slot) (s t : Bag) → Pennant k y → ShapedFrom k s → ShapedFrom k t → length t ≡ length s
    → weigh_slot one y + weigh one s + weigh one t < 2 ^ (k + length s) → length (add_from y s t) ≡ length s
unfolding add_from weigh sum_of
length_add_from k y [] [] p g h l small = length_insert_filled k y [] p tt (omega arith)
length_add_from k y [] (b ∷ t) p g h l small = absurd (omega arith)
length_add_from k y (a ∷ s) [] p g h l small = absurd (omega arith)
length_add_from k y (a ∷ s) (b ∷ t) p g h l small =
    let room : weigh_slot one (adder_carry a b y) + weigh one s + weigh one t < 2 ^ (suc k + length s) = omega (arith, weigh_adder one a b y, power_up k (length s)) in
    ap suc (length_add_from (suc k) (adder_carry a b y) s t (adder_carry_shape k a b y g.0 h.0 p) g.1 h.1 (omega arith) room)

-- a union of two bags needs no slot more if they hold fewer than 2^16 together
pub length_union : (s t : Bag) → Shaped s → Shaped t → length s ≡ slot_count → length t ≡ slot_count → size s + size t < 2 ^ slot_count → length (bag_union s t) ≡ slot_count
unfolding bag_union weigh_slot
length_union s t g h l m small =
    let room : 0 + size s + size t < 2 ^ (0 + length s) = rw l (omega arith) in
    length_add_from 0 gap s t tt g h (m ∙ sym l) room ∙ l

-- the pennants above slot 0 one slot down, and an empty slot at the end: as many slots as before
length_down : (f : Slot → Slot) (s : Bag) → length (map f s ++ gap ∷ []) ≡ suc (length s)
length_down f s = simp (length-append, length-map) (omega arith)

-- what a split leaves has as many slots
pub length_first : (s : Bag) → Shaped s → length (split_first s) ≡ length s
unfolding split_first weigh sum_of
length_first [] h = refl
length_first (y ∷ s) h =
    let rest = map pennant_first s ++ gap ∷ [] in
    let fits : weigh_slot one y + weigh one rest < 2 ^ suc (length s) = omega (arith, size_within (y ∷ s) h, weigh_end one (map pennant_first s), weigh_halves one s) in
    let room : weigh_slot one y + weigh one rest < 2 ^ (0 + length rest) = rw (length_down pennant_first s, zero-add) fits in
    length_insert_filled 0 y rest h.0 (shaped_lower pennant_first first_shape 0 s h.1) room ∙ length_down pennant_first s

-- what a split returns has as many slots
pub length_second : (s : Bag) → length (split_second s) ≡ length s
unfolding split_second
length_second [] = refl
length_second (y ∷ s) = length_down pennant_second s

-- a pennant spread over k slots
pub length_spread : (k : ℕ) (x : Slot) (s : Bag) → length (spread k x s) ≡ k + length s
unfolding spread
length_spread zero x s = omega arith
length_spread (suc k) x s = omega (arith, length_spread k (pennant_first x) (pennant_second x ∷ s))

-- what take leaves, k slots being empty before
pub length_take_from : (k : ℕ) (s : Bag) → length (take_from k s) ≡ k + length s
unfolding take_from
length_take_from k [] = omega (arith, length-replicate k gap)
length_take_from k (gap ∷ s) = omega (arith, length_take_from (suc k) s)
length_take_from k (tip a t ∷ s) = length_spread k (tip a t) (gap ∷ s)

-- what take leaves has as many slots
pub length_rest : (s : Bag) → length (take_rest s) ≡ length s
unfolding take_rest
length_rest s = omega (arith, length_take_from 0 s)

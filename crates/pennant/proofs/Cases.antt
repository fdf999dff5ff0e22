-- The definitions computed: which root a union keeps, the eight rows of the full adder, a bag of 4 filled and taken from, bags of 5 and
-- 6 joined, a bag of 23 split (case J), and the order in which numbers come out.
use mathlib.Core.Path.{◌≡◌, refl}
use mathlib.Core.Bool.{Bool, true, false, not}
use mathlib.Core.List.{List, [], ◌∷◌, map}
use Prim.Native.Nat.{ℕ, zero, suc, ◌+◌}
use lib.ListN.{replicate}
use Rattle.lists.specs.Lists.{sum_of}
use Rattle.pennant.specs.Pennant.{null, node, Slot, gap, tip, pennant_union, pennant_first, pennant_second}
use Rattle.pennant.specs.Bag.{Bag, empty_bag, insert_pennant, bag_insert, insert_filled, adder_sum, adder_carry, add_from, bag_union, split_first}
use Rattle.pennant.specs.Bag.{split_second, spread, take_from, take_rest, taken_number, is_gap}
use Rattle.pennant.specs.Held.{up_to, tree_items, slot_items, items, weigh_tree, weigh_slot, weigh, size, Shaped, map_tree, map_slot, map_bag}

-- a pennant of size 1
abbrev pub lone : ℕ → Slot
lone a = tip a null

-- a pennant of size 2
abbrev pub pair : ℕ → ℕ → Slot
pair a b = tip a (node b null null)

-- the pennant of size 4 that two pennants of size 2 make
abbrev pub four : Slot
four = tip 1 (node 3 (node 4 null null) (node 2 null null))

-- the root is the first pennant's; below it stands the second's root, with the first's own tree to its right
pub case_union : pennant_union (pair 1 2) (pair 3 4) ≡ four
unfolding pennant_union
case_union = refl

-- a split undoes it: what is kept
pub case_pennant_first : pennant_first four ≡ pair 1 2
unfolding pennant_first
case_pennant_first = refl

-- and what is split off
pub case_pennant_second : pennant_second four ≡ pair 3 4
unfolding pennant_second
case_pennant_second = refl

-- sum and carry
unfoldable pub adder_both : Slot → Slot → Slot → Slot × Slot
adder_both x y z = (adder_sum x y z, adder_carry x y z)

-- the eight rows on pennants of size 1: none, one, two and three of them there
pub case_adder : adder_both gap gap gap
    ∷ adder_both (lone 1) gap gap
    ∷ adder_both gap (lone 2) gap
    ∷ adder_both gap gap (lone 3)
    ∷ adder_both (lone 1) (lone 2) gap
    ∷ adder_both (lone 1) gap (lone 3)
    ∷ adder_both gap (lone 2) (lone 3)
    ∷ adder_both (lone 1) (lone 2) (lone 3)
    ∷ []
    ≡ (gap, gap) ∷ (lone 1, gap) ∷ (lone 2, gap) ∷ (lone 3, gap) ∷ (gap, pair 1 2) ∷ (gap, pair 1 3) ∷ (gap, pair 2 3) ∷ (lone 1, pair 2 3) ∷ []
unfolding adder_both adder_sum adder_carry pennant_union
case_adder = refl

-- 4 numbers fill slot 2
pub case_four : up_to 4 ≡ gap ∷ gap ∷ four ∷ replicate 13 gap
unfolding up_to empty_bag bag_insert insert_pennant pennant_union
case_four = refl

-- take from them gives the root's number
pub case_taken : taken_number (up_to 4) ≡ 1
unfolding up_to empty_bag bag_insert insert_pennant pennant_union taken_number
case_taken = refl

-- and leaves the halves split off in slots 0 and 1
pub case_rest : take_rest (up_to 4) ≡ lone 2 ∷ pair 3 4 ∷ replicate 14 gap
unfolding up_to empty_bag bag_insert insert_pennant pennant_union take_rest take_from spread pennant_first pennant_second
case_rest = refl

-- 5 and 6 numbers joined: both have a pennant in slot 2, and no other slot carries
pub case_joined : items (bag_union (up_to 5) (up_to 6)) ≡ 5 ∷ 5 ∷ 6 ∷ 1 ∷ 1 ∷ 3 ∷ 4 ∷ 2 ∷ 3 ∷ 4 ∷ 2 ∷ []
unfolding up_to empty_bag bag_insert insert_pennant pennant_union bag_union add_from adder_sum adder_carry insert_filled items slot_items tree_items
case_joined = refl

-- why insert_pennant is asked to insert a pennant: no pennant, inserted before slot 0's, moves that one up to slot 1, where it does not belong
pub case_none : Shaped (insert_pennant gap (lone 1 ∷ [])) → ⊥
unfolding insert_pennant pennant_union
case_none h = h.1.0

-- which slots are filled
unfoldable pub filled : Bag → List Bool
filled s = map (λ (x : Slot). not (is_gap x)) s

-- J: 23 numbers are in slots 0, 1, 2 and 4, as 23 is 1 + 2 + 4 + 16
pub case_filled : filled (up_to 23) ≡ true ∷ true ∷ true ∷ false ∷ true ∷ replicate 11 false
unfolding filled up_to empty_bag bag_insert insert_pennant pennant_union
case_filled = refl

-- a split leaves 12 of them
pub case_first : size (split_first (up_to 23)) ≡ 12
unfolding up_to empty_bag bag_insert insert_pennant pennant_union split_first insert_filled pennant_first weigh weigh_slot weigh_tree sum_of
case_first = refl

-- and returns 11
pub case_second : size (split_second (up_to 23)) ≡ 11
unfolding up_to empty_bag bag_insert insert_pennant pennant_union split_second pennant_second weigh weigh_slot weigh_tree sum_of
case_second = refl

-- the first n numbers that come out
unfoldable pub drained : ℕ → Bag → List ℕ
drained zero s = []
drained (suc n) s = taken_number s ∷ drained n (take_rest s)

-- the bag after a + 1, .., a + n are inserted
unfoldable pub after : ℕ → ℕ → Bag
after a n = map_bag (λ x. a + x) (up_to n)

-- the order in which numbers come out of a bag, of unions in which every row of the adder is met, and of the two bags of a split: it tells
-- which root is where
pub case_order : drained 7 (up_to 7)
    ∷ drained 6 (bag_union (up_to 3) (after 3 3))
    ∷ drained 4 (bag_union (up_to 3) (after 3 1))
    ∷ drained 4 (bag_union (up_to 1) (after 1 3))
    ∷ drained 11 (bag_union (up_to 5) (after 5 6))
    ∷ drained 6 (split_first (up_to 11))
    ∷ drained 5 (split_second (up_to 11))
    ∷ []
    ≡ (7 ∷ 5 ∷ 6 ∷ 1 ∷ 2 ∷ 3 ∷ 4 ∷ [])
    ∷ (1 ∷ 2 ∷ 4 ∷ 5 ∷ 3 ∷ 6 ∷ [])
    ∷ (1 ∷ 2 ∷ 3 ∷ 4 ∷ [])
    ∷ (2 ∷ 3 ∷ 1 ∷ 4 ∷ [])
    ∷ (5 ∷ 10 ∷ 11 ∷ 1 ∷ 2 ∷ 3 ∷ 4 ∷ 6 ∷ 7 ∷ 8 ∷ 9 ∷ [])
    ∷ (9 ∷ 11 ∷ 1 ∷ 2 ∷ 3 ∷ 4 ∷ [])
    ∷ (10 ∷ 5 ∷ 6 ∷ 7 ∷ 8 ∷ [])
    ∷ []
unfolding drained after map_bag map_slot map_tree up_to empty_bag bag_insert insert_pennant insert_filled pennant_union pennant_first pennant_second bag_union add_from adder_sum adder_carry split_first split_second take_rest take_from spread taken_number
case_order = refl

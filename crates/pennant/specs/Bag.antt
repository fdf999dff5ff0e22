-- Bags, as in 000, section 4, and document 01's take. A bag is the list of its slots: slot k is the k-th.
-- The backbone may grow here; that fewer than 2^16 numbers need only the 16 slots of document 01 is a theorem
-- (`no_slot_above`, proofs/Laws.antt).
use Rattle.std.specs.Prelude.{ℕ, zero, suc, Bool, true, false, not, ◌&&◌, List, [], ◌∷◌, ◌++◌, map, replicate}
use Rattle.pennant.specs.Pennant.{null, Slot, gap, tip, pennant_union, pennant_first, pennant_second}

-- "a backbone of 16 slots" (§4.4)
abbrev pub slot_count : ℕ
slot_count = 16

-- "a collection of pennants, no two of which have the same size": its backbone (§4.4)
abbrev pub Bag : Type 0
Bag = List Slot

-- BAG-CREATE: "a fixed-size backbone of null pointers" (§4.4)
unfoldable pub empty_bag : Bag
empty_bag = replicate slot_count gap

-- BAG-INSERT(S, x) of a pennant x: "while S[k] ≠ NULL: x = PENNANT-UNION(S[k], x), S[k++] = NULL; S[k] = x" (§4.5)
unfoldable pub insert_pennant : Slot → Bag → Bag
insert_pennant x [] = x ∷ []
insert_pennant x (gap ∷ s) = x ∷ s
insert_pennant x (tip a t ∷ s) = gap ∷ insert_pennant (pennant_union (tip a t) x) s

-- "we first package the given element as a pennant x of size 1" (§4.5)
unfoldable pub bag_insert : ℕ → Bag → Bag
bag_insert a s = insert_pennant (tip a null) s

-- "if y ≠ NULL: BAG-INSERT(S, y)" (§4.8)
unfoldable pub insert_filled : Slot → Bag → Bag
insert_filled gap s = s
insert_filled (tip a t) s = insert_pennant (tip a t) s

-- the table of FA(x, y, z): s, which has size 2^k or is empty (§4.6)
unfoldable pub adder_sum : Slot → Slot → Slot → Slot
adder_sum gap gap gap = gap
adder_sum (tip a x) gap gap = tip a x
adder_sum gap (tip b y) gap = tip b y
adder_sum gap gap (tip c z) = tip c z
adder_sum (tip a x) (tip b y) gap = gap
adder_sum (tip a x) gap (tip c z) = gap
adder_sum gap (tip b y) (tip c z) = gap
adder_sum (tip a x) (tip b y) (tip c z) = tip a x

-- the table of FA(x, y, z): c, which has size 2^(k+1) or is empty (§4.6)
unfoldable pub adder_carry : Slot → Slot → Slot → Slot
adder_carry gap gap gap = gap
adder_carry (tip a x) gap gap = gap
adder_carry gap (tip b y) gap = gap
adder_carry gap gap (tip c z) = gap
adder_carry (tip a x) (tip b y) gap = pennant_union (tip a x) (tip b y)
adder_carry (tip a x) gap (tip c z) = pennant_union (tip a x) (tip c z)
adder_carry gap (tip b y) (tip c z) = pennant_union (tip b y) (tip c z)
adder_carry (tip a x) (tip b y) (tip c z) = pennant_union (tip b y) (tip c z)

-- "for k = 0 to r: (S1[k], y) = FA(S1[k], S2[k], y)", from the carry y on;
-- what is carried past the end of a backbone goes on as an insertion (§4.7)
unfoldable pub add_from : Slot → Bag → Bag → Bag
add_from y [] s = insert_filled y s
add_from y (a ∷ s) [] = insert_filled y (a ∷ s)
add_from y (a ∷ s) (b ∷ t) = adder_sum a b y ∷ add_from (adder_carry a b y) s t

-- BAG-UNION(S1, S2): "y = NULL" (§4.7)
unfoldable pub bag_union : Bag → Bag → Bag
bag_union s t = add_from gap s t

-- BAG-SPLIT(S1), what S1 is afterwards: "y = S1[0] .. S1[k-1] = S1[k], S1[k] = NULL .. if y ≠ NULL: BAG-INSERT(S1, y)"
-- (§4.8)
unfoldable pub split_first : Bag → Bag
split_first [] = []
split_first (y ∷ s) = insert_filled y (map pennant_first s ++ gap ∷ [])

-- BAG-SPLIT(S1), what it returns: "S2[k-1] = PENNANT-SPLIT(S1[k])" (§4.8)
unfoldable pub split_second : Bag → Bag
split_second [] = []
split_second (y ∷ s) = map pennant_second s ++ gap ∷ []

-- document 01: "split k times, always keeping the root; the split-off halves fill slots k - 1 down to 0",
-- before the slots from k on (§4.9)
unfoldable pub spread : ℕ → Slot → Bag → Bag
spread zero x s = s
spread (suc k) x s = spread k (pennant_first x) (pennant_second x ∷ s)

-- document 01: "in the lowest filled slot", of the slots from k on, those before being empty (§4.9)
unfoldable pub take_from : ℕ → Bag → Bag
take_from k [] = replicate k gap
take_from k (gap ∷ s) = take_from (suc k) s
take_from k (tip a t ∷ s) = spread k (tip a t) (gap ∷ s)

-- what take leaves: the multiset held "loses one by take" (§4.9)
unfoldable pub take_rest : Bag → Bag
take_rest s = take_from 0 s

-- "the root's number is taken"; 0 for an empty bag (§4.9)
unfoldable pub taken_number : Bag → ℕ
taken_number [] = 0
taken_number (gap ∷ s) = taken_number s
taken_number (tip a t ∷ s) = a

-- whether a slot is empty
abbrev pub is_gap : Slot → Bool
is_gap gap = true
is_gap (tip a t) = false

-- whether the bag is empty (§4.10)
unfoldable pub is_empty : Bag → Bool
is_empty [] = true
is_empty (x ∷ s) = is_gap x && is_empty s

-- "at least 2 elements": a pennant past slot 0, where slot k holds 2^k (§4.10)
unfoldable pub at_least_two : Bag → Bool
at_least_two [] = false
at_least_two (x ∷ s) = not (is_empty s)

-- What each operation on pennants and bags does to a weight: the sum of any f over the numbers held is kept, so no number is lost and
-- none is made. No shape is asked for.
use mathlib.Core.Path.{◌≡◌, refl, sym, ◌∙◌}
use mathlib.Core.Bool.{true, false, true≢false}
use mathlib.Core.List.{[], ◌∷◌, ◌++◌, map}
use Prim.Native.Nat.{ℕ, zero, suc, ◌+◌, ◌≤◌}
use native.Mathlib.Nat.{zero-add}
use native.Mathlib.Omega.{arith}
use lib.Dec.{eqb}
use lib.ListN.{get_or, replicate}
use borrow.Author.Tests.{eqb-false, eq-eqb, ne_eqb}
use Rattle.lists.specs.Lists.{sum_of}
use Rattle.lists.proofs.Sums.{sum_append, sum_at}
use Rattle.lists.proofs.Tests.{test_within}
use Rattle.pennant.specs.Pennant.{Tree, null, node, Slot, gap, tip, pennant_union, pennant_first, pennant_second}
use Rattle.pennant.specs.Bag.{Bag, slot_count, empty_bag, insert_pennant, bag_insert, insert_filled, adder_sum, adder_carry, add_from, bag_union}
use Rattle.pennant.specs.Bag.{split_first, split_second, taken_number, is_empty}
use Rattle.pennant.specs.Held.{tree_items, slot_items, items, weigh_tree, weigh_slot, weigh, one, only, size, copies}

-- Pennants.

-- a union weighs what the two weigh
pub weigh_pennant_union : (f : ℕ → ℕ) (x y : Slot) → weigh_slot f (pennant_union x y) ≡ weigh_slot f x + weigh_slot f y
unfolding pennant_union weigh_slot weigh_tree
weigh_pennant_union f gap y = omega arith
weigh_pennant_union f (tip a x) gap = omega arith
weigh_pennant_union f (tip a x) (tip b y) = omega arith

-- the two halves of a split weigh what the pennant weighed
pub weigh_pennant_split : (f : ℕ → ℕ) (x : Slot) → weigh_slot f (pennant_first x) + weigh_slot f (pennant_second x) ≡ weigh_slot f x
unfolding pennant_first pennant_second weigh_slot weigh_tree
weigh_pennant_split f gap = omega arith
weigh_pennant_split f (tip a null) = omega arith
weigh_pennant_split f (tip a (node b y x)) = omega arith

-- The empty bag.

-- empty slots weigh nothing
pub weigh_gaps : (f : ℕ → ℕ) (n : ℕ) → weigh f (replicate n gap) ≡ 0
unfolding weigh weigh_slot sum_of
weigh_gaps f zero = refl
weigh_gaps f (suc n) = omega (arith, weigh_gaps f n)

-- the empty bag weighs nothing
pub weigh_empty : (f : ℕ → ℕ) → weigh f empty_bag ≡ 0
unfolding empty_bag
weigh_empty f = weigh_gaps f slot_count

-- Insertion.

-- a pennant inserted adds its weight
pub weigh_insert_pennant : (f : ℕ → ℕ) (x : Slot) (s : Bag) → weigh f (insert_pennant x s) ≡ weigh_slot f x + weigh f s
unfolding insert_pennant weigh weigh_slot sum_of
weigh_insert_pennant f x [] = refl
weigh_insert_pennant f x (gap ∷ s) = omega arith
weigh_insert_pennant f x (tip a t ∷ s) = omega (arith, weigh_insert_pennant f (pennant_union (tip a t) x) s, weigh_pennant_union f (tip a t) x)

-- a number inserted adds its weight
pub weigh_insert : (f : ℕ → ℕ) (a : ℕ) (s : Bag) → weigh f (bag_insert a s) ≡ f a + weigh f s
unfolding bag_insert weigh_slot weigh_tree
weigh_insert f a s = omega (arith, weigh_insert_pennant f (tip a null) s)

-- a pennant inserted if there is one adds its weight
pub weigh_insert_filled : (f : ℕ → ℕ) (x : Slot) (s : Bag) → weigh f (insert_filled x s) ≡ weigh_slot f x + weigh f s
unfolding insert_filled weigh_slot
weigh_insert_filled f gap s = omega arith
weigh_insert_filled f (tip a t) s = weigh_insert_pennant f (tip a t) s

-- Union.

-- the full adder's rule, over all eight rows of its table: sum and carry weigh what the three weigh
pub weigh_adder : (f : ℕ → ℕ) (x y z : Slot) → weigh_slot f (adder_sum x y z) + weigh_slot f (adder_carry x y z) ≡ weigh_slot f x + weigh_slot f y + weigh_slot f z
unfolding adder_sum adder_carry weigh_slot
weigh_adder f gap gap gap = omega arith
weigh_adder f (tip a x) gap gap = omega arith
weigh_adder f gap (tip b y) gap = omega arith
weigh_adder f gap gap (tip c z) = omega arith
weigh_adder f (tip a x) (tip b y) gap = omega (arith, weigh_pennant_union f (tip a x) (tip b y))
weigh_adder f (tip a x) gap (tip c z) = omega (arith, weigh_pennant_union f (tip a x) (tip c z))
weigh_adder f gap (tip b y) (tip c z) = omega (arith, weigh_pennant_union f (tip b y) (tip c z))
weigh_adder f (tip a x) (tip b y) (tip c z) = omega (arith, weigh_pennant_union f (tip b y) (tip c z))

-- two bags added from a carry on weigh what the three weigh
pub weigh_add_from : (f : ℕ → ℕ) (y : Slot) (s t : Bag) → weigh f (add_from y s t) ≡ weigh_slot f y + weigh f s + weigh f t
unfolding add_from weigh sum_of
weigh_add_from f y [] t = omega (arith, weigh_insert_filled f y t)
weigh_add_from f y (a ∷ s) [] = omega (arith, weigh_insert_filled f y (a ∷ s))
weigh_add_from f y (a ∷ s) (b ∷ t) = omega (arith, weigh_add_from f (adder_carry a b y) s t, weigh_adder f a b y)

-- a union of bags weighs what the two weigh
pub weigh_union : (f : ℕ → ℕ) (s t : Bag) → weigh f (bag_union s t) ≡ weigh f s + weigh f t
unfolding bag_union weigh_slot
weigh_union f s t = omega (arith, weigh_add_from f gap s t)

-- Split.

-- slots laid end to end
pub weigh_append : (f : ℕ → ℕ) (s t : Bag) → weigh f (s ++ t) ≡ weigh f s + weigh f t
unfolding weigh
weigh_append f s t = sum_append (weigh_slot f) s t

-- every pennant split: the halves kept and the halves split off weigh what the pennants weighed
pub weigh_halves : (f : ℕ → ℕ) (s : Bag) → weigh f (map pennant_first s) + weigh f (map pennant_second s) ≡ weigh f s
unfolding weigh sum_of
weigh_halves f [] = refl
weigh_halves f (x ∷ s) = omega (arith, weigh_halves f s, weigh_pennant_split f x)

-- an empty slot at the end weighs nothing
pub weigh_end : (f : ℕ → ℕ) (s : Bag) → weigh f (s ++ gap ∷ []) ≡ weigh f s
unfolding weigh weigh_slot sum_of
weigh_end f s = omega (arith, weigh_append f s (gap ∷ []))

-- the two bags of a split weigh what the bag weighed
pub weigh_split : (f : ℕ → ℕ) (s : Bag) → weigh f (split_first s) + weigh f (split_second s) ≡ weigh f s
unfolding split_first split_second weigh sum_of
weigh_split f [] = refl
weigh_split f (y ∷ s) =
    let kept = weigh_end f (map pennant_first s) in
    let split_off = weigh_end f (map pennant_second s) in
    omega (arith, weigh_insert_filled f y (map pennant_first s ++ gap ∷ []), weigh_halves f s)

-- One slot.

-- a slot weighs no more than the bag
pub weigh_slot_within : (f : ℕ → ℕ) (s : Bag) (k : ℕ) → weigh_slot f (get_or s k gap) ≤ weigh f s
unfolding weigh weigh_slot
weigh_slot_within f s k = sum_at (weigh_slot f) s k gap refl

-- The numbers held, as a list.

-- a tree weighs the sum over its numbers
weigh_tree_items : (f : ℕ → ℕ) (t : Tree) → weigh_tree f t ≡ sum_of f (tree_items t)
unfolding weigh_tree tree_items sum_of
weigh_tree_items f null = refl
weigh_tree_items f (node a l r) = omega (arith, weigh_tree_items f l, weigh_tree_items f r, sum_append f (tree_items l) (tree_items r))

-- and so does a slot
pub weigh_slot_items : (f : ℕ → ℕ) (x : Slot) → weigh_slot f x ≡ sum_of f (slot_items x)
unfolding weigh_slot slot_items sum_of
weigh_slot_items f gap = refl
weigh_slot_items f (tip a t) = omega (arith, weigh_tree_items f t)

-- a bag weighs the sum over its numbers
pub weigh_items : (f : ℕ → ℕ) (s : Bag) → weigh f s ≡ sum_of f (items s)
unfolding weigh items sum_of
weigh_items f [] = refl
weigh_items f (x ∷ s) = omega (arith, weigh_slot_items f x, weigh_items f s, sum_append f (slot_items x) (items s))

-- One number.

-- a number counts once in its own place
pub only_self : (v : ℕ) → only v v ≡ 1
only_self v = rw (eq-eqb v v refl)

-- not in another
pub only_other : (v x : ℕ) → (x ≡ v → ⊥) → only v x ≡ 0
only_other v x apart = rw (ne_eqb x v apart)

-- and at most once in any
pub only_few : (v x : ℕ) → only v x ≤ 1
only_few v x = test_within (eqb x v) 1 (λ e. omega arith)

-- Empty or not.

-- a bag is empty where its size is 0
pub empty_size : (s : Bag) → is_empty s ≡ eqb (size s) 0
unfolding is_empty weigh weigh_slot sum_of
empty_size [] = refl
empty_size (gap ∷ s) = rw (zero-add (size s)) (empty_size s)
empty_size (tip a t ∷ s) = sym (ne_eqb (1 + weigh_tree one t + weigh one s) 0 (λ q. omega arith))

-- the empty bag is empty
pub empty_bag_lem : is_empty empty_bag ≡ true
empty_bag_lem = empty_size empty_bag ∙ eq-eqb (size empty_bag) 0 (weigh_empty one)

-- an empty bag weighs nothing
pub empty_weighs : (f : ℕ → ℕ) (s : Bag) → is_empty s ≡ true → weigh f s ≡ 0
unfolding is_empty weigh weigh_slot sum_of
empty_weighs f [] e = refl
empty_weighs f (gap ∷ s) e = omega (arith, empty_weighs f s e)
empty_weighs f (tip a t ∷ s) e = absurd (true≢false (sym e))

-- a bag that is not empty holds a number
pub filled_size : (s : Bag) → is_empty s ≡ false → 1 ≤ size s
filled_size s e = let apart = eqb-false (size s) 0 (sym (empty_size s) ∙ e) in omega arith

-- a bag that holds a number is not empty
pub sized_filled : (s : Bag) → 1 ≤ size s → is_empty s ≡ false
sized_filled s h = empty_size s ∙ ne_eqb (size s) 0 (λ q. omega arith)

-- the number that is taken is held
pub taken_held : (s : Bag) → is_empty s ≡ false → 1 ≤ copies (taken_number s) s
unfolding is_empty taken_number weigh weigh_slot sum_of
taken_held [] e = absurd (true≢false e)
taken_held (gap ∷ s) e = omega (arith, taken_held s e)
taken_held (tip a t ∷ s) e = omega (arith, only_self a)

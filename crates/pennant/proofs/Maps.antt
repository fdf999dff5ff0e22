-- A number replaced in each place: every operation gives the same trees whatever numbers they hold, so it may be done before or after.
use mathlib.Core.Path.{◌≡◌, refl, ap}
use mathlib.Core.Bool.{false, not, true≢false}
use mathlib.Core.List.{[], ◌∷◌, ◌++◌, map}
use Prim.Native.Nat.{ℕ, zero, suc, ◌≤◌}
use native.Mathlib.Omega.{arith}
use lib.ListN.{length, replicate, length-map}
use Rattle.lists.specs.Lists.{sum_of}
use Rattle.pennant.specs.Pennant.{Tree, null, node, Slot, gap, tip, pennant_union, pennant_first, pennant_second}
use Rattle.pennant.specs.Bag.{Bag, slot_count, empty_bag, insert_pennant, bag_insert, insert_filled, adder_sum, adder_carry, add_from, bag_union}
use Rattle.pennant.specs.Bag.{split_first, split_second, spread, take_from, take_rest, taken_number, is_empty, at_least_two}
use Rattle.pennant.specs.Held.{weigh_tree, weigh_slot, weigh, only, copies, Complete, Pennant, ShapedFrom, Shaped, map_tree, map_slot, map_bag}
use Rattle.pennant.proofs.Weights.{only_self}

-- Pennants.

-- a union
pub map_pennant_union : (g : ℕ → ℕ) (x y : Slot) → map_slot g (pennant_union x y) ≡ pennant_union (map_slot g x) (map_slot g y)
unfolding pennant_union map_slot map_tree
map_pennant_union g gap y = refl
map_pennant_union g (tip a x) gap = refl
map_pennant_union g (tip a x) (tip b y) = refl

-- what a split keeps
pub map_pennant_first : (g : ℕ → ℕ) (x : Slot) → map_slot g (pennant_first x) ≡ pennant_first (map_slot g x)
unfolding pennant_first map_slot map_tree
map_pennant_first g gap = refl
map_pennant_first g (tip a null) = refl
map_pennant_first g (tip a (node b y x)) = refl

-- what it splits off
pub map_pennant_second : (g : ℕ → ℕ) (x : Slot) → map_slot g (pennant_second x) ≡ pennant_second (map_slot g x)
unfolding pennant_second map_slot map_tree
map_pennant_second g gap = refl
map_pennant_second g (tip a null) = refl
map_pennant_second g (tip a (node b y x)) = refl

-- The backbone.

-- as many slots
pub map_length : (g : ℕ → ℕ) (s : Bag) → length (map_bag g s) ≡ length s
unfolding map_bag
map_length g s = length-map s (map_slot g)

-- empty slots
pub map_gaps : (g : ℕ → ℕ) (n : ℕ) → map_bag g (replicate n gap) ≡ replicate n gap
unfolding map_bag map_slot
map_gaps g zero = refl
map_gaps g (suc n) = rw (map_gaps g n)

-- the empty bag
pub map_empty : (g : ℕ → ℕ) → map_bag g empty_bag ≡ empty_bag
unfolding empty_bag
map_empty g = map_gaps g slot_count

-- Insertion.

-- a pennant inserted
pub map_insert_pennant : (g : ℕ → ℕ) (x : Slot) (s : Bag) → map_bag g (insert_pennant x s) ≡ insert_pennant (map_slot g x) (map_bag g s)
unfolding insert_pennant map_bag map_slot
map_insert_pennant g x [] = refl
map_insert_pennant g x (gap ∷ s) = refl
map_insert_pennant g x (tip a t ∷ s) = rw (map_insert_pennant g (pennant_union (tip a t) x) s, map_pennant_union g (tip a t) x)

-- a number inserted
pub map_insert : (g : ℕ → ℕ) (a : ℕ) (s : Bag) → map_bag g (bag_insert a s) ≡ bag_insert (g a) (map_bag g s)
unfolding bag_insert map_slot map_tree
map_insert g a s = map_insert_pennant g (tip a null) s

-- a pennant inserted if there is one
pub map_insert_filled : (g : ℕ → ℕ) (x : Slot) (s : Bag) → map_bag g (insert_filled x s) ≡ insert_filled (map_slot g x) (map_bag g s)
unfolding insert_filled map_slot
map_insert_filled g gap s = refl
map_insert_filled g (tip a t) s = map_insert_pennant g (tip a t) s

-- Union.

-- the full adder's sum
pub map_adder_sum : (g : ℕ → ℕ) (x y z : Slot) → map_slot g (adder_sum x y z) ≡ adder_sum (map_slot g x) (map_slot g y) (map_slot g z)
unfolding adder_sum map_slot
map_adder_sum g gap gap gap = refl
map_adder_sum g (tip a x) gap gap = refl
map_adder_sum g gap (tip b y) gap = refl
map_adder_sum g gap gap (tip c z) = refl
map_adder_sum g (tip a x) (tip b y) gap = refl
map_adder_sum g (tip a x) gap (tip c z) = refl
map_adder_sum g gap (tip b y) (tip c z) = refl
map_adder_sum g (tip a x) (tip b y) (tip c z) = refl

-- the full adder's carry
pub map_adder_carry : (g : ℕ → ℕ) (x y z : Slot) → map_slot g (adder_carry x y z) ≡ adder_carry (map_slot g x) (map_slot g y) (map_slot g z)
unfolding adder_carry map_slot
map_adder_carry g gap gap gap = refl
map_adder_carry g (tip a x) gap gap = refl
map_adder_carry g gap (tip b y) gap = refl
map_adder_carry g gap gap (tip c z) = refl
map_adder_carry g (tip a x) (tip b y) gap = map_pennant_union g (tip a x) (tip b y)
map_adder_carry g (tip a x) gap (tip c z) = map_pennant_union g (tip a x) (tip c z)
map_adder_carry g gap (tip b y) (tip c z) = map_pennant_union g (tip b y) (tip c z)
map_adder_carry g (tip a x) (tip b y) (tip c z) = map_pennant_union g (tip b y) (tip c z)

-- two bags added from a carry on
pub map_add_from : (g : ℕ → ℕ) (y : Slot) (s t : Bag) → map_bag g (add_from y s t) ≡ add_from (map_slot g y) (map_bag g s) (map_bag g t)
unfolding add_from map_bag
map_add_from g y [] t = map_insert_filled g y t
map_add_from g y (a ∷ s) [] = map_insert_filled g y (a ∷ s)
map_add_from g y (a ∷ s) (b ∷ t) = rw (map_add_from g (adder_carry a b y) s t, map_adder_sum g a b y, map_adder_carry g a b y)

-- a union of bags
pub map_union : (g : ℕ → ℕ) (s t : Bag) → map_bag g (bag_union s t) ≡ bag_union (map_bag g s) (map_bag g t)
unfolding bag_union map_slot
map_union g s t = map_add_from g gap s t

-- Split.

-- what h makes of each pennant, and an empty slot at the end
map_lower : (g : ℕ → ℕ) (h : Slot → Slot) → ((x : Slot) → map_slot g (h x) ≡ h (map_slot g x)) → (s : Bag) → map_bag g (map h s ++ gap ∷ []) ≡ map h (map_bag g s) ++ gap ∷ []
unfolding map_bag map_slot
map_lower g h same [] = refl
map_lower g h same (x ∷ s) = rw (same x, map_lower g h same s)

-- what a split leaves
pub map_first : (g : ℕ → ℕ) (s : Bag) → map_bag g (split_first s) ≡ split_first (map_bag g s)
unfolding split_first map_bag
map_first g [] = refl
map_first g (y ∷ s) = rw (map_insert_filled g y (map pennant_first s ++ gap ∷ []), map_lower g pennant_first (map_pennant_first g) s)

-- what a split returns
pub map_second : (g : ℕ → ℕ) (s : Bag) → map_bag g (split_second s) ≡ split_second (map_bag g s)
unfolding split_second map_bag
map_second g [] = refl
map_second g (y ∷ s) = map_lower g pennant_second (map_pennant_second g) s

-- Take.

-- a pennant spread
pub map_spread : (g : ℕ → ℕ) (k : ℕ) (x : Slot) (s : Bag) → map_bag g (spread k x s) ≡ spread k (map_slot g x) (map_bag g s)
unfolding spread map_bag
map_spread g zero x s = refl
map_spread g (suc k) x s = rw (map_spread g k (pennant_first x) (pennant_second x ∷ s), map_pennant_first g x, map_pennant_second g x)

-- what take leaves, the first k slots being empty
pub map_take_from : (g : ℕ → ℕ) (k : ℕ) (s : Bag) → map_bag g (take_from k s) ≡ take_from k (map_bag g s)
unfolding take_from map_bag map_slot
map_take_from g k [] = map_gaps g k
map_take_from g k (gap ∷ s) = map_take_from g (suc k) s
map_take_from g k (tip a t ∷ s) = map_spread g k (tip a t) (gap ∷ s)

-- what take leaves
pub map_rest : (g : ℕ → ℕ) (s : Bag) → map_bag g (take_rest s) ≡ take_rest (map_bag g s)
unfolding take_rest
map_rest g s = map_take_from g 0 s

-- the number taken
pub map_taken : (g : ℕ → ℕ) (s : Bag) → is_empty s ≡ false → taken_number (map_bag g s) ≡ g (taken_number s)
unfolding is_empty taken_number map_bag map_slot
map_taken g [] e = absurd (true≢false e)
map_taken g (gap ∷ s) e = map_taken g s e
map_taken g (tip a t ∷ s) e = refl

-- Tests, weights, shapes.

-- whether the bag is empty
pub map_is_empty : (g : ℕ → ℕ) (s : Bag) → is_empty (map_bag g s) ≡ is_empty s
unfolding is_empty map_bag map_slot
map_is_empty g [] = refl
map_is_empty g (gap ∷ s) = map_is_empty g s
map_is_empty g (tip a t ∷ s) = refl

-- whether there are at least two
pub map_at_least_two : (g : ℕ → ℕ) (s : Bag) → at_least_two (map_bag g s) ≡ at_least_two s
unfolding at_least_two map_bag
map_at_least_two g [] = refl
map_at_least_two g (x ∷ s) = ap not (map_is_empty g s)

-- a tree weighed by f of the new numbers
weigh_map_tree : (f g : ℕ → ℕ) (t : Tree) → weigh_tree f (map_tree g t) ≡ weigh_tree (λ x. f (g x)) t
unfolding weigh_tree map_tree
weigh_map_tree f g null = refl
weigh_map_tree f g (node a l r) = rw (weigh_map_tree f g l, weigh_map_tree f g r)

-- a slot
pub weigh_map_slot : (f g : ℕ → ℕ) (x : Slot) → weigh_slot f (map_slot g x) ≡ weigh_slot (λ x. f (g x)) x
unfolding weigh_slot map_slot
weigh_map_slot f g gap = refl
weigh_map_slot f g (tip a t) = rw (weigh_map_tree f g t)

-- a bag
pub weigh_map : (f g : ℕ → ℕ) (s : Bag) → weigh f (map_bag g s) ≡ weigh (λ x. f (g x)) s
unfolding weigh map_bag sum_of
weigh_map f g [] = refl
weigh_map f g (x ∷ s) = rw (weigh_map_slot f g x, weigh_map f g s)

-- the shape of a tree
complete_map : (g : ℕ → ℕ) (k : ℕ) (t : Tree) → Complete k t → Complete k (map_tree g t)
unfolding map_tree
complete_map g zero null c = tt
complete_map g zero (node a l r) c = absurd c
complete_map g (suc k) null c = absurd c
complete_map g (suc k) (node a l r) c = (complete_map g k l c.0, complete_map g k r c.1)

-- of a pennant
pub pennant_map : (g : ℕ → ℕ) (k : ℕ) (x : Slot) → Pennant k x → Pennant k (map_slot g x)
unfolding map_slot
pennant_map g k gap p = tt
pennant_map g k (tip a t) p = complete_map g k t p

-- of the slots from k on
shaped_map_from : (g : ℕ → ℕ) (k : ℕ) (s : Bag) → ShapedFrom k s → ShapedFrom k (map_bag g s)
unfolding map_bag
shaped_map_from g k [] h = tt
shaped_map_from g k (x ∷ s) h = (pennant_map g k x h.0, shaped_map_from g (suc k) s h.1)

-- of a bag
pub shaped_map : (g : ℕ → ℕ) (s : Bag) → Shaped s → Shaped (map_bag g s)
shaped_map g s h = shaped_map_from g 0 s h

-- Two functions that agree on the numbers held.

-- on a tree
map_same_tree : (g h : ℕ → ℕ) (t : Tree) → ((i : ℕ) → 1 ≤ weigh_tree (only i) t → g i ≡ h i) → map_tree g t ≡ map_tree h t
unfolding weigh_tree map_tree
map_same_tree g h null e = refl
map_same_tree g h (node a l r) e =
    rw (e a (omega (arith, only_self a)), map_same_tree g h l (λ i k. e i (omega arith)), map_same_tree g h r (λ i k. e i (omega arith)))

-- on a slot
map_same_slot : (g h : ℕ → ℕ) (x : Slot) → ((i : ℕ) → 1 ≤ weigh_slot (only i) x → g i ≡ h i) → map_slot g x ≡ map_slot h x
unfolding weigh_slot map_slot
map_same_slot g h gap e = refl
map_same_slot g h (tip a t) e = rw (e a (omega (arith, only_self a)), map_same_tree g h t (λ i k. e i (omega arith)))

-- on a bag
pub map_same : (g h : ℕ → ℕ) (s : Bag) → ((i : ℕ) → 1 ≤ copies i s → g i ≡ h i) → map_bag g s ≡ map_bag h s
unfolding weigh map_bag sum_of
map_same g h [] e = refl
map_same g h (x ∷ s) e = rw (map_same_slot g h x (λ i k. e i (omega arith)), map_same g h s (λ i k. e i (omega arith)))

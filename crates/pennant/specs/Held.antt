-- What a bag holds: the list of its numbers, weights summed over them, its shape, the bag with each number
-- replaced, and a bag of 1, 2, .., n. The laws of the operations are told by these.
use Rattle.std.specs.Prelude.{ℕ, zero, suc, ◌+◌, cond, List, [], ◌∷◌, ◌++◌, map, eqb}
use Rattle.lists.specs.Lists.{sum_of}
use Rattle.pennant.specs.Pennant.{Tree, null, node, Slot, gap, tip}
use Rattle.pennant.specs.Bag.{Bag, empty_bag, bag_insert}

-- the numbers of a tree
unfoldable pub tree_items : Tree → List ℕ
tree_items null = []
tree_items (node a l r) = a ∷ tree_items l ++ tree_items r

-- the numbers of a pennant, its root first
unfoldable pub slot_items : Slot → List ℕ
slot_items gap = []
slot_items (tip a t) = a ∷ tree_items t

-- the numbers held, each as often as it is held
unfoldable pub items : Bag → List ℕ
items [] = []
items (x ∷ s) = slot_items x ++ items s

-- the sum of f over the numbers of a tree
unfoldable pub weigh_tree : (ℕ → ℕ) → Tree → ℕ
weigh_tree f null = 0
weigh_tree f (node a l r) = f a + (weigh_tree f l + weigh_tree f r)

-- the same over those of a pennant
unfoldable pub weigh_slot : (ℕ → ℕ) → Slot → ℕ
weigh_slot f gap = 0
weigh_slot f (tip a t) = f a + weigh_tree f t

-- the sum of f over the numbers held, each as often as it is held
unfoldable pub weigh : (ℕ → ℕ) → Bag → ℕ
weigh f s = sum_of (weigh_slot f) s

-- weight 1 for every number: how many
abbrev pub one : ℕ → ℕ
one x = 1

-- weight 1 for v, 0 for all others: how often v
abbrev pub only : ℕ → ℕ → ℕ
only v x = cond (eqb x v) 1 0

-- how many numbers are held
abbrev pub size : Bag → ℕ
size s = weigh one s

-- how often v is held
abbrev pub copies : ℕ → Bag → ℕ
copies v s = weigh (only v) s

-- a complete tree of 2^k - 1 numbers (§4.1)
abbrev pub Complete : ℕ → Tree → Type 0
Complete zero null = Unit {0}
Complete zero (node a l r) = ⊥
Complete (suc k) null = ⊥
Complete (suc k) (node a l r) = Complete k l × Complete k r

-- empty, or "a pennant of size 2^k" (§4.1)
abbrev pub Pennant : ℕ → Slot → Type 0
Pennant k gap = Unit {0}
Pennant k (tip a t) = Complete k t

-- slots of which the first is slot k, each empty or with a pennant of its size
abbrev pub ShapedFrom : ℕ → Bag → Type 0
ShapedFrom k [] = Unit {0}
ShapedFrom k (x ∷ s) = Pennant k x × ShapedFrom (suc k) s

-- "slot k is empty or holds a pennant of size 2^k" (§4.4)
abbrev pub Shaped : Bag → Type 0
Shaped s = ShapedFrom 0 s

-- a tree with f a in the place of each number a
unfoldable pub map_tree : (ℕ → ℕ) → Tree → Tree
map_tree f null = null
map_tree f (node a l r) = node (f a) (map_tree f l) (map_tree f r)

-- a pennant with the same
unfoldable pub map_slot : (ℕ → ℕ) → Slot → Slot
map_slot f gap = gap
map_slot f (tip a t) = tip (f a) (map_tree f t)

-- a bag with the same: the trees keep their shape
unfoldable pub map_bag : (ℕ → ℕ) → Bag → Bag
map_bag f s = map (map_slot f) s

-- the bag after 1, 2, .., n are inserted
unfoldable pub up_to : ℕ → Bag
up_to zero = empty_bag
up_to (suc n) = bag_insert (suc n) (up_to n)

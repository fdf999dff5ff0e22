-- Pennants and bags of nodes in two lists, left and right, and the free chain through left.
-- Nodes are numbered from 1; 0 is none. A slot's place k says how deep its pennant goes: k levels of the lists
-- are read, whatever the lists hold below them. `declared.Bag` is the code's struct, `Bag` the bag of trees
-- that it stands for.
use Rattle.std.specs.Prelude.{ℕ, zero, suc, List, [], ◌∷◌, length, get_or, replicate}
use Rattle.lists.specs.Lists.{chain_from}
use Rattle.pennant.specs.Pennant.{Tree, null, node, Slot, gap, tip}
use Rattle.pennant.specs.Bag.{Bag, slot_count}
use Rattle.pennant.specs.Held.{map_bag}
use Rattle.bag.specs.declared.Bag as declared

-- the complete tree of 2^k - 1 nodes at x
unfoldable pub tree_at : List ℕ → List ℕ → ℕ → ℕ → Tree
tree_at left right zero x = null
tree_at left right (suc k) x = node x (tree_at left right k (get_or left x 0)) (tree_at left right k (get_or right x 0))

-- slot k with the node x: empty for 0, else the pennant of 2^k nodes with the root x
unfoldable pub pennant_at : List ℕ → List ℕ → ℕ → ℕ → Slot
pennant_at left right k zero = gap
pennant_at left right k (suc x) = tip (suc x) (tree_at left right k (get_or left (suc x) 0))

-- the slots from slot k on
unfoldable pub slots_from : List ℕ → List ℕ → ℕ → List ℕ → Bag
slots_from left right k [] = []
slots_from left right k (x ∷ xs) = pennant_at left right k x ∷ slots_from left right (suc k) xs

-- the bag of nodes that these slots stand for
unfoldable pub slot_nodes : List ℕ → List ℕ → List ℕ → Bag
slot_nodes left right slots = slots_from left right 0 slots

-- the bag of nodes that a bag stands for
abbrev pub nodes_of : List ℕ → List ℕ → declared.Bag → Bag
nodes_of left right bag = slot_nodes left right bag.slots

-- the bag of numbers held: the same trees with each node's number in its place
unfoldable pub held_by : List ℕ → List ℕ → List ℕ → declared.Bag → Bag
held_by left right values bag = map_bag (λ x. get_or values x 0) (nodes_of left right bag)

-- the bag with these slots
abbrev pub bag_with : List ℕ → declared.Bag
bag_with slots = record { slots = slots }

-- an empty bag's slots
abbrev pub empty_slots : List ℕ
empty_slots = replicate slot_count 0

-- BAG-CREATE: the empty bag (§4.4)
abbrev pub new_bag : declared.Bag
new_bag = bag_with empty_slots

-- what is read past the end of an array of bags
abbrev pub past_bag : declared.Bag
past_bag = bag_with []

-- "Free nodes are chained by a next index, zero ends the chain": the chain from x on through left,
-- at most `steps` nodes (§4.11)
unfoldable pub free_from : List ℕ → ℕ → ℕ → List ℕ
free_from left steps x = chain_from (λ n. get_or left n 0) steps x

-- the free nodes: the chain starts at place 0, which is no node's (§4.11)
unfoldable pub free_nodes : List ℕ → List ℕ
free_nodes left = free_from left (length left) (get_or left 0 0)

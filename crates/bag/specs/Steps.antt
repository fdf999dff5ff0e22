-- What the inner steps of the crate hand to one another. Only their own contracts cite these.
-- A prime marks what stands there afterwards.
use Rattle.std.specs.Prelude.{ℕ, zero, suc, ◌+◌, ◌≤◌, ◌≡◌, List, [], ◌∷◌, ◌++◌, map, length, get_or, set, drop}
use Rattle.lists.specs.Lists.{sum_of}
use Rattle.pennant.specs.Pennant.{gap, pennant_first, pennant_second}
use Rattle.pennant.specs.Bag.{bag_insert, spread, adder_sum, adder_carry}
use Rattle.pennant.specs.Held.{weigh_slot, weigh, only, copies}
use Rattle.bag.specs.Nodes.{pennant_at, slot_nodes}
use Rattle.bag.specs.Promises.{in_pool}

-- left after PENNANT-UNION of x and y, if there is an x
unfoldable pub linked_left : ℕ → ℕ → List ℕ → List ℕ
linked_left zero y left = left
linked_left (suc x) y left = set left (suc x) y

-- right after PENNANT-UNION of x and y, if there is an x
unfoldable pub linked_right : ℕ → ℕ → List ℕ → List ℕ → List ℕ
linked_right zero y left right = right
linked_right (suc x) y left right = set right y (get_or left (suc x) 0)

-- how often i stands in pennants of 2^k nodes
abbrev pub uses_at : ℕ → List ℕ → List ℕ → ℕ → List ℕ → ℕ
uses_at i left right k roots = sum_of (λ x. weigh_slot (only i) (pennant_at left right k x)) roots

-- pennants of 2^k nodes: each node stands in at most one place, and all of them are nodes of the pool
pub record Pennants (left right : List ℕ) (k : ℕ) (roots : List ℕ) : Type 0 where
  -- right has a place for each node, too
  pub wide : length left ≤ length right
  -- each node in at most one place
  pub apart : (i : ℕ) → uses_at i left right k roots ≤ in_pool (length left) i

-- PENNANT-SPLIT on the lists
pub record Halved (left right : List ℕ) (k x : ℕ) (left' : List ℕ) (half : ℕ) : Type 0 where
  -- what the root x keeps
  pub first : pennant_at left' right k x ≡ pennant_first (pennant_at left right (suc k) x)
  -- what is split off
  pub second : pennant_at left' right k half ≡ pennant_second (pennant_at left right (suc k) x)
  -- a node outside the pennant keeps its left child
  pub kept : (i : ℕ) → uses_at i left right (suc k) (x ∷ []) ≡ 0 → get_or left' i 0 ≡ get_or left i 0

-- the full adder on the lists
pub record Added (left right : List ℕ) (k x y z : ℕ) (left' right' : List ℕ) (slot carry : ℕ) : Type 0 where
  -- s of FA
  pub sum : pennant_at left' right' k slot
      ≡ adder_sum (pennant_at left right k x) (pennant_at left right k y) (pennant_at left right k z)
  -- c of FA
  pub carried : pennant_at left' right' (suc k) carry
      ≡ adder_carry (pennant_at left right k x) (pennant_at left right k y) (pennant_at left right k z)
  -- a node outside the three pennants keeps its children
  pub kept_left : (i : ℕ) → uses_at i left right k (x ∷ y ∷ z ∷ []) ≡ 0 → get_or left' i 0 ≡ get_or left i 0
  pub kept_right : (i : ℕ) → uses_at i left right k (x ∷ y ∷ z ∷ []) ≡ 0 → get_or right' i 0 ≡ get_or right i 0

-- a bag and a node apart from it
pub record Loose (left right slots : List ℕ) (x : ℕ) : Type 0 where
  -- nodes are 16-bit numbers
  pub few : length left ≤ 65536
  -- right has a place for each node, too
  pub wide : length left ≤ length right
  -- there is a node
  pub some : x ≡ 0 → ⊥
  -- apart from the bag's nodes; each node stands in at most one place
  pub apart : (i : ℕ) → only i x + copies i (slot_nodes left right slots) ≤ in_pool (length left) i

-- BAG-INSERT on the lists
pub record Placed (left right slots : List ℕ) (x : ℕ) (left' right' slots' : List ℕ) : Type 0 where
  -- the bag gains the node
  pub nodes : slot_nodes left' right' slots' ≡ bag_insert x (slot_nodes left right slots)
  -- every other node keeps its children
  pub kept_left : (i : ℕ) → only i x + copies i (slot_nodes left right slots) ≡ 0 → get_or left' i 0 ≡ get_or left i 0
  pub kept_right : (i : ℕ) → only i x + copies i (slot_nodes left right slots) ≡ 0
      → get_or right' i 0 ≡ get_or right i 0

-- BAG-SPLIT on the lists, but for the pennant in slot 0
pub record Shifted (left right slots left' first second : List ℕ) : Type 0 where
  -- one slot down, what the roots keep
  pub nodes_first : slot_nodes left' right first ≡ map pennant_first (drop 1 (slot_nodes left right slots)) ++ gap ∷ []
  -- one slot down, what is split off
  pub nodes_second : slot_nodes left' right second
      ≡ map pennant_second (drop 1 (slot_nodes left right slots)) ++ gap ∷ []
  -- a node outside the pennants past slot 0 keeps its left child
  pub kept : (i : ℕ) → weigh (only i) (drop 1 (slot_nodes left right slots)) ≡ 0 → get_or left' i 0 ≡ get_or left i 0

-- the pennant of slot k spread over the slots below it
pub record Spilled (left right slots : List ℕ) (k : ℕ) (left' slots' : List ℕ) : Type 0 where
  -- the halves fill the slots below, slot k is empty
  pub nodes : slot_nodes left' right slots'
      ≡ spread k (pennant_at left right k (get_or slots k 0)) (gap ∷ drop (suc k) (slot_nodes left right slots))
  -- a node outside the bag keeps its left child
  pub kept : (i : ℕ) → copies i (slot_nodes left right slots) ≡ 0 → get_or left' i 0 ≡ get_or left i 0

-- What the operations on bags take for granted and what they promise: their contracts cite these records.
-- A prime marks what stands there afterwards.
use Rattle.std.specs.Prelude.{ℕ, ◌+◌, ◌≤◌, ◌<◌, ◌≡◌, cond, ◌&&◌, List, [], ◌∷◌, ltb, length, get_or, set}
use Rattle.lists.specs.Lists.{sum_of}
use Rattle.pennant.specs.Bag.{slot_count, bag_insert, bag_union, split_first, split_second, taken_number, take_rest}
use Rattle.pennant.specs.Held.{weigh, only}
use Rattle.bag.specs.declared.Bag as declared
use Rattle.bag.specs.Nodes.{nodes_of, held_by, free_nodes, new_bag}

-- 1 for a node of a pool with so many places, 0 for 0 and for what lies past the end
unfoldable pub in_pool : ℕ → ℕ → ℕ
in_pool places x = cond (ltb 0 x && ltb x places) 1 0

-- the sum of f over the nodes of a family of bags
unfoldable pub weigh_nodes : (ℕ → ℕ) → List ℕ → List ℕ → List declared.Bag → ℕ
weigh_nodes f left right bags = sum_of (λ (bag : declared.Bag). weigh f (nodes_of left right bag)) bags

-- the sum of f over the nodes of the free chain
unfoldable pub weigh_free : (ℕ → ℕ) → List ℕ → ℕ
weigh_free f left = sum_of f (free_nodes left)

-- how often x stands in the bags and in the free chain
abbrev pub uses : ℕ → List ℕ → List ℕ → List declared.Bag → ℕ
uses x left right bags = weigh_nodes (only x) left right bags + weigh_free (only x) left

-- "a backbone of 16 slots"
pub record Formed (bag : declared.Bag) : Type 0 where
  pub sixteen : length bag.slots ≡ slot_count

-- bags that all have 16 slots
abbrev pub AllFormed : List declared.Bag → Type 0
AllFormed [] = Unit {0}
AllFormed (bag ∷ bags) = Formed bag × AllFormed bags

-- a well-formed pool with these bags
pub record Pooled (left right : List ℕ) (bags : List declared.Bag) : Type 0 where
  -- there is a place 0, where the free chain starts
  pub some : 0 < length left
  -- nodes are 16-bit numbers
  pub few : length left ≤ 65536
  -- right has a place for each node, too
  pub wide : length left ≤ length right
  -- each node stands in at most one place of one bag or of the free chain; 0 and what lies past the list stand in none
  pub apart : (x : ℕ) → uses x left right bags ≤ in_pool (length left) x
  -- each bag by itself
  pub formed : AllFormed bags

-- what an operation on these bags does to the nodes
pub record Moved (left right : List ℕ) (bags : List declared.Bag)
    (left' right' : List ℕ) (bags' : List declared.Bag) : Type 0 where
  -- bags and free chain together have the nodes they had: by every weight they weigh what they did
  pub nodes : (f : ℕ → ℕ) → weigh_nodes f left' right' bags' + weigh_free f left'
      ≡ weigh_nodes f left right bags + weigh_free f left
  -- a node outside both keeps its left child (place 0 belongs to no node)
  pub kept_left : (x : ℕ) → 0 < x → uses x left right bags ≡ 0 → get_or left' x 0 ≡ get_or left x 0
  -- and its right child
  pub kept_right : (x : ℕ) → uses x left right bags ≡ 0 → get_or right' x 0 ≡ get_or right x 0
  -- the lists keep their lengths
  pub left_length : length left' ≡ length left
  pub right_length : length right' ≡ length right
  -- each bag afterwards, by itself
  pub formed : AllFormed bags'

-- insert: the multiset held "gains one by insert"
pub record Inserted (left right values : List ℕ) (bag : declared.Bag) (value : ℕ)
    (left' right' values' : List ℕ) (bag' : declared.Bag) : Type 0 where
  -- the first free node is taken off the chain
  pub free : free_nodes left ≡ get_or left 0 0 ∷ free_nodes left'
  -- the bag of nodes gains it
  pub nodes : nodes_of left' right' bag' ≡ bag_insert (get_or left 0 0) (nodes_of left right bag)
  -- it gets the number
  pub stored : values' ≡ set values (get_or left 0 0) value
  -- a node outside the bag and the free chain keeps its number
  pub kept_value : (x : ℕ) → 0 < x → uses x left right (bag ∷ []) ≡ 0 → get_or values' x 0 ≡ get_or values x 0
  -- the bag of numbers held gains the number
  pub held : held_by left' right' values' bag' ≡ bag_insert value (held_by left right values bag)
  -- bags and free chain together keep their nodes, and every other node is as it was
  pub moved : Moved left right (bag ∷ []) left' right' (bag' ∷ [])

-- union: "The multiset held is conserved by union and split"
pub record United (left right : List ℕ) (a b : declared.Bag)
    (left' right' : List ℕ) (bag' : declared.Bag) : Type 0 where
  -- the free chain is as it was
  pub free : free_nodes left' ≡ free_nodes left
  -- the two bags of nodes become one
  pub nodes : nodes_of left' right' bag' ≡ bag_union (nodes_of left right a) (nodes_of left right b)
  -- and so do the bags of numbers held, whatever the numbers are
  pub held : (values : List ℕ) → held_by left' right' values bag'
      ≡ bag_union (held_by left right values a) (held_by left right values b)
  -- bags and free chain together keep their nodes, and every other node is as it was;
  -- an empty bag may stand in the place of the second
  pub moved : Moved left right (a ∷ b ∷ []) left' right' (bag' ∷ new_bag ∷ [])

-- split: "The multiset held is conserved by union and split"
pub record SplitInto (left right : List ℕ) (bag : declared.Bag)
    (left' right' : List ℕ) (first second : declared.Bag) : Type 0 where
  -- the free chain is as it was
  pub free : free_nodes left' ≡ free_nodes left
  -- the bag of nodes becomes two
  pub nodes_first : nodes_of left' right' first ≡ split_first (nodes_of left right bag)
  pub nodes_second : nodes_of left' right' second ≡ split_second (nodes_of left right bag)
  -- and so does the bag of numbers held, whatever the numbers are
  pub held_first : (values : List ℕ) → held_by left' right' values first ≡ split_first (held_by left right values bag)
  pub held_second : (values : List ℕ)
      → held_by left' right' values second ≡ split_second (held_by left right values bag)
  -- bags and free chain together keep their nodes, and every other node is as it was
  pub moved : Moved left right (bag ∷ []) left' right' (first ∷ second ∷ [])

-- take: "the root's number is taken and its node freed"
pub record TakenFrom (left right values : List ℕ) (bag : declared.Bag)
    (left' : List ℕ) (bag' : declared.Bag) (value : ℕ) : Type 0 where
  -- the node that is taken is then the first free one
  pub free : free_nodes left' ≡ taken_number (nodes_of left right bag) ∷ free_nodes left
  -- the bag of nodes is what take leaves
  pub nodes : nodes_of left' right bag' ≡ take_rest (nodes_of left right bag)
  -- the answer is the number that take takes from the numbers held
  pub taken : value ≡ taken_number (held_by left right values bag)
  -- and of them is left what take leaves
  pub held : held_by left' right values bag' ≡ take_rest (held_by left right values bag)
  -- bags and free chain together keep their nodes, and every other node is as it was
  pub moved : Moved left right (bag ∷ []) left' right (bag' ∷ [])

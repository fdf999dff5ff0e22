-- The numbers held by a bag of nodes, for crates that speak of numbers and not of nodes: emptiness, size, shape, the empty bag, and room for
-- one more.
use Prim.Native.Nat.{ℕ, ◌+◌, ◌<◌}
use native.Mathlib.Omega.{arith}
use mathlib.Core.Path.{◌≡◌, refl, ap, ◌∙◌}
use mathlib.Core.Bool.{true}
use mathlib.Core.List.{List, [], ◌∷◌, map}
use lib.ListN.{length, get_or}
use Rattle.lists.specs.Lists.{sum_of}
use Rattle.pennant.specs.Bag.{slot_count, is_empty, at_least_two, empty_bag}
use Rattle.pennant.specs.Held.{weigh, size, one, Shaped, map_bag}
use Rattle.pennant.proofs.Laws.{map_is_empty, map_at_least_two, map_empty, map_length, weigh_map, shaped_map, empty_bare}
use Rattle.bag.specs.declared.Bag as declared
use Rattle.bag.specs.Nodes.{nodes_of, held_by, new_bag}
use Rattle.bag.specs.Promises.{weigh_nodes, weigh_free, Formed}
use Rattle.bag.proofs.Kept.{nodes_shaped, length_nodes}
use Rattle.bag.proofs.Free.{nodes_empty, free_some}

module _ (left right values : List ℕ) (b : declared.Bag) where
  -- numbers are held where there are nodes
  pub held_empty : is_empty (held_by left right values b) ≡ is_empty (nodes_of left right b)
  unfolding held_by
  held_empty = map_is_empty (λ x. get_or values x 0) (nodes_of left right b)

  -- at least two numbers where there are at least two nodes
  pub held_two : at_least_two (held_by left right values b) ≡ at_least_two (nodes_of left right b)
  unfolding held_by
  held_two = map_at_least_two (λ x. get_or values x 0) (nodes_of left right b)

  -- a weight of the numbers is one of the nodes
  pub held_weigh : (f : ℕ → ℕ) → weigh f (held_by left right values b) ≡ weigh (λ x. f (get_or values x 0)) (nodes_of left right b)
  unfolding held_by
  held_weigh f = weigh_map f (λ x. get_or values x 0) (nodes_of left right b)

  -- slot k is empty or holds 2^k numbers
  pub held_shaped : Shaped (held_by left right values b)
  unfolding held_by
  held_shaped = shaped_map (λ x. get_or values x 0) (nodes_of left right b) (nodes_shaped left right b.slots)

  -- 16 slots
  pub held_length : Formed b → length (held_by left right values b) ≡ slot_count
  unfolding held_by
  held_length formed = map_length (λ x. get_or values x 0) (nodes_of left right b) ∙ length_nodes left right b.slots ∙ formed.sixteen

  -- an empty one is the empty bag
  pub held_bare : Formed b → is_empty (held_by left right values b) ≡ true → held_by left right values b ≡ empty_bag
  held_bare formed empty = empty_bare (held_by left right values b) empty (held_length formed)

-- all the numbers that a family holds, by any weight of them
pub family_weigh : (f : ℕ → ℕ) (left right values : List ℕ) (bags : List declared.Bag)
    → sum_of (weigh f) (map (held_by left right values) bags) ≡ weigh_nodes (λ x. f (get_or values x 0)) left right bags
unfolding weigh_nodes sum_of
family_weigh f left right values [] = refl
family_weigh f left right values (b ∷ bags) = omega (arith, held_weigh left right values b f, family_weigh f left right values bags)

-- a family that holds fewer numbers than there are nodes in all leaves one free
pub family_room : (left right values : List ℕ) (bags : List declared.Bag) (total : ℕ) → weigh_nodes one left right bags + weigh_free one left ≡ total
    → sum_of size (map (held_by left right values) bags) < total
    → get_or left 0 0 ≡ 0 → ⊥
family_room left right values bags total whole few = free_some left (omega (arith, whole, few, family_weigh one left right values bags))

-- an empty bag
pub held_none : (left right values : List ℕ) → held_by left right values new_bag ≡ empty_bag
unfolding held_by
held_none left right values = ap (map_bag (λ x. get_or values x 0)) (nodes_empty left right) ∙ map_empty (λ x. get_or values x 0)

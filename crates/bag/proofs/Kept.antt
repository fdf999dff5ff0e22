-- Where the lists are unchanged at the nodes of a tree, a pennant or a bag, it is unchanged; and the slots of a bag of nodes one by one.
use Prim.Native.Nat.{ℕ, zero, suc, ◌+◌, ◌≤◌}
use native.Mathlib.Omega.{arith}
use native.Mathlib.Nat.{zero-add, add-zero, add-suc, suc-add}
use mathlib.Core.Path.{◌≡◌, refl, sym, ap, ◌∙◌}
use mathlib.Core.List.{List, [], ◌∷◌}
use lib.ListN.{length, get_or, take, drop, set}
use Rattle.lists.specs.Lists.{sum_of}
use Rattle.pennant.specs.Pennant.{gap}
use Rattle.pennant.specs.Held.{weigh_tree, weigh_slot, weigh, only, copies, Complete, Pennant, ShapedFrom, Shaped}
use Rattle.bag.specs.Nodes.{tree_at, pennant_at, slots_from, slot_nodes}
use Rattle.pennant.proofs.Laws.{only_self}

module _ (left right left' right' : List ℕ) where
  -- both lists have at node i what they had
  abbrev pub Same : ℕ → Type 0
  Same i = (get_or left' i 0 ≡ get_or left i 0) × (get_or right' i 0 ≡ get_or right i 0)

  -- a tree whose nodes are as they were
  pub tree_kept : (k x : ℕ) → ((i : ℕ) → 1 ≤ weigh_tree (only i) (tree_at left right k x) → Same i) → tree_at left' right' k x ≡ tree_at left right k x
  unfolding tree_at weigh_tree
  tree_kept zero x same = refl
  tree_kept (suc k) x same =
      let here = same x (omega (arith, only_self x)) in
      rw (
        here.0,
        here.1,
        tree_kept k (get_or left x 0) (λ i h. same i (omega arith)),
        tree_kept k (get_or right x 0) (λ i h. same i (omega arith)),
      )

  -- a pennant whose nodes are as they were
  pub pennant_kept : (k x : ℕ) → ((i : ℕ) → 1 ≤ weigh_slot (only i) (pennant_at left right k x) → Same i) → pennant_at left' right' k x ≡ pennant_at left right k x
  unfolding pennant_at weigh_slot
  pennant_kept k zero same = refl
  pennant_kept k (suc x) same =
      rw ((same (suc x) (omega (arith, only_self (suc x)))).0, tree_kept k (get_or left (suc x) 0) (λ i h. same i (omega arith)))

  -- slots from slot k on whose nodes are as they were
  pub slots_kept : (k : ℕ) (xs : List ℕ) → ((i : ℕ) → 1 ≤ weigh (only i) (slots_from left right k xs) → Same i) → slots_from left' right' k xs ≡ slots_from left right k xs
  unfolding slots_from weigh sum_of
  slots_kept k [] same = refl
  slots_kept k (x ∷ xs) same = rw (pennant_kept k x (λ i h. same i (omega arith)), slots_kept (suc k) xs (λ i h. same i (omega arith)))

  -- a bag whose nodes are as they were
  pub nodes_kept : (slots : List ℕ) → ((i : ℕ) → 1 ≤ copies i (slot_nodes left right slots) → Same i) → slot_nodes left' right' slots ≡ slot_nodes left right slots
  unfolding slot_nodes
  nodes_kept slots same = slots_kept 0 slots same

module _ (left right : List ℕ) where
  -- as many slots as nodes are given
  pub length_slots : (k : ℕ) (xs : List ℕ) → length (slots_from left right k xs) ≡ length xs
  unfolding slots_from
  length_slots k [] = refl
  length_slots k (x ∷ xs) = ap suc (length_slots (suc k) xs)

  -- the slot at place i
  pub slots_at : (k : ℕ) (xs : List ℕ) (i : ℕ) → get_or (slots_from left right k xs) i gap ≡ pennant_at left right (k + i) (get_or xs i 0)
  unfolding slots_from pennant_at
  slots_at k [] i = refl
  slots_at k (x ∷ xs) zero = ap (λ (n : ℕ). pennant_at left right n x) (sym (add-zero k))
  slots_at k (x ∷ xs) (suc i) = slots_at (suc k) xs i ∙ ap (λ (n : ℕ). pennant_at left right n (get_or xs i 0)) (suc-add k i ∙ sym (add-suc k i))

  -- a slot replaced
  pub slots_set : (k : ℕ) (xs : List ℕ) (i y : ℕ) → slots_from left right k (set xs i y) ≡ set (slots_from left right k xs) i (pennant_at left right (k + i) y)
  unfolding slots_from
  slots_set k [] i y = refl
  slots_set k (x ∷ xs) zero y = rw add-zero
  slots_set k (x ∷ xs) (suc i) y = rw (slots_set (suc k) xs i y, suc-add k i, add-suc k i)

  -- the slots from slot k + i on
  pub slots_drop : (k i : ℕ) (xs : List ℕ) → drop i (slots_from left right k xs) ≡ slots_from left right (k + i) (drop i xs)
  unfolding slots_from
  slots_drop k zero xs = rw add-zero
  slots_drop k (suc i) [] = refl
  slots_drop k (suc i) (x ∷ xs) = rw (slots_drop (suc k) i xs, suc-add k i, add-suc k i)

  -- the first i slots
  pub slots_take : (k i : ℕ) (xs : List ℕ) → take i (slots_from left right k xs) ≡ slots_from left right k (take i xs)
  unfolding slots_from
  slots_take k zero xs = refl
  slots_take k (suc i) [] = refl
  slots_take k (suc i) (x ∷ xs) = rw (slots_take (suc k) i xs)

  -- a tree that is read off k levels deep is complete
  tree_complete : (k x : ℕ) → Complete k (tree_at left right k x)
  unfolding tree_at
  tree_complete zero x = tt
  tree_complete (suc k) x = (tree_complete k (get_or left x 0), tree_complete k (get_or right x 0))

  -- slot k is empty or holds a pennant of size 2^k
  pub pennant_shaped : (k x : ℕ) → Pennant k (pennant_at left right k x)
  unfolding pennant_at
  pennant_shaped k zero = tt
  pennant_shaped k (suc x) = tree_complete k (get_or left (suc x) 0)

  -- slots that are read off have their shapes
  slots_shaped : (k : ℕ) (xs : List ℕ) → ShapedFrom k (slots_from left right k xs)
  unfolding slots_from
  slots_shaped k [] = tt
  slots_shaped k (x ∷ xs) = (pennant_shaped k x, slots_shaped (suc k) xs)

  module _ (slots : List ℕ) where
    -- a bag of nodes has the shape of a bag
    pub nodes_shaped : Shaped (slot_nodes left right slots)
    unfolding slot_nodes
    nodes_shaped = slots_shaped 0 slots

    -- as many slots as nodes are given
    pub length_nodes : length (slot_nodes left right slots) ≡ length slots
    unfolding slot_nodes
    length_nodes = length_slots 0 slots

    -- slot k of a bag of nodes
    pub nodes_at : (k : ℕ) → get_or (slot_nodes left right slots) k gap ≡ pennant_at left right k (get_or slots k 0)
    unfolding slot_nodes
    nodes_at k = slots_at 0 slots k ∙ ap (λ (n : ℕ). pennant_at left right n (get_or slots k 0)) (zero-add k)

    -- a slot replaced
    pub nodes_set : (k y : ℕ) → slot_nodes left right (set slots k y) ≡ set (slot_nodes left right slots) k (pennant_at left right k y)
    unfolding slot_nodes
    nodes_set k y = slots_set 0 slots k y ∙ ap (λ (n : ℕ). set (slots_from left right 0 slots) k (pennant_at left right n y)) (zero-add k)

    -- the slots from k on
    pub nodes_drop : (k : ℕ) → drop k (slot_nodes left right slots) ≡ slots_from left right k (drop k slots)
    unfolding slot_nodes
    nodes_drop k = slots_drop 0 k slots ∙ ap (λ (n : ℕ). slots_from left right n (drop k slots)) (zero-add k)

    -- the slots before k
    pub nodes_take : (k : ℕ) → take k (slot_nodes left right slots) ≡ slot_nodes left right (take k slots)
    unfolding slot_nodes
    nodes_take k = slots_take 0 k slots

module _ (left right left' right' : List ℕ) (slots : List ℕ) (k : ℕ) where
  -- the slots from k on, where their nodes are as they were
  pub drop_kept : ((i : ℕ) → 1 ≤ weigh (only i) (drop k (slot_nodes left right slots)) → Same left right left' right' i)
      → drop k (slot_nodes left' right' slots) ≡ drop k (slot_nodes left right slots)
  drop_kept same =
      rw (nodes_drop left right slots k, nodes_drop left' right' slots k)
      (slots_kept left right left' right' k (drop k slots) (λ i h. same i (rw (nodes_drop left right slots k) h)))

  -- the slots before k
  pub take_kept : ((i : ℕ) → 1 ≤ weigh (only i) (take k (slot_nodes left right slots)) → Same left right left' right' i)
      → take k (slot_nodes left' right' slots) ≡ take k (slot_nodes left right slots)
  take_kept same =
      rw (nodes_take left right slots k, nodes_take left' right' slots k)
      (nodes_kept left right left' right' (take k slots) (λ i h. same i (rw (nodes_take left right slots k) h)))

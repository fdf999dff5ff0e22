-- Facts for the cost of a state: what bags, phases and labels cost.
use mathlib.Core.Path.{◌≡◌, refl}
use mathlib.Core.Bool.{Bool, true, false, cond, not}
use mathlib.Core.List.{List, [], ◌∷◌, flatten}
use mathlib.Core.Option.{Option, none, some}
use Prim.Native.Nat.{ℕ, zero, suc, ◌+◌, ◌*◌, ◌-◌, ◌≤◌, ◌<◌}
use native.Mathlib.Omega.{arith}
use lib.ListN.{length, get_or, set, replicate, length-append, length-replicate}
use borrow.Author.Tests.{not-true}
use Rattle.lists.proofs.Parts.{get_or_repeated}
use Rattle.lists.proofs.Replaced.{set_cases}
use Rattle.lists.proofs.Tests.{test_within}
use Rattle.lists.proofs.Sums.{sum_most}
use Rattle.graph.specs.Graph.{Graph, edges}
use Rattle.pennant.specs.Bag.{Bag, empty_bag, is_empty}
use Rattle.pennant.specs.Held.{items, weigh, one, size}
use Rattle.pennant.proofs.Laws.{weigh_empty, weigh_items, empty_bag_lem, filled_size}
use Rattle.model.specs.Paths.{edge_target, Labels, distance_of, is_set}
use Rattle.model.specs.State.{Phase, free, holding, in_hand, marked, named}
use Rattle.model.specs.Table.{hold_at, look, mark}
use Rattle.model.proofs.Workers.{hold_cases}
use Rattle.model.proofs.Cost.{degree, item_cost, filled_one, output_cost, hand_cost, phase_cost, unset_cost, unsets_cost}

-- Bags.

-- a bag that isn't empty counts once
pub filled-one : (s : Bag) → is_empty s ≡ false → filled_one s ≡ 1
filled-one s e = rw e

-- no bag counts more than once
pub filled_most : (s : Bag) → filled_one s ≤ 1
filled_most s = test_within (not (is_empty s)) 1 (λ e. omega arith)

-- nor more than it weighs
pub filled_weighs : (g : Graph) (s : Bag) → filled_one s ≤ weigh (item_cost g) s
filled_weighs g s = test_within (not (is_empty s)) (weigh (item_cost g) s) (λ e. omega (arith, filled_size s (not-true (is_empty s) e), sizes))
  where
    sizes : size s ≤ weigh (item_cost g) s
    sizes = rw (weigh_items one s, weigh_items (item_cost g) s) (omega (arith, sum_most one (item_cost g) 0 (λ v. omega arith) (items s)))

-- the empty bag costs nothing as an output bag
pub empty_output : (g : Graph) → output_cost g empty_bag ≡ 0
empty_output g = rw empty_bag_lem (omega (arith, weigh_empty (item_cost g)))

-- Phases.

module _ (g : Graph) where
  -- a phase costs no more than with other labels, and k, if no vertex in hand does
  pub phase_most : (a b : Labels) (k : ℕ) → ((v : ℕ) → hand_cost g b v ≤ hand_cost g a v + k) → (p : Phase) → phase_cost g b p ≤ phase_cost g a p + k
  phase_most a b k most free = omega arith
  phase_most a b k most (holding u i) = omega arith
  phase_most a b k most (in_hand u i t) = omega (arith, most t)
  phase_most a b k most (marked u i t) = omega arith
  phase_most a b k most (named u i t) = omega arith

  -- at edge i of u, or free after the last one: the edges left
  pub hold_cost : (x : Labels) (u i : ℕ) → phase_cost g x (hold_at g u i) ≡ degree g u - i
  hold_cost x u i = hold_cases g (λ p. phase_cost g x p ≡ degree g u - i) u i (λ past. omega arith) (λ there. refl)

  -- after a look one edge fewer is left, and an unset vertex that is in hand then costs the worker nothing
  pub look_cost : (x : Labels) (u i : ℕ) → i < degree g u → suc (phase_cost g x (look g x u i)) ≤ degree g u - i
  unfolding look
  look_cost x u i there = go (is_set (distance_of x (edge_target g u i))) refl
    where
      go : (b : Bool) → is_set (distance_of x (edge_target g u i)) ≡ b
          → suc (phase_cost g x (cond b (hold_at g u (suc i)) (in_hand u i (edge_target g u i)))) ≤ degree g u - i
      go true e = omega (arith, hold_cost x u (suc i))
      go false e = rw e (omega arith)

-- Labels.

-- all labels unset: 6 for each vertex and 1 for each edge
unsets_all : (g : Graph) → unsets_cost (replicate (length g) none) g ≡ 6 * length g + length (flatten g)
unfolding unsets_cost flatten
unsets_all [] = refl
unsets_all (row ∷ g) = omega (arith, unsets_all g, length-append row (flatten g))

-- a label set: the unset vertices cost less by what that vertex cost as one of them
pub unsets_set : (l : List (Option ℕ)) (g : Graph) (t k : ℕ) → length l ≡ length g → t < length l
    → unsets_cost (set l t (some k)) g + unset_cost (get_or l t none) (edges g t) ≡ unsets_cost l g
unfolding unsets_cost edges
unsets_set [] g t k same h = absurd (omega arith)
unsets_set (o ∷ l) [] t k same h = absurd (omega arith)
unsets_set (o ∷ l) (row ∷ g) zero k same h = omega arith
unsets_set (o ∷ l) (row ∷ g) (suc t) k same h = omega (arith, unsets_set l g t k (omega arith) (omega arith))

-- only the source set
pub unsets_source : (g : Graph) (source : ℕ) → source < length g
    → unsets_cost (set (replicate (length g) none) source (some 0)) g + (6 + degree g source) ≡ 6 * length g + length (flatten g)
unsets_source g source h =
    let unset : List (Option ℕ) = replicate (length g) none in
    let long = length-replicate {A = Option ℕ} (length g) none in
    let here = get_or_repeated {A = Option ℕ} (length g) source none in
    let one_set = rw here at (unsets_set unset g source 0 long (omega arith)) in
    omega (arith, unsets_all g)

-- a vertex is paid for with the unset ones, or by the worker that has it in hand
hand_paid : (o : Option ℕ) (row : List ℕ) → cond (is_set o) (6 + length row) 0 + unset_cost o row ≡ 6 + length row
hand_paid none row = omega arith
hand_paid (some k) row = omega arith

-- a vertex marked: no vertex in hand costs more by more than the marked one cost with the unset ones
pub mark_hand : (g : Graph) (d t : ℕ) (x : Labels) → t < length x.distances → (v : ℕ)
    → hand_cost g (mark d t x) v ≤ hand_cost g x v + unset_cost (distance_of x t) (edges g t)
unfolding mark
mark_hand g d t x h v = set_cases x.distances t v (some (suc d)) none (distance_of (mark d t x) v) h refl
    (λ q r. rw (q, ← (rw q at r)) (omega (arith, hand_paid (distance_of x t) (edges g t))))
    (λ apart r. rw (← r) (omega arith))

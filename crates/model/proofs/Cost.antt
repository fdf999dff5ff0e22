-- A potential for the bound: what a state can still cost. It falls with every effective event and is at least 1 while the search isn't finished.
use mathlib.Core.Bool.{Bool, cond, not}
use mathlib.Core.List.{List, [], ◌∷◌}
use mathlib.Core.Option.{Option, none, some}
use Prim.Native.Nat.{ℕ, suc, ◌+◌, ◌*◌, ◌-◌}
use lib.ListN.{length}
use Rattle.lists.specs.Lists.{sum_of}
use Rattle.graph.specs.Graph.{Graph, edges}
use Rattle.pennant.specs.Bag.{Bag, is_empty}
use Rattle.pennant.specs.Held.{weigh}
use Rattle.model.specs.Paths.{Labels, distance_of, is_set}
use Rattle.model.specs.State.{Phase, free, holding, in_hand, marked, named, Worker, State}

-- how many edges start at v
abbrev pub degree : Graph → ℕ → ℕ
degree g v = length (edges g v)

-- what a vertex in a bag still costs: to be taken, its edges to be looked at, and to be split off or united
abbrev pub item_cost : Graph → ℕ → ℕ
item_cost g v = 2 + degree g v

-- 1 for a bag that isn't empty
abbrev pub filled_one : Bag → ℕ
filled_one s = cond (not (is_empty s)) 1 0

-- an input bag: every split makes one more bag that isn't empty
abbrev input_cost : Graph → Bag → ℕ
input_cost g s = weigh (item_cost g) s - filled_one s

-- an output bag: every union makes one fewer
abbrev pub output_cost : Graph → Bag → ℕ
output_cost g s = weigh (item_cost g) s + filled_one s

-- a target in hand, if it is set: its mark, name and stow and what it then costs in a bag. One that is unset is paid for with the unset vertices
abbrev pub hand_cost : Graph → Labels → ℕ → ℕ
hand_cost g x t = cond (is_set (distance_of x t)) (6 + degree g t) 0

-- a phase: the edges left to look at, and the target in hand
abbrev pub phase_cost : Graph → Labels → Phase → ℕ
phase_cost g x free = 0
phase_cost g x (holding u i) = degree g u - i
phase_cost g x (in_hand u i t) = (degree g u - suc i) + hand_cost g x t
phase_cost g x (marked u i t) = (degree g u - suc i) + (5 + degree g t)
phase_cost g x (named u i t) = (degree g u - suc i) + (4 + degree g t)

-- a worker
abbrev pub worker_cost : Graph → Labels → Worker → ℕ
worker_cost g x w = input_cost g w.input + phase_cost g x w.phase + output_cost g w.output

-- a vertex that is unset can come into the hands of every worker once: what that costs each of them
abbrev pub unset_cost : Option ℕ → List ℕ → ℕ
unset_cost none row = 6 + length row
unset_cost (some d) row = 0

-- the same for all vertices
unfoldable pub unsets_cost : List (Option ℕ) → Graph → ℕ
unsets_cost [] g = 0
unsets_cost (l ∷ ls) [] = 0
unsets_cost (l ∷ ls) (row ∷ rows) = unset_cost l row + unsets_cost ls rows

-- the finishing close
abbrev pub finish_cost : Bool → ℕ
finish_cost finished = cond finished 0 1

-- what a state can still cost
unfoldable pub cost : ℕ → Graph → State → ℕ
cost P g s = P * unsets_cost s.labels.distances g + sum_of (worker_cost g s.labels) s.workers + finish_cost s.finished

-- The event table: for each event, `none` where its condition isn't met, else the state that it leaves.
use Rattle.std.specs.Prelude.{Bool, true, false, cond, not, ◌&&◌, ℕ, suc, ltb, length, set}
use mathlib.Core.List.{List, [], ◌∷◌, map, foldl}
use Rattle.std.proofs.Math.Option.{Option, none, some}
use Rattle.graph.specs.Graph.{Graph, edges}
use Rattle.pennant.specs.Bag.{Bag, empty_bag, is_empty, at_least_two}
use Rattle.pennant.specs.Bag.{bag_insert, bag_union, split_first, split_second, take_rest, taken_number}
use Rattle.schedule.specs.declared.Event.{Event}
use Rattle.schedule.specs.declared.Event.TheVariants.{Work, Split, Unite, Close, Malformed}
use Rattle.model.specs.Paths.{edge_target, Labels, distance_of, is_set}
use Rattle.model.specs.State.{Phase, free, holding, in_hand, marked, named, Worker, worker_with, State, worker_at}

-- at link i of u: "A device whose links are used up frees its worker." (§6.3)
unfoldable pub hold_at : Graph → ℕ → ℕ → Phase
hold_at g u i = cond (ltb i (length (edges g u))) (holding u i) free

-- "it looks at the next target t; if t's distance is unset it has t in hand, else it passes on" (§6.4)
unfoldable pub look : Graph → Labels → ℕ → ℕ → Phase
look g x u i = cond (is_set (distance_of x (edge_target g u i))) (hold_at g u (suc i)) (in_hand u i (edge_target g u i))

-- "mark (distance d + 1)" (§6.4)
unfoldable pub mark : ℕ → ℕ → Labels → Labels
mark d t x = record { distances = set x.distances t (some (suc d)); parents = x.parents }

-- "name (parent u)" (§6.4)
unfoldable pub name : ℕ → ℕ → Labels → Labels
name u t x = record { distances = x.distances; parents = set x.parents t (some u) }

-- "worker w moves once. Free: it takes from its input bag, if that isn't empty. Holding u: it looks at the next
-- target t .. With t in hand, three more moves: mark .., name .., stow (insert t into its output bag, pass on)":
-- the worker and the labels after it (§6.4)
unfoldable pub move : Graph → ℕ → Labels → Bag → Bag → Phase → Option (Worker × Labels)
move g d x input output free =
    cond (is_empty input) none (some (worker_with (take_rest input) output (hold_at g (taken_number input) 0), x))
move g d x input output (holding u i) = some (worker_with input output (look g x u i), x)
move g d x input output (in_hand u i t) = some (worker_with input output (marked u i t), mark d t x)
move g d x input output (marked u i t) = some (worker_with input output (named u i t), name u t x)
move g d x input output (named u i t) = some (worker_with input (bag_insert t output) (hold_at g u (suc i)), x)

-- the move of a worker
abbrev pub move_of : Graph → ℕ → Labels → Worker → Option (Worker × Labels)
move_of g d x w = move g d x w.input w.output w.phase

-- the state with a move of worker w made in it
abbrev pub moved_state : State → ℕ → Worker × Labels → State
moved_state s w m = record {
  labels = m.1;
  workers = set s.workers w m.0;
  layer = s.layer;
  finished = s.finished;
}

-- a move put into the state, if there is one
unfoldable pub after_move : State → ℕ → Option (Worker × Labels) → Option State
after_move s w none = none
after_move s w (some m) = some (moved_state s w m)

-- the state with other workers
abbrev pub replace_workers : State → List Worker → State
replace_workers s workers = record { labels = s.labels; workers = workers; layer = s.layer; finished = s.finished }

-- "w .. gets the second bag of a split of v's input bag" (§6.6)
unfoldable pub split_inputs : List Worker → ℕ → ℕ → List Worker
split_inputs workers w v =
    let x = worker_at workers w in
    let y = worker_at workers v in
    set (set workers v (worker_with (split_first y.input) y.output y.phase))
    w (worker_with (split_second y.input) x.output x.phase)

-- "w's output bag is united into v's and left empty" (§6.7)
unfoldable pub unite_outputs : List Worker → ℕ → ℕ → List Worker
unite_outputs workers w v =
    let x = worker_at workers w in
    let y = worker_at workers v in
    set (set workers v (worker_with y.input (bag_union y.output x.output) y.phase))
    w (worker_with x.input empty_bag x.phase)

-- whether a worker is free
unfoldable pub is_free : Phase → Bool
is_free free = true
is_free (holding u i) = false
is_free (in_hand u i t) = false
is_free (marked u i t) = false
is_free (named u i t) = false

-- one worker is free and its input bag empty
abbrev pub is_idle : Worker → Bool
is_idle w = is_free w.phase && is_empty w.input

-- "all workers are free and all input bags empty" (§6.8)
unfoldable pub all_idle : List Worker → Bool
all_idle [] = true
all_idle (w ∷ workers) = is_idle w && all_idle workers

-- "output bags 0 to P - 1 are united in that order into worker 0's input bag" (§6.8)
unfoldable pub united_outputs : List Worker → Bag
united_outputs workers = foldl bag_union (worker_at workers 0).input (map (λ (w : Worker). w.output) workers)

-- a worker whose output bag has been united
abbrev pub handed_in : Worker → Worker
handed_in w = worker_with w.input empty_bag w.phase

-- ".. and d grows by 1" (§6.8)
abbrev pub raised_state : State → Bag → State
raised_state s bag = record {
  labels = s.labels;
  workers = set (map handed_in s.workers) 0 (worker_with bag empty_bag free);
  layer = suc s.layer;
  finished = false;
}

-- "the search is finished instead and d stays" (§6.8)
abbrev pub ended_state : State → State
ended_state s = record { labels = s.labels; workers = s.workers; layer = s.layer; finished = true }

-- ".. If the united bag is empty, the search is finished instead" (§6.8)
unfoldable pub closed : State → Bag → State
closed s bag = cond (is_empty bag) (ended_state s) (raised_state s bag)

-- the table: "An event whose condition isn't met changes nothing. The others are effective." (§6.4 to §6.9)
unfoldable pub act : Graph → State → Event → Option State
act g s (Work w) = after_move s w (move_of g s.layer s.labels (worker_at s.workers w))
act g s (Split w v) =
    let met = is_empty (worker_at s.workers w).input && at_least_two (worker_at s.workers v).input in
    cond met (some (replace_workers s (split_inputs s.workers w v))) none
act g s (Unite w v) =
    let met = not (is_empty (worker_at s.workers w).output) && not (is_empty (worker_at s.workers v).output) in
    cond met (some (replace_workers s (unite_outputs s.workers w v))) none
act g s Close = cond (all_idle s.workers) (some (closed s (united_outputs s.workers))) none
act g s Malformed = none

-- What the engine's lists, bags and phases stand for: the model's labels, phases, workers and state, each read
-- off by a function.
use Rattle.std.specs.Prelude.{false, List, [], ◌∷◌, map, ℕ, ◌-◌, get_or}
use Rattle.pennant.specs.Bag.{Bag}
use Rattle.bag.specs.declared.Bag as declared
use Rattle.bag.specs.Nodes.{held_by}
use Rattle.model.specs.State as model
use Rattle.model.specs.Words.{labels_of}
use Rattle.workers.specs.declared.Phase.{Phase}
use Rattle.workers.specs.declared.Phase.TheVariants.{Free, Holding, InHand, Marked, Named}

-- workers by their input bags, output bags and phases, which stand in three lists
unfoldable pub crew_of : List Bag → List Bag → List model.Phase → List model.Worker
crew_of [] outputs phases = []
crew_of (a ∷ inputs) [] phases = []
crew_of (a ∷ inputs) (b ∷ outputs) [] = []
crew_of (a ∷ inputs) (b ∷ outputs) (p ∷ phases) = model.worker_with a b p ∷ crew_of inputs outputs phases

-- the phase that an engine's phase stands for: the engine counts edges through all rows, the model from the
-- start of u's row
unfoldable pub phase_of : List ℕ → Phase → model.Phase
phase_of offsets Free = model.free
phase_of offsets (Holding u e f) = model.holding u (e - get_or offsets u 0)
phase_of offsets (InHand u e f t) = model.in_hand u (e - get_or offsets u 0) t
phase_of offsets (Marked u e f t) = model.marked u (e - get_or offsets u 0) t
phase_of offsets (Named u e f t) = model.named u (e - get_or offsets u 0) t

-- the workers that the engine's bags and phases stand for: the numbers that the bags hold, and the phases
abbrev pub workers_of : List ℕ → List ℕ → List ℕ → List ℕ
    → List declared.Bag → List declared.Bag → List Phase → List model.Worker
workers_of offsets left right values inputs outputs phases =
    crew_of (map (held_by left right values) inputs) (map (held_by left right values) outputs)
    (map (phase_of offsets) phases)

-- the state of a search that isn't finished
unfoldable pub state_of : List ℕ → List ℕ → List model.Worker → ℕ → model.State
state_of distances parents workers layer = record {
  labels = labels_of distances parents;
  workers = workers;
  layer = layer;
  finished = false;
}

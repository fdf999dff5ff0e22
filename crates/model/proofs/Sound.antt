-- The invariant of a played state: about the labels, about the workers, and what one event leaves.
use mathlib.Core.Path.{◌≡◌}
use mathlib.Core.Bool.{true, false}
use mathlib.Core.List.{List}
use mathlib.Core.Option.{none, some}
use mathlib.Core.Logic.{◌⊎◌}
use Prim.Native.Nat.{ℕ, suc, ◌+◌, ◌≤◌, ◌<◌}
use lib.ListN.{length}
use Rattle.lists.specs.Lists.{reaches, some_one}
use Rattle.graph.specs.Graph.{Graph, edges, targets_of}
use Rattle.pennant.specs.Held.{copies, Shaped}
use Rattle.model.specs.Paths.{edge_target, Walk, Distance, Labels, distance_of, parent_of, is_set, Nearer}
use Rattle.model.specs.State.{Phase, free, holding, in_hand, marked, named, Worker, State, worker_at}
use Rattle.model.proofs.Counts.{unsets, hand_of, naming_of, at_of, inputs, outputs, hands, namings, ats}

-- a graph whose targets are vertices, and a source that is one
pub record Ground (g : Graph) (source : ℕ) : Type 0 where
  pub below : reaches (length g) (targets_of g) ≡ false
  pub starts : source < length g

module _ (g : Graph) (source : ℕ) where
  -- labels written up to layer d and partly for the next one
  pub record LabelsSound (d : ℕ) (x : Labels) : Type 0 where
    pub distances_all : length x.distances ≡ length g
    pub parents_all : length x.parents ≡ length g
    -- every written distance is the graph's ..
    pub written : (v k : ℕ) → distance_of x v ≡ some k → Distance g source v k
    -- .. and no more than the next layer's
    pub not_far : (v k : ℕ) → distance_of x v ≡ some k → k ≤ suc d
    -- what d links reach is set
    pub near : (v k : ℕ) → Walk g source v k → k ≤ d → is_set (distance_of x v) ≡ true
    -- this layer has a vertex
    pub some_vertex : (v : ℕ) × Distance g source v d
    -- at least d + 1 vertices are set
    pub room : d + 1 + unsets x.distances ≤ length g
    -- and so has the next one, once one of it is set
    pub more_room : (v : ℕ) → distance_of x v ≡ some (suc d) → d + 2 + unsets x.distances ≤ length g
    -- the source is its own parent, every other parent is nearer by one link
    pub own_parent : parent_of x source ≡ some source
    pub parent : (v p : ℕ) → (v ≡ source → ⊥) → parent_of x v ≡ some p → Nearer g x p v

  -- a worker at edge i of u, in layer d
  pub record AtEdge (d u i : ℕ) : Type 0 where
    pub far : Distance g source u d
    pub there : i < length (edges g u)

  -- .. whose target t belongs to the next layer
  pub record WithTarget (d u i t : ℕ) : Type 0 where
    pub at : AtEdge d u i
    pub leads : edge_target g u i ≡ t
    pub next : Distance g source t (suc d)

  -- .. and has been marked
  pub record WithMark (d : ℕ) (x : Labels) (u i t : ℕ) : Type 0 where
    pub found : WithTarget d u i t
    pub marked : distance_of x t ≡ some (suc d)

  -- what a phase stands for
  abbrev pub PhaseSound : ℕ → Labels → Phase → Type 0
  PhaseSound d x free = Unit {0}
  PhaseSound d x (holding u i) = AtEdge d u i
  PhaseSound d x (in_hand u i t) = WithTarget d u i t
  PhaseSound d x (marked u i t) = WithMark d x u i t
  PhaseSound d x (named u i t) = WithMark d x u i t

  -- a worker's bags are in shape and its phase is sound
  pub record WorkerSound (d : ℕ) (x : Labels) (w : Worker) : Type 0 where
    pub input_shaped : Shaped w.input
    pub output_shaped : Shaped w.output
    pub phase_sound : PhaseSound d x w.phase

  -- workers in layer d with these labels
  pub record CrewSound (P d : ℕ) (x : Labels) (workers : List Worker) : Type 0 where
    pub crew : length workers ≡ P
    pub each : (w : ℕ) → WorkerSound d x (worker_at workers w)
    -- input bags hold vertices of this layer
    pub input_near : (v : ℕ) → 1 ≤ inputs v workers → Distance g source v d
    -- output bags hold vertices that are set for the next one
    pub output_next : (v : ℕ) → 1 ≤ outputs v workers → distance_of x v ≡ some (suc d)
    -- every edge of this layer is still to be looked at, or its target is set
    pub covered : (u i : ℕ) → Distance g source u d → i < length (edges g u) → 1 ≤ inputs u workers + ats u i workers + some_one (distance_of x (edge_target g u i))
    -- every vertex set for the next layer is in an output bag or on its way there
    pub stowed : (v : ℕ) → distance_of x v ≡ some (suc d) → 1 ≤ outputs v workers + hands v workers
    -- at most P copies
    pub few_outputs : (v : ℕ) → outputs v workers + hands v workers ≤ P
    pub few_inputs : (v : ℕ) → inputs v workers ≤ P
    -- every vertex that is set has a parent or is about to be named
    pub parented : (v : ℕ) → is_set (distance_of x v) ≡ true → 1 ≤ namings v workers + some_one (parent_of x v)

  -- the invariant of a state
  pub record Sound (P : ℕ) (s : State) : Type 0 where
    pub labels_sound : LabelsSound s.layer s.labels
    pub crew_sound : CrewSound P s.layer s.labels s.workers

  -- what one worker's move does, as far as the sums over all workers are concerned: worker x becomes y, labels a become b, in layer d
  pub record Moves (d : ℕ) (a b : Labels) (x y : Worker) : Type 0 where
    pub sound : WorkerSound d b y
    -- what is set stays as it is set
    pub keeps : (v k : ℕ) → distance_of a v ≡ some k → distance_of b v ≡ some k
    -- nothing is put into an input bag
    pub inputs_fall : (v : ℕ) → copies v y.input ≤ copies v x.input
    -- what is put into the output bag is set for the next layer
    pub outputs_set : (v : ℕ) → 1 ≤ copies v y.output → (1 ≤ copies v x.output) ⊎ (distance_of b v ≡ some (suc d))
    -- an edge that was still to be looked at still is, or its target is set
    pub edges_kept : (u i : ℕ) → i < length (edges g u)
        → copies u x.input + at_of u i x.phase ≤ copies u y.input + at_of u i y.phase + some_one (distance_of b (edge_target g u i))
    -- no copy in the output bag or in hand is lost
    pub copies_kept : (v : ℕ) → copies v x.output + hand_of v x.phase ≤ copies v y.output + hand_of v y.phase
    -- a vertex that becomes set is in this worker's hand
    pub newly_set : (v : ℕ) → distance_of a v ≡ none → is_set (distance_of b v) ≡ true → (1 ≤ hand_of v y.phase) × (1 ≤ naming_of v y.phase)
    -- a copy is added only of a vertex that is unset, to a hand
    pub copies_added : (v : ℕ) → (copies v y.output + hand_of v y.phase ≡ copies v x.output + hand_of v x.phase)
        ⊎ ((distance_of a v ≡ none) × (copies v y.output ≡ copies v x.output))
    -- a vertex with a parent, or about to be named, stays so
    pub parents_kept : (v : ℕ) → naming_of v x.phase + some_one (parent_of a v) ≤ naming_of v y.phase + some_one (parent_of b v)
        ⊎ (1 ≤ some_one (parent_of b v))

-- Demand 3, as "a single claim about the sheet's whole list of events": what is claimed of a graph, a source,
-- P workers and a schedule.
use Rattle.std.specs.Prelude.{◌≡◌, true, false, List, ℕ, suc, ◌+◌, ◌*◌, ◌≤◌, ◌<◌, length, get_or}
use Rattle.std.proofs.Math.Option.{some}
use Rattle.numbers.specs.Numbers.{max_vertices, max_workers}
use Rattle.lists.specs.Lists.{numbers_from, sum_of, reaches}
use Rattle.graph.specs.Graph.{Graph, targets_of}
use Rattle.pennant.specs.Pennant.{gap}
use Rattle.pennant.specs.Bag.{slot_count, is_empty, is_gap}
use Rattle.pennant.specs.Held.{size, copies}
use Rattle.schedule.specs.Check.{any_stray}
use Rattle.model.specs.Paths.{Distance, distance_of, parent_of, RightResult}
use Rattle.model.specs.State.{free, Worker, State, worker_at, opening_labels}
use Rattle.model.specs.Play.{play, state_at, met_at, rounds, event_bound}
use Rattle.model.specs.Serial.{Serial}
use Rattle.model.specs.Histogram.{counts_at, Counts}

-- what is asked: targets and source below n, "P 1 to 8", and a schedule of well-formed bytes;
-- each follows from acceptance by document 01
pub record Accepted (g : Graph) (source P : ℕ) (schedule : List ℕ) : Type 0 where
  pub targets_below : reaches (length g) (targets_of g) ≡ false
  pub source_below : source < length g
  pub some_worker : 1 ≤ P
  pub few_workers : P ≤ max_workers
  pub formed : any_stray P schedule ≡ false

-- A layer that opens: "it then holds what worker 0's input bag holds, and all other bags are empty". It holds
-- exactly the vertices of its distance, each 1 to P times, and all workers are free. (§7.2)
pub record LayerOpen (g : Graph) (source P : ℕ) (s : State) : Type 0 where
  -- "The devices of its distance are those whose shortest path from the source has d links": each is there ..
  pub every : (v : ℕ) → Distance g source v s.layer → 1 ≤ copies v (worker_at s.workers 0).input
  -- .. and only these are
  pub no_other : (v : ℕ) → 1 ≤ copies v (worker_at s.workers 0).input → Distance g source v s.layer
  -- each at most P times
  pub at_most : (v : ℕ) → copies v (worker_at s.workers 0).input ≤ P
  -- "all other bags are empty"
  pub inputs_empty : (w : ℕ) → 0 < w → is_empty (worker_at s.workers w).input ≡ true
  pub outputs_empty : (w : ℕ) → is_empty (worker_at s.workers w).output ≡ true
  -- all workers are free
  pub all-free : (w : ℕ) → (worker_at s.workers w).phase ≡ free

-- how many numbers all bags hold together
unfoldable pub held : List Worker → ℕ
held workers = sum_of (λ (w : Worker). size w.input + size w.output) workers

-- what holds at every moment, for the engine's lists: P workers, at most as many numbers as nodes, 16 slots are
-- enough, input bags hold vertices, each vertex has a place for a distance and for a parent, and those that are
-- set are below n
pub record Fitting (g : Graph) (P : ℕ) (s : State) : Type 0 where
  pub all_there : length s.workers ≡ P
  pub all_held : held s.workers ≤ P * length g
  pub inputs_low : length g ≤ max_vertices → (w k : ℕ) → slot_count ≤ k
      → is_gap (get_or (worker_at s.workers w).input k gap) ≡ true
  pub outputs_low : length g ≤ max_vertices → (w k : ℕ) → slot_count ≤ k
      → is_gap (get_or (worker_at s.workers w).output k gap) ≡ true
  pub inputs_below : (w v : ℕ) → 1 ≤ copies v (worker_at s.workers w).input → v < length g
  pub distances_all : length s.labels.distances ≡ length g
  pub parents_all : length s.labels.parents ≡ length g
  pub distances_below : (v d : ℕ) → distance_of s.labels v ≡ some d → d < length g
  pub parents_below : (v p : ℕ) → parent_of s.labels v ≡ some p → p < length g
  pub layer_below : s.layer < length g

-- "the finishing event": the byte at this place, which is the last one used (§6.9)
pub record Finisher (g : Graph) (source P : ℕ) (schedule : List ℕ) (used : ℕ) : Type 0 where
  pub place : ℕ
  pub last_used : used ≡ suc place
  pub before : (state_at g source P schedule place).finished ≡ false
  pub after : (state_at g source P schedule (suc place)).finished ≡ true

-- the claim, over the places 0, 1, .. of the one schedule: the state after k bytes is `state_at g source P schedule k`
pub record Demand (g : Graph) (source P : ℕ) (schedule : List ℕ) : Type 0 where
  -- (a) (§7.2) "A layer opens at the start ..
  pub first_layer : LayerOpen g source P (state_at g source P schedule 0)
  -- .. and at each close that raises d"
  pub each_layer : (k : ℕ) → k < length schedule
      → ((state_at g source P schedule (suc k)).layer ≡ (state_at g source P schedule k).layer → ⊥)
      → LayerOpen g source P (state_at g source P schedule (suc k))
  -- (b) "Written distances are final at any moment of a run." What is written after any number of bytes is the
  -- graph's distance .. (§7.3)
  pub final : (k v d : ℕ) → distance_of (state_at g source P schedule k).labels v ≡ some d → Distance g source v d
  -- .. and each byte leaves it as it is written (§7.3)
  pub stays : (k v d : ℕ) → k < length schedule → distance_of (state_at g source P schedule k).labels v ≡ some d
      → distance_of (state_at g source P schedule (suc k)).labels v ≡ some d
  -- (c) "Their count is at most P × (6 × n + m) + n" .. (§7.4)
  pub bounded : (play g source P schedule).effective ≤ event_bound g P
  -- .. and below it while the search isn't finished (§7.4)
  pub below : (play g source P schedule).state.finished ≡ false → (play g source P schedule).effective < event_bound g P
  -- (d) as many full rounds as the bound, wherever they stand, finish the search (§7.5)
  pub enough_rounds : event_bound g P ≤ rounds P schedule → (play g source P schedule).state.finished ≡ true
  -- (e) the result of a finished search is right (§7.6)
  pub right_result : (play g source P schedule).state.finished ≡ true
      → RightResult g source (play g source P schedule).state.labels
  -- (f) a finished run ends as a link-by-link run does, with some order of each layer's links (§7.8)
  pub link_by_link : (play g source P schedule).state.finished ≡ true
      → Serial g 0 (opening_labels (length g) source) (play g source P schedule).state.labels
  -- "The effective events reported are the number of used bytes whose condition, by that table, was met at their turn."
  -- (§6.9)
  pub counted : (play g source P schedule).effective
      ≡ sum_of (met_at g source P schedule) (numbers_from 0 (play g source P schedule).used)
  -- "Events used are the bytes up to and with the finishing one, with 21 all of them." (§6.9)
  pub used_spent : (play g source P schedule).state.finished ≡ false → (play g source P schedule).used ≡ length schedule
  pub used_finished : (play g source P schedule).state.finished ≡ true
      → Finisher g source P schedule (play g source P schedule).used
  -- (g) the counts as they are kept: "It must equal a recount of the distance list after each event", and what they
  -- tell (§7.9)
  pub counts_told : (k : ℕ) → Counts (state_at g source P schedule k).labels.distances
      (state_at g source P schedule k).layer (counts_at g source P schedule k)
  -- for the engine's lists, at every moment
  pub fitting : (k : ℕ) → Fitting g P (state_at g source P schedule k)

-- A run before each byte: what holds there (Going, the loop's invariant), and that it holds one byte later if the engine's lists, bags and phases
-- stand for what the table says.
use mathlib.Core.Path.{◌≡◌, refl, sym, ap, ap₂, subst, ◌∙◌}
use mathlib.Core.List.{List, map}
use mathlib.Core.Option.{Option, none, some}
use Prim.Native.Nat.{ℕ, suc, ◌+◌, ◌*◌, ◌≤◌, ◌<◌}
use native.Mathlib.Numerals.{add-one}
use native.Mathlib.Nat.{add-zero, mul-le-mul, le-pred_of_lt}
use mir.Syntax.{w64}
use mir.Val.{Fits}
use native.Mathlib.Omega.{arith}
use lib.ListN.{length, get_or, take, length-map}
use lib.Seq.{length-take-le, get_or-take}
use Rattle.numbers.specs.Numbers.{max_workers, max_events}
use Rattle.lists.specs.Lists.{sum_of, some_one}
use Rattle.lists.proofs.Replaced.{map_at}
use Rattle.graph.specs.Graph.{Graph, rows_of}
use Rattle.graph.specs.Steps.{GraphRows}
use Rattle.pennant.specs.Bag.{Bag, empty_bag}
use Rattle.pennant.specs.Held.{size, one}
use Rattle.bag.specs.declared.Bag as declared
use Rattle.bag.specs.Nodes.{held_by, past_bag}
use Rattle.bag.specs.Promises.{Pooled, Moved, weigh_nodes, weigh_free}
use Rattle.bag.proofs.Family.{moved_pool}
use Rattle.schedule.specs.Events.{event_of}
use Rattle.schedule.specs.declared.Event.{Event}
use Rattle.schedule.specs.declared.Event.TheVariants.{Malformed}
use Rattle.schedule.proofs.Schedules.{stray_at}
use Rattle.schedule.proofs.Bytes.{Staffed, byte_staffed}
use Rattle.model.specs.State as model
use Rattle.model.specs.Table.{act}
use Rattle.model.specs.Play.{Run, tally, step, play, state_at}
use Rattle.model.specs.Call.{node_places}
use Rattle.model.specs.Paths.{distance_of}
use Rattle.model.specs.Words.{option_of}
use Rattle.model.specs.Histogram.{recount}
use Rattle.model.specs.Demand.{Accepted, Fitting}
use Rattle.model.proofs.HistogramFacts.{recount_long}
use Rattle.model.proofs.Theorem.{demand_holds}
use Rattle.model.proofs.Used.{play_more}
use Rattle.workers.specs.declared.Phase.{Phase}
use Rattle.workers.specs.declared.Phase.TheVariants.{Free}
use Rattle.workers.specs.Shown.{phase_of, workers_of, state_of}
use Rattle.workers.specs.Steps.{InRows, held_of}
use Rattle.workers.proofs.BagsFacts.{bags_of, Enough}
use Rattle.workers.proofs.CrewFacts.{Even, crew_at}

-- what is there, or else the other
unfoldable pub or_else : {A : Type 0} → Option A → A → A
or_else none a = a
or_else (some x) a = x

-- What a run is given.

-- source, number of workers, schedule and rows, and how long the lists are; none of it changes
pub record Given : Type 0 where
  pub source : ℕ
  pub workers : ℕ
  pub schedule : List ℕ
  pub offsets : List ℕ
  pub targets : List ℕ
  pub vertices : ℕ
  pub left_long : ℕ
  pub right_long : ℕ
  pub values_long : ℕ

-- the graph
abbrev pub graph : Given → Graph
graph g = rows_of g.offsets g.targets

-- what holds of it
pub record Ready (g : Given) : Type 0 where
  pub rows : GraphRows g.offsets g.targets g.vertices
  pub accepted : Accepted (graph g) g.source g.workers g.schedule
  pub few_events : length g.schedule ≤ max_events
  pub nodes : g.left_long ≡ node_places g.vertices g.workers
  pub wide : g.left_long ≤ g.right_long
  pub numbered : g.left_long ≤ g.values_long

-- Before each byte.

-- the workers that the engine's bags and phases stand for
abbrev pub crew : Given → List ℕ → List ℕ → List ℕ → List declared.Bag → List declared.Bag → List Phase → List model.Worker
crew g left right values inputs outputs phases =
    workers_of g.offsets left right values (take g.workers inputs) (take g.workers outputs) (take g.workers phases)

-- lists of the lengths given, and eight bags, eight bags, eight phases
pub record Long (g : Given) (distances parents left right values : List ℕ) (inputs outputs : List declared.Bag) (phases : List Phase) : Type 0 where
  pub distances_long : length distances ≡ g.vertices
  pub parents_long : length parents ≡ g.vertices
  pub left_long : length left ≡ g.left_long
  pub right_long : length right ≡ g.right_long
  pub values_long : length values ≡ g.values_long
  pub inputs_long : length inputs ≡ max_workers
  pub outputs_long : length outputs ≡ max_workers
  pub phases_long : length phases ≡ max_workers

-- the engine's values before a byte are those of the model's run over the bytes so far, and its lists are in order
pub record Going (g : Given) (distances parents histogram left right values : List ℕ) (inputs outputs : List declared.Bag) (phases : List Phase)
    (pending found used effective layer : ℕ) : Type 0 where
  pub ready : Ready g
  pub long : Long g distances parents left right values inputs outputs phases
  pub within : used ≤ length g.schedule
  pub same : play (graph g) g.source g.workers (take used g.schedule)
      ≡ record { state = state_of distances parents (crew g left right values inputs outputs phases) layer; used = used; effective = effective }
  pub counted : effective ≤ used
  pub pool : Pooled left right (bags_of g.workers inputs outputs)
  pub whole : weigh_nodes one left right (bags_of g.workers inputs outputs) + weigh_free one left ≡ g.workers * g.vertices
  pub in_rows : (w : ℕ) → w < g.workers → InRows g.offsets g.vertices (get_or phases w Free)
  -- the counts are a recount of the distances
  pub recounted : histogram ≡ recount (map option_of distances)
  -- so many numbers are in the input bags, and workers hold a vertex
  pub waiting : pending ≡ sum_of size (map (held_by left right values) (take g.workers inputs)) + sum_of held_of (take g.workers phases)
  -- so many numbers are in the output bags
  pub stowed : found ≡ sum_of size (map (held_by left right values) (take g.workers outputs))

-- and the next byte says e
pub record Turn (g : Given) (distances parents histogram left right values : List ℕ) (inputs outputs : List declared.Bag) (phases : List Phase)
    (pending found used effective layer : ℕ) (e : Event) : Type 0 where
  pub going : Going g distances parents histogram left right values inputs outputs phases pending found used effective layer
  pub below : used < length g.schedule
  pub event : event_of (get_or g.schedule used 0) ≡ e

module _ {g : Given} {distances parents histogram left right values : List ℕ} {inputs outputs : List declared.Bag} {phases : List Phase} {pending found used effective layer : ℕ} where
  module _ (at : Going g distances parents histogram left right values inputs outputs phases pending found used effective layer) where
    -- the number of workers
    abbrev pub P : ℕ
    P = g.workers

    pub some_worker : 1 ≤ P
    some_worker = at.ready.accepted.some_worker

    pub few_workers : P ≤ max_workers
    few_workers = at.ready.accepted.few_workers

    -- a worker that is there is one of eight
    pub placed : {w : ℕ} → w < P → w < 8
    placed here = omega (arith, few_workers)

    -- the model's state
    abbrev pub now_state : model.State
    now_state = state_of distances parents (crew g left right values inputs outputs phases) layer

    -- as many bags
    pub enough : Enough P inputs outputs
    enough = record {
      inputs_there = omega (arith, few_workers, at.long.inputs_long);
      outputs_there = omega (arith, few_workers, at.long.outputs_long);
    }

    -- and phases
    pub phases_there : P ≤ length phases
    phases_there = omega (arith, few_workers, at.long.phases_long)

    -- what they stand for
    abbrev pub held_inputs : List Bag
    held_inputs = map (held_by left right values) (take P inputs)

    abbrev pub held_outputs : List Bag
    held_outputs = map (held_by left right values) (take P outputs)

    abbrev pub shown_phases : List model.Phase
    shown_phases = map (phase_of g.offsets) (take P phases)

    -- of each as many
    pub even : Even P held_inputs held_outputs shown_phases
    even = record {
      inputs_long = length-map (take P inputs) (held_by left right values) ∙ length-take-le P inputs enough.inputs_there;
      outputs_long = length-map (take P outputs) (held_by left right values) ∙ length-take-le P outputs enough.outputs_there;
      phases_long = length-map (take P phases) (phase_of g.offsets) ∙ length-take-le P phases phases_there;
    }

    -- one of each
    module _ (w : ℕ) (here : w < P) where
      pub input_shown : get_or held_inputs w empty_bag ≡ held_by left right values (get_or inputs w past_bag)
      input_shown =
          map_at (held_by left right values) (take P inputs) w past_bag empty_bag (omega (arith, length-take-le P inputs enough.inputs_there))
          ∙ ap (held_by left right values) (get_or-take P inputs w past_bag here)

      pub output_shown : get_or held_outputs w empty_bag ≡ held_by left right values (get_or outputs w past_bag)
      output_shown =
          map_at (held_by left right values) (take P outputs) w past_bag empty_bag (omega (arith, length-take-le P outputs enough.outputs_there))
          ∙ ap (held_by left right values) (get_or-take P outputs w past_bag here)

      pub phase_shown : get_or shown_phases w model.free ≡ phase_of g.offsets (get_or phases w Free)
      phase_shown =
          map_at (phase_of g.offsets) (take P phases) w Free model.free (omega (arith, length-take-le P phases phases_there))
          ∙ ap (phase_of g.offsets) (get_or-take P phases w Free here)

      -- the worker
      pub worker_shown : model.worker_at (crew g left right values inputs outputs phases) w
          ≡ model.worker_with (held_by left right values (get_or inputs w past_bag)) (held_by left right values (get_or outputs w past_bag))
          (phase_of g.offsets (get_or phases w Free))
      worker_shown = rw (← input_shown, ← output_shown, ← phase_shown) (crew_at held_inputs held_outputs shown_phases w even)

    -- the state fits the engine's lists
    pub now_fits : Fitting (graph g) P now_state
    unfolding state_at
    now_fits = subst (λ (r : Run). Fitting (graph g) P r.state) at.same ((demand_holds at.ready.accepted).fitting used)

    -- there are n counts
    pub counts_long : length histogram ≡ g.vertices
    counts_long = ap length at.recounted ∙ recount_long (map option_of distances) ∙ length-map distances option_of ∙ at.long.distances_long

    -- the layer is below n
    pub layer_low : layer < g.vertices
    unfolding state_of
    layer_low = omega (arith, now_fits.layer_below, at.ready.rows.count)

    -- the next one fits 16 bits
    pub layer_fits : layer + 1 < 65536
    layer_fits = omega (arith, layer_low, at.ready.rows.few-vertices)

    -- a byte more is counted in a word
    pub used_fits : used < length g.schedule → used + 1 < 18446744073709551616
    used_fits below = omega (arith, at.ready.few_events)

  module _ {e : Event} (turn : Turn g distances parents histogram left right values inputs outputs phases pending found used effective layer e) where
    -- what holds before the byte
    abbrev at : Going g distances parents histogram left right values inputs outputs phases pending found used effective layer
    at = turn.going

    -- the run so far
    abbrev run : Run
    run = record { state = now_state at; used = used; effective = effective }

    -- one byte more
    step_run : play (graph g) g.source g.workers (take (used + 1) g.schedule) ≡ tally run (act (graph g) (now_state at) e)
    unfolding step state_of
    step_run =
        ap (λ (k : ℕ). play (graph g) g.source g.workers (take k g.schedule)) (add-one used)
        ∙ play_more (graph g) g.source g.workers g.schedule used turn.below
        ∙ ap (λ (r : Run). step (graph g) r (get_or g.schedule used 0)) at.same
        ∙ ap (λ (x : Event). tally run (act (graph g) (now_state at) x)) turn.event

    -- the state after it, and whether it counts
    pub next_run : play (graph g) g.source g.workers (take (used + 1) g.schedule)
        ≡ record {
          state = or_else (act (graph g) (now_state at) e) (now_state at);
          used = used + 1;
          effective = effective + some_one (act (graph g) (now_state at) e);
        }
    unfolding tally or_else
    next_run = step_run ∙ tallied (act (graph g) (now_state at) e)
      where
        tallied : (o : Option model.State)
            → tally run o ≡ record { state = or_else o (now_state at); used = used + 1; effective = effective + some_one o }
        tallied none = ap₂ (λ (k j : ℕ). record { state = now_state at; used = k; effective = j }) (sym (add-one used)) (sym (add-zero effective))
        tallied (some s) = ap₂ (λ (k j : ℕ). record { state = s; used = k; effective = j }) (sym (add-one used)) (sym (add-one effective))

    -- it leaves a state that fits
    pub next_fits : Fitting (graph g) g.workers (or_else (act (graph g) (now_state at) e) (now_state at))
    unfolding state_at
    next_fits = subst (λ (r : Run). Fitting (graph g) g.workers r.state) next_run ((demand_holds at.ready.accepted).fitting (used + 1))

    -- and keeps every distance that is set
    pub next_stays : (v k : ℕ) → distance_of (now_state at).labels v ≡ some k
        → distance_of (or_else (act (graph g) (now_state at) e) (now_state at)).labels v ≡ some k
    unfolding state_at
    next_stays v k set =
        let Same : Run → Type 0 = λ r. distance_of r.state.labels v ≡ some k in
        let after = (demand_holds at.ready.accepted).stays used v k turn.below (subst Same (sym at.same) set) in
        subst Same (sym step_again ∙ next_run) after
      where
        -- the same number of bytes
        step_again : play (graph g) g.source g.workers (take (used + 1) g.schedule)
            ≡ play (graph g) g.source g.workers (take (suc used) g.schedule)
        step_again = ap (λ (k : ℕ). play (graph g) g.source g.workers (take k g.schedule)) (add-one used)

    -- it is counted in a word if it is effective
    pub effective_fits : effective + 1 < 18446744073709551616
    effective_fits = omega (arith, at.ready.few_events, turn.below, at.counted)

    -- its workers are there
    pub staffed : Staffed g.workers e
    staffed = byte_staffed g.workers (get_or g.schedule used 0) e turn.event
        (rw turn.event at (stray_at g.workers used g.schedule at.ready.accepted.formed turn.below))

    -- after it the engine is where the model is, if the table has a state for it
    pub play_on : {distances' parents' histogram' left' right' values' : List ℕ} {inputs' outputs' : List declared.Bag} {phases' : List Phase} {pending' found' layer' : ℕ}
        {after : model.State}
        → Long g distances' parents' left' right' values' inputs' outputs' phases'
        → histogram' ≡ recount (map option_of distances')
        → Moved left right (bags_of g.workers inputs outputs) left' right' (bags_of g.workers inputs' outputs')
        → ((w : ℕ) → w < g.workers → InRows g.offsets g.vertices (get_or phases' w Free))
        → pending' ≡ sum_of size (map (held_by left' right' values') (take g.workers inputs')) + sum_of held_of (take g.workers phases')
        → found' ≡ sum_of size (map (held_by left' right' values') (take g.workers outputs'))
        → act (graph g) (now_state at) e ≡ some after
        → state_of distances' parents' (crew g left' right' values' inputs' outputs' phases') layer' ≡ after
        → Going g distances' parents' histogram' left' right' values' inputs' outputs' phases' pending' found' (used + 1) (effective + 1) layer'
    unfolding or_else
    play_on long recounted moved in_rows waiting stowed made same = record {
      ready = at.ready;
      long = long;
      within = omega (arith, turn.below);
      same = next_run ∙ rw (made, same) refl;
      counted = omega (arith, at.counted);
      pool = moved_pool at.pool moved;
      whole = moved.nodes one ∙ at.whole;
      in_rows = in_rows;
      recounted = recounted;
      waiting = waiting;
      stowed = stowed;
    }

    -- after one whose condition isn't met it is where it was
    pub unmet_on : act (graph g) (now_state at) e ≡ none
        → Going g distances parents histogram left right values inputs outputs phases pending found (used + 1) effective layer
    unfolding or_else
    unmet_on unmet = record {
      ready = at.ready;
      long = at.long;
      within = omega (arith, turn.below);
      same = next_run ∙ rw unmet (ap (λ (k : ℕ). record { state = now_state at; used = used + 1; effective = k }) (add-zero effective));
      counted = omega (arith, at.counted);
      pool = at.pool;
      whole = at.whole;
      in_rows = at.in_rows;
      recounted = at.recounted;
      waiting = at.waiting;
      stowed = at.stowed;
    }

  -- a byte of no form
  pub malformed_on : Turn g distances parents histogram left right values inputs outputs phases pending found used effective layer Malformed
      → Going g distances parents histogram left right values inputs outputs phases pending found (used + 1) effective layer
  unfolding act
  malformed_on turn = unmet_on turn refl

-- a turn, by what was decoded
pub turn_of : {g : Given} {distances parents histogram left right values : List ℕ} {inputs outputs : List declared.Bag} {phases : List Phase}
    {pending found used effective layer : ℕ} {said e : Event} → Going g distances parents histogram left right values inputs outputs phases pending found used effective layer
    → used < length g.schedule → said ≡ event_of (get_or g.schedule used 0) → said ≡ e
    → Turn g distances parents histogram left right values inputs outputs phases pending found used effective layer e
turn_of going below decoded told = record { going = going; below = below; event = sym decoded ∙ told }

-- a place of eight, as bytes of so many each
pub place_fits : {w : ℕ} (k : ℕ) → w < 8 → k ≤ 4096 → Fits w64 (w * k)
place_fits k here few = record { fits = omega (arith, mul-le-mul (le-pred_of_lt here) few) }

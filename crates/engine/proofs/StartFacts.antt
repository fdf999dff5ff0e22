-- A run before its first byte: what the opening takes for granted, and that the engine is where the model is.
use mathlib.Core.Path.{◌≡◌, refl, sym, ap, ap₂, ◌∙◌}
use mathlib.Core.Bool.{false}
use mathlib.Core.List.{List, [], ◌∷◌}
use Prim.Native.Nat.{ℕ, ◌*◌, ◌≤◌, ◌<◌}
use native.Mathlib.Omega.{arith}
use lib.ListN.{length, set, replicate}
use Rattle.numbers.specs.Numbers.{max_workers}
use Rattle.pennant.specs.Bag.{Bag, empty_bag}
use Rattle.pennant.specs.Held.{size, one}
use Rattle.pennant.proofs.Laws.{weigh_insert, weigh_empty}
use Rattle.bag.specs.declared.Bag as declared
use Rattle.bag.specs.Nodes.{new_bag}
use Rattle.bag.specs.Promises.{Moved}
use Rattle.bag.proofs.Family.{moved_pool}
use Rattle.bag.proofs.HeldFacts.{held_none}
use Rattle.model.specs.Paths.{Labels}
use Rattle.model.specs.State as model
use Rattle.model.specs.State.{opening_state}
use Rattle.model.specs.Play.{play_from, play}
use Rattle.model.specs.Call.{node_places}
use Rattle.opening.specs.Opening.{FirstLayer}
use Rattle.workers.specs.declared.Phase.{Phase}
use Rattle.workers.specs.Shown.{state_of}
use Rattle.workers.specs.Steps.{first_of_eight, all_free}
use Rattle.workers.proofs.BagsFacts.{bags_of}
use Rattle.workers.proofs.OpenedFacts.{opened_workers, opened_moved, opened_size, opened_unheld, opened_free}
use Rattle.engine.specs.Runs.{Runnable}
use Rattle.engine.proofs.PlayingFacts.{Given, Ready, Going}

-- what a run is given, with lists as the opening leaves them
abbrev pub given_by : ℕ → ℕ → List ℕ → List ℕ → List ℕ → List ℕ → List ℕ → List ℕ → List ℕ → Given
given_by source workers schedule offsets targets distances left right values = record {
  source = source;
  workers = workers;
  schedule = schedule;
  offsets = offsets;
  targets = targets;
  vertices = length distances;
  left_long = length left;
  right_long = length right;
  values_long = length values;
}

-- the lists keep their lengths
pub record SameLengths (distances parents histogram left right values distances' parents' histogram' left' right' values' : List ℕ) : Type 0 where
  pub of_distances : length distances' ≡ length distances
  pub of_parents : length parents' ≡ length parents
  pub of_histogram : length histogram' ≡ length histogram
  pub of_left : length left' ≡ length left
  pub of_right : length right' ≡ length right
  pub of_values : length values' ≡ length values

module _ {source P : ℕ} {schedule offsets targets distances parents histogram left right values : List ℕ}
    (runnable : Runnable source P schedule offsets targets distances parents histogram left right values) where
  -- the source is a vertex
  pub source_there : source < length distances
  source_there = omega (arith, runnable.accepted.source_below, runnable.rows.count)

  module _ {distances' parents' histogram' left' right' values' : List ℕ} (same : SameLengths distances parents histogram left right values distances' parents' histogram' left' right' values') where
    -- the run may go on with them
    start_ready : Ready (given_by source P schedule offsets targets distances' left' right' values')
    start_ready = record {
      rows = rw same.of_distances runnable.rows;
      accepted = runnable.accepted;
      few_events = runnable.few_events;
      nodes = same.of_left ∙ runnable.sized.nodes ∙ ap (λ (k : ℕ). node_places k P) (sym same.of_distances);
      wide = omega (arith, runnable.sized.wide, same.of_left, same.of_right);
      numbered = omega (arith, runnable.sized.numbered, same.of_left, same.of_values);
    }

    -- the opened lists, bags and phases are those of the model's opening
    pub start_on : {b none : declared.Bag} {inputs outputs : List declared.Bag} {phases : List Phase}
        → FirstLayer P source distances distances' parents' histogram' left' right' values' b
        → inputs ≡ first_of_eight b → none ≡ new_bag → outputs ≡ first_of_eight none → phases ≡ all_free
        → Going (given_by source P schedule offsets targets distances' left' right' values') distances' parents' histogram' left' right' values' inputs outputs phases 1 0 0 0 0
    unfolding play play_from state_of opening_state
    start_on {b} opened first new bare free = rw (first, bare, new, free) (record {
      ready = start_ready;
      long = record {
        distances_long = refl;
        parents_long = omega (arith, runnable.sized.parents_all, same.of_parents, same.of_distances);
        left_long = refl;
        right_long = refl;
        values_long = refl;
        inputs_long = refl;
        outputs_long = refl;
        phases_long = refl;
      };
      within = omega arith;
      same =
          ap₂
          (λ (x : Labels) (ws : List model.Worker).
          record { state = record { labels = x; workers = ws; layer = 0; finished = false }; used = 0; effective = 0 })
          (ap (λ (k : ℕ). model.opening_labels k source) runnable.rows.count ∙ sym opened.labels)
          (ap (λ (x : Bag). set (replicate P model.idle_worker) 0 (model.worker_with x empty_bag model.free)) (sym opened.held)
          ∙ sym (opened_workers P some_worker few_workers offsets left' right' values' b));
      counted = omega arith;
      pool = moved_pool opened.pool moved;
      whole = moved.nodes one ∙ opened.whole ∙ ap (λ (k : ℕ). P * k) (sym same.of_distances);
      in_rows = λ w here. rw (opened_free w) tt;
      recounted = opened.counts;
      waiting = omega (
        arith,
        opened_size P some_worker few_workers left' right' values' b,
        ap size opened.held,
        weigh_insert one source empty_bag,
        weigh_empty one,
        opened_unheld P some_worker few_workers,
      );
      stowed = omega (arith, opened_size P some_worker few_workers left' right' values' new_bag, ap size (held_none left' right' values'), weigh_empty one);
    })
      where
        some_worker : 1 ≤ P
        some_worker = runnable.accepted.some_worker

        few_workers : P ≤ max_workers
        few_workers = runnable.accepted.few_workers

        moved : Moved left' right' (b ∷ []) left' right' (bags_of P (first_of_eight b) (first_of_eight new_bag))
        moved = opened_moved P some_worker few_workers opened.pool.formed.0

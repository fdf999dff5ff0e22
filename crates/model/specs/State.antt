-- The state that a schedule plays on: distances and parents, workers with their two bags and phase, the layer.
use Rattle.std.specs.Prelude.{Bool, false, List, ℕ, get_or, set, replicate}
use Rattle.std.proofs.Math.Option.{none, some}
use Rattle.pennant.specs.Bag.{Bag, empty_bag, bag_insert}
use Rattle.model.specs.Paths.{Labels}

-- "A worker is free, holds a device with a link to look at, or is partway through a link": u, the place of the
-- link in u's row, and its target (§6.3)
pub data Phase : Type 0 where
  free : Phase
  holding : (u i : ℕ) → Phase
  in_hand : (u i t : ℕ) → Phase
  marked : (u i t : ℕ) → Phase
  named : (u i t : ℕ) → Phase

-- a worker's input bag, output bag and phase (§6.1)
pub record Worker : Type 0 where
  pub input : Bag
  pub output : Bag
  pub phase : Phase

-- the worker with these
abbrev pub worker_with : Bag → Bag → Phase → Worker
worker_with input output phase = record { input = input; output = output; phase = phase }

-- "all workers are free, all other bags empty" (§6.2)
abbrev pub idle_worker : Worker
idle_worker = worker_with empty_bag empty_bag free

-- the whole state: `layer` is document 01's d (§6.1)
pub record State : Type 0 where
  pub labels : Labels
  pub workers : List Worker
  pub layer : ℕ
  pub finished : Bool

-- worker w
abbrev pub worker_at : List Worker → ℕ → Worker
worker_at workers w = get_or workers w idle_worker

-- "The source starts with distance 0, itself as parent .. All else is unset" (§6.2)
unfoldable pub opening_labels : ℕ → ℕ → Labels
opening_labels n source = record {
  distances = set (replicate n none) source (some 0);
  parents = set (replicate n none) source (some source);
}

-- ".. alone in worker 0's input bag, layer d = 0" (§6.2)
unfoldable pub opening_state : ℕ → ℕ → ℕ → State
opening_state n source P = record {
  labels = opening_labels n source;
  workers = set (replicate P idle_worker) 0 (worker_with (bag_insert source empty_bag) empty_bag free);
  layer = 0;
  finished = false;
}

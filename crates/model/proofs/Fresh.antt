-- A crew that is idle but for worker 0's input bag, as every layer starts. If that bag holds the layer, the crew is sound and the layer is open.
use mathlib.Core.Path.{◌≡◌, refl, ◌∙◌}
use mathlib.Core.Bool.{Bool, true}
use mathlib.Core.List.{List}
use mathlib.Core.Option.{some}
use Prim.Native.Nat.{ℕ, suc, ◌≤◌, ◌<◌}
use native.Mathlib.Omega.{arith}
use lib.ListN.{length, set, length-set}
use lib.Seq.{get_or-set_same, get_or-set_other}
use Rattle.lists.specs.Lists.{sum_of, some_one}
use Rattle.lists.proofs.Sums.{sum_none, sum_first}
use Rattle.lists.proofs.Replaced.{each_set}
use Rattle.graph.specs.Graph.{Graph}
use Rattle.pennant.specs.Bag.{Bag, empty_bag, is_empty}
use Rattle.pennant.specs.Held.{only, copies, Shaped}
use Rattle.pennant.proofs.Laws.{empty_bag_lem, empty_weighs, shaped_empty}
use Rattle.model.specs.Paths.{Distance, Labels, distance_of, parent_of, is_set}
use Rattle.model.specs.State.{Phase, free, Worker, worker_with, idle_worker, worker_at}
use Rattle.model.specs.Demand.{LayerOpen}
use Rattle.model.proofs.Counts.{hand_of, inputs}
use Rattle.model.proofs.Workers.{Idle, idle-worker}
use Rattle.model.proofs.Sound.{WorkerSound, CrewSound}

-- Workers.

-- an idle worker whose output bag is empty too, both bags in shape
pub record Spare (w : Worker) : Type 0 where
  pub idle : Idle w
  pub output_empty : is_empty w.output ≡ true
  pub input_shaped : Shaped w.input
  pub output_shaped : Shaped w.output

-- a worker with two empty bags
pub spare_idle : Spare idle_worker
spare_idle = record {
  idle = idle-worker;
  output_empty = empty_bag_lem;
  input_shaped = shaped_empty;
  output_shaped = shaped_empty;
}

-- workers whose bags of one kind are all empty hold no copy of a vertex in them
pub no_copies : (bagOf : Worker → Bag) (workers : List Worker) → ((w : ℕ) → is_empty (bagOf (worker_at workers w)) ≡ true)
    → (v : ℕ) → sum_of (λ (w : Worker). copies v (bagOf w)) workers ≡ 0
no_copies bagOf workers empty v =
    sum_none (λ (w : Worker). copies v (bagOf w)) idle_worker workers (λ w. empty_weighs (only v) (bagOf (worker_at workers w)) (empty w))

-- workers that are all free
module _ (workers : List Worker) (all-free : (w : ℕ) → (worker_at workers w).phase ≡ free) where
  -- weigh nothing, if a free one does
  pub none_busy : (f : Phase → ℕ) → f free ≡ 0 → sum_of (λ (w : Worker). f w.phase) workers ≡ 0
  none_busy f z = sum_none (λ (w : Worker). f w.phase) idle_worker workers (λ w. rw (all-free w) z)

-- The start of a layer.

-- a bag in shape that holds exactly the vertices of distance d, each 1 to P times
pub record LayerBag (g : Graph) (source P d : ℕ) (bag : Bag) : Type 0 where
  pub every : (v : ℕ) → Distance g source v d → 1 ≤ copies v bag
  pub no_other : (v : ℕ) → 1 ≤ copies v bag → Distance g source v d
  pub at_most : (v : ℕ) → copies v bag ≤ P
  pub shaped : Shaped bag

-- P spare workers, at least one
pub record SpareCrew (P : ℕ) (workers : List Worker) : Type 0 where
  pub some_worker : 1 ≤ P
  pub crew : length workers ≡ P
  pub each : (w : ℕ) → Spare (worker_at workers w)

-- spare workers, the first of whom gets such a bag
module _ {g : Graph} {source P d : ℕ} {spares : List Worker} {bag : Bag} (spare : SpareCrew P spares) (holds : LayerBag g source P d bag) where
  -- the worker that gets it
  abbrev filled : Worker
  filled = worker_with bag empty_bag free

  -- the crew then
  abbrev fresh : List Worker
  fresh = set spares 0 filled

  -- there is a first worker
  some_spare : 0 < length spares
  some_spare = omega (arith, spare.some_worker, spare.crew)

  -- what holds of that worker and of every spare one holds of the crew
  each_fresh : (Q : Worker → Type 0) → Q filled → ((w : ℕ) → Q (worker_at spares w)) → (w : ℕ) → Q (worker_at fresh w)
  each_fresh Q new old = each_set Q spares 0 filled idle_worker new old

  -- output bags are empty
  fresh_outputs : (w : ℕ) → is_empty (worker_at fresh w).output ≡ true
  fresh_outputs = each_fresh (λ w. is_empty w.output ≡ true) empty_bag_lem (λ w. (spare.each w).output_empty)

  -- all are free
  fresh_free : (w : ℕ) → (worker_at fresh w).phase ≡ free
  fresh_free = each_fresh (λ w. w.phase ≡ free) refl (λ w. (spare.each w).idle.phase_free)

  -- input bags hold what the bag holds
  fresh_inputs : (v : ℕ) → inputs v fresh ≡ copies v bag
  fresh_inputs v = sum_first (λ (w : Worker). copies v w.input) idle_worker spares filled some_spare
      (λ w. empty_weighs (only v) (worker_at spares w).input (spare.each w).idle.input_empty)

  -- the crew is sound, if no vertex is set for the next layer yet and each that is set has a parent
  pub fresh_sound : {x : Labels} → ((v : ℕ) → distance_of x v ≡ some (suc d) → ⊥)
      → ((v : ℕ) → is_set (distance_of x v) ≡ true → 1 ≤ some_one (parent_of x v)) → CrewSound g source P d x fresh
  fresh_sound {x} none-next parented = record {
    crew = length-set spares 0 filled ∙ spare.crew;
    each = each_fresh (WorkerSound g source d x)
        (record { input_shaped = holds.shaped; output_shaped = shaped_empty; phase_sound = tt })
        (λ w. let old = spare.each w in
        record { input_shaped = old.input_shaped; output_shaped = old.output_shaped; phase_sound = rw old.idle.phase_free tt });
    input_near = λ v h. holds.no_other v (omega (arith, fresh_inputs v));
    output_next = λ v h. absurd (omega (arith, no_copies (λ w. w.output) fresh fresh_outputs v));
    covered = λ u i far there. omega (arith, fresh_inputs u, holds.every u far);
    stowed = λ v e. absurd (none-next v e);
    few_outputs = λ v. omega (arith, no_copies (λ w. w.output) fresh fresh_outputs v, none_busy fresh fresh_free (hand_of v) refl);
    few_inputs = λ v. omega (arith, fresh_inputs v, holds.at_most v);
    parented = λ v e. omega (arith, parented v e);
  }

  -- and the layer is open
  pub fresh_opens : (x : Labels) (finished : Bool) → LayerOpen g source P (record { labels = x; workers = fresh; layer = d; finished = finished })
  fresh_opens x finished = let first = get_or-set_same spares 0 filled idle_worker some_spare in record {
    every = λ v far. rw first (holds.every v far);
    no_other = λ v h. holds.no_other v (rw first at h);
    at_most = λ v. rw first (holds.at_most v);
    inputs_empty = λ w h. rw (get_or-set_other spares 0 w filled idle_worker (λ e. omega arith)) (spare.each w).idle.input_empty;
    outputs_empty = fresh_outputs;
    all-free = fresh_free;
  }

-- Facts about workers: one that goes to an edge, one that is idle, all of them idle, bags united one after another; and what an effective event
-- tells: its condition, and the state after it.
use mathlib.Core.Path.{◌≡◌, refl, sym}
use mathlib.Core.Bool.{Bool, true, false, cond, not, ◌&&◌, and-eq-true_iff, true≢false}
use mathlib.Core.List.{List, [], ◌∷◌, map, foldl}
use mathlib.Core.Option.{Option, none, some, none-ne-some, some-injective}
use Prim.Native.Nat.{ℕ, zero, suc, ◌+◌, ◌≤◌, ◌<◌}
use native.Mathlib.Omega.{arith}
use lib.Dec.{ltb}
use lib.ListN.{length, get_or}
use borrow.Author.Tests.{ltb-true, ltb-false, not-true}
use Rattle.lists.specs.Lists.{sum_of}
use Rattle.graph.specs.Graph.{Graph, edges}
use Rattle.pennant.specs.Bag.{Bag, bag_union, is_empty, at_least_two}
use Rattle.pennant.specs.Held.{weigh, Shaped}
use Rattle.pennant.proofs.Laws.{weigh_union, empty_bag_lem, shaped_union}
use Rattle.schedule.specs.declared.Event.TheVariants.{Work, Split, Unite, Close}
use Rattle.model.specs.Paths.{Labels}
use Rattle.model.specs.State.{Phase, free, holding, in_hand, marked, named, Worker, idle_worker, State, worker_at}
use Rattle.model.specs.Table.{hold_at, move_of, moved_state, after_move, replace_workers, split_inputs, unite_outputs, is_free, all_idle, united_outputs, closed, act}

-- a worker that goes to edge i of u: it is free where u has no such edge, else it holds u there
pub hold_cases : (g : Graph) (Q : Phase → Type 0) (u i : ℕ) → (length (edges g u) ≤ i → Q free) → (i < length (edges g u) → Q (holding u i))
    → Q (hold_at g u i)
unfolding hold_at
hold_cases g Q u i past there = go (ltb i (length (edges g u))) refl
  where
    go : (b : Bool) → ltb i (length (edges g u)) ≡ b → Q (cond b (holding u i) free)
    go true q = there (ltb-true i (length (edges g u)) q)
    go false q = past (ltb-false i (length (edges g u)) q)

-- Bags.

module _ {A : Type 0} (bagOf : A → Bag) where
  -- bags united one after another weigh what all of them weigh
  pub weigh_unions : (f : ℕ → ℕ) (b : Bag) (l : List A)
      → weigh f (foldl bag_union b (map bagOf l)) ≡ weigh f b + sum_of (λ (x : A). weigh f (bagOf x)) l
  unfolding sum_of
  weigh_unions f b [] = omega arith
  weigh_unions f b (x ∷ l) = omega (arith, weigh_unions f (bag_union b (bagOf x)) l, weigh_union f b (bagOf x))

  -- and keep the shape
  pub shaped_unions : (d : A) (b : Bag) (l : List A) → Shaped b → ((i : ℕ) → Shaped (bagOf (get_or l i d))) → Shaped (foldl bag_union b (map bagOf l))
  shaped_unions d b [] h each = h
  shaped_unions d b (x ∷ l) h each = shaped_unions d (bag_union b (bagOf x)) l (shaped_union b (bagOf x) h (each 0)) (λ i. each (suc i))

-- Idle workers.

-- a worker that is free and whose input bag is empty
pub record Idle (w : Worker) : Type 0 where
  pub input_empty : is_empty w.input ≡ true
  pub phase_free : w.phase ≡ free

-- a worker with two empty bags is
pub idle-worker : Idle idle_worker
idle-worker = record { input_empty = empty_bag_lem; phase_free = refl }

-- the test for a free worker
free_phase : (p : Phase) → is_free p ≡ true → p ≡ free
unfolding is_free
free_phase free e = refl
free_phase (holding u i) e = absurd (true≢false (sym e))
free_phase (in_hand u i t) e = absurd (true≢false (sym e))
free_phase (marked u i t) e = absurd (true≢false (sym e))
free_phase (named u i t) e = absurd (true≢false (sym e))

-- all are idle: the first is, and so are the others
pub idle_first : (x : Worker) (workers : List Worker) → all_idle (x ∷ workers) ≡ true → Idle x × (all_idle workers ≡ true)
unfolding all_idle
idle_first x workers e =
    let both = (and-eq-true_iff (is_free x.phase && is_empty x.input) (all_idle workers)).0 e in
    let first = (and-eq-true_iff (is_free x.phase) (is_empty x.input)).0 both.0 in
    (record { input_empty = first.1; phase_free = free_phase x.phase first.0 }, both.1)

-- so each is, and past the last one
pub idle_each : (workers : List Worker) → all_idle workers ≡ true → (w : ℕ) → Idle (worker_at workers w)
idle_each [] e w = idle-worker
idle_each (x ∷ workers) e zero = (idle_first x workers e).0
idle_each (x ∷ workers) e (suc w) = idle_each workers (idle_first x workers e).1 w

-- and the other way
pub all-idle : (workers : List Worker) → ((w : ℕ) → w < length workers → Idle (worker_at workers w)) → all_idle workers ≡ true
unfolding all_idle is_free
all-idle [] h = refl
all-idle (w ∷ workers) h =
    let first = h 0 (omega arith) in
    rw (first.phase_free, first.input_empty) (all-idle workers (λ i k. h (suc i) (omega arith)))

-- Effective events.

-- where an event is effective its condition is met, and the state after it is the one that the table says
pub effective : {A : Type 0} (b : Bool) (u t : A) → cond b (some u) none ≡ some t → (b ≡ true) × (u ≡ t)
effective true u t e = (refl, some-injective u t e)
effective false u t e = absurd (none-ne-some t e)

module _ (g : Graph) (s : State) where
  -- the move that worker w has, if any
  abbrev move_at : ℕ → Option (Worker × Labels)
  move_at w = move_of g s.layer s.labels (worker_at s.workers w)

  -- a work: the worker has a move
  pub work_met : {t : State} (w : ℕ) → act g s (Work w) ≡ some t → (m : Worker × Labels) × (move_at w ≡ some m) × (moved_state s w m ≡ t)
  unfolding act after_move
  work_met {t} w e = go (move_at w) refl e
    where
      go : (o : Option (Worker × Labels)) → move_at w ≡ o → after_move s w o ≡ some t
          → (m : Worker × Labels) × (move_at w ≡ some m) × (moved_state s w m ≡ t)
      go none made after = absurd (none-ne-some t after)
      go (some m) made after = (m, made, some-injective (moved_state s w m) t after)

  -- a split: w's input bag is empty, v's holds two numbers at least
  pub split_met : {t : State} (w v : ℕ) → act g s (Split w v) ≡ some t
      → (is_empty (worker_at s.workers w).input ≡ true) × (at_least_two (worker_at s.workers v).input ≡ true)
      × (replace_workers s (split_inputs s.workers w v) ≡ t)
  unfolding act
  split_met {t} w v e =
      let met = effective _ (replace_workers s (split_inputs s.workers w v)) t e in
      let both = (and-eq-true_iff (is_empty (worker_at s.workers w).input) (at_least_two (worker_at s.workers v).input)).0 met.0 in
      (both.0, both.1, met.1)

  -- a union: neither output bag is empty
  pub unite_met : {t : State} (w v : ℕ) → act g s (Unite w v) ≡ some t
      → (is_empty (worker_at s.workers w).output ≡ false) × (is_empty (worker_at s.workers v).output ≡ false)
      × (replace_workers s (unite_outputs s.workers w v) ≡ t)
  unfolding act
  unite_met {t} w v e =
      let from = is_empty (worker_at s.workers w).output in
      let into = is_empty (worker_at s.workers v).output in
      let met = effective _ (replace_workers s (unite_outputs s.workers w v)) t e in
      let both = (and-eq-true_iff (not from) (not into)).0 met.0 in
      (not-true from both.0, not-true into both.1, met.1)

  -- a close: all workers are idle
  pub close_met : {t : State} → act g s Close ≡ some t → (all_idle s.workers ≡ true) × (closed s (united_outputs s.workers) ≡ t)
  unfolding act
  close_met {t} e = effective _ (closed s (united_outputs s.workers)) t e

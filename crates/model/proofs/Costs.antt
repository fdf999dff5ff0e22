-- The potential falls with every effective event, and the opening state costs no more than the bound.
use mathlib.Core.Path.{◌≡◌, refl, ap}
use mathlib.Core.Bool.{Bool, true, false, cond}
use mathlib.Core.List.{List, [], ◌∷◌, map}
use mathlib.Core.Option.{Option, none, some}
use Prim.Native.Nat.{ℕ, suc, ◌+◌, ◌*◌, ◌≤◌, ◌<◌}
use native.Mathlib.Nat.{le_refl, mul-le-mul_right}
use native.Mathlib.Omega.{arith}
use lib.ListN.{length, set, replicate, length-replicate}
use lib.Seq.{get_or-set_same}
use Rattle.lists.specs.Lists.{sum_of}
use Rattle.lists.proofs.Sums.{sum_set, sum_two, sum_most, sum_first}
use Rattle.lists.proofs.Parts.{get_or_repeated}
use Rattle.graph.specs.Graph.{Graph, edges, targets_of}
use Rattle.pennant.specs.Bag.{Bag, empty_bag, bag_insert, bag_union, split_first, split_second, take_rest, taken_number, is_empty}
use Rattle.pennant.specs.Held.{weigh, Shaped}
use Rattle.pennant.proofs.Laws.{weigh_empty, weigh_insert, weigh_union, weigh_split, weigh_rest, empty_weighs, split_filled}
use Rattle.schedule.specs.declared.Event.TheVariants.{Work, Split, Unite, Close}
use Rattle.model.specs.Paths.{Labels, distance_of}
use Rattle.model.specs.State.{Phase, free, holding, in_hand, marked, named, Worker, worker_with, idle_worker}
use Rattle.model.specs.State.{State, worker_at, opening_labels, opening_state}
use Rattle.model.specs.Table.{hold_at, mark, name, move}
use Rattle.model.specs.Table.{replace_workers, split_inputs, unite_outputs, all_idle, united_outputs, handed_in, closed, act}
use Rattle.model.specs.Play.{event_bound}
use Rattle.model.proofs.Sound.{Ground, PhaseSound, Sound}
use Rattle.model.proofs.Walks.{target_below}
use Rattle.model.proofs.Workers.{weigh_unions, idle_first, work_met, split_met, unite_met, close_met}
use Rattle.model.proofs.Cost.{degree, item_cost, hand_cost, phase_cost, worker_cost, unset_cost, unsets_cost, cost}
use Rattle.model.proofs.CostFacts.{filled-one, filled_most, filled_weighs, empty_output, phase_most, hold_cost, look_cost}
use Rattle.model.proofs.CostFacts.{unsets_set, unsets_source, mark_hand}

module _ (g : Graph) where
  -- Moves.

  -- what the workers cost with the labels x, each of them with the unset vertices
  abbrev crew_cost : Labels → List Worker → ℕ
  crew_cost x workers = length workers * unsets_cost x.distances g + sum_of (worker_cost g x) workers

  -- with the labels b it is no more than with a, whatever the workers
  abbrev LabelsFall : Labels → Labels → Type 0
  LabelsFall a b = (workers : List Worker) → crew_cost b workers ≤ crew_cost a workers

  -- worker x becomes y, labels a become b: with the labels b the worker costs less than before, and these cost no more than a
  record Lowers (a b : Labels) (x y : Worker) : Type 0 where
    worker_falls : suc (worker_cost g b y) ≤ worker_cost g b x
    labels_fall : LabelsFall a b

  -- the same of a move that may have no effect
  abbrev MoveLowers : Labels → Worker → Option (Worker × Labels) → Type 0
  MoveLowers a x none = Unit {0}
  MoveLowers a x (some m) = Lowers a m.1 x m.0

  -- a move that leaves the labels as they are
  same_labels : (a : Labels) (x y : Worker) → suc (worker_cost g a y) ≤ worker_cost g a x → Lowers a a x y
  same_labels a x y less = record { worker_falls = less; labels_fall = λ workers. le_refl _ }

  -- labels changed: what the unset vertices cost less by, a vertex in hand may cost each worker more
  relabel : (a b : Labels) (k : ℕ) → unsets_cost b.distances g + k ≡ unsets_cost a.distances g
      → ((v : ℕ) → hand_cost g b v ≤ hand_cost g a v + k) → LabelsFall a b
  relabel a b k gain most workers =
      let sums = sum_most (worker_cost g b) (worker_cost g a) k (λ x. omega (arith, phase_most g a b k most x.phase)) workers in
      rw (← gain) (omega (arith, sums))

  -- take: the number taken pays for its edges and for the move
  take_lowers : (d : ℕ) (a : Labels) (input output : Bag) → Shaped input → MoveLowers a (worker_with input output free) (move g d a input output free)
  unfolding move
  take_lowers d a input output shaped = go (is_empty input) refl
    where
      taken : Worker
      taken = worker_with (take_rest input) output (hold_at g (taken_number input) 0)

      go : (b : Bool) → is_empty input ≡ b → MoveLowers a (worker_with input output free) (cond b none (some (taken, a)))
      go true e = tt
      go false e = same_labels a _ _ (omega (arith, weigh_rest (item_cost g) input shaped e, filled-one input e, hold_cost g a (taken_number input) 0))

  -- mark: the vertex is set then, so the worker pays for it, but no more for the mark
  mark_lowers : (d u i t : ℕ) (a : Labels) (input output : Bag) → length a.distances ≡ length g → t < length g
      → Lowers a (mark d t a) (worker_with input output (in_hand u i t)) (worker_with input output (marked u i t))
  unfolding mark
  mark_lowers d u i t a input output same below = record {
    worker_falls = rw (get_or-set_same a.distances t (some (suc d)) none (omega arith)) (omega arith);
    labels_fall = relabel a (mark d t a) (unset_cost (distance_of a t) (edges g t)) (unsets_set a.distances g t (suc d) same (omega arith))
        (mark_hand g d t a (omega arith));
  }

  -- name: no distance changes
  name_lowers : (u i t : ℕ) (a : Labels) (input output : Bag)
      → Lowers a (name u t a) (worker_with input output (marked u i t)) (worker_with input output (named u i t))
  unfolding name
  name_lowers u i t a input output = record { worker_falls = omega arith; labels_fall = relabel a (name u t a) 0 (omega arith) (λ v. omega arith) }

  -- stow: the vertex costs less in the output bag, even if that was empty
  stow_falls : (u i t : ℕ) (a : Labels) (input output : Bag)
      → suc (worker_cost g a (worker_with input (bag_insert t output) (hold_at g u (suc i)))) ≤ worker_cost g a (worker_with input output (named u i t))
  stow_falls u i t a input output = omega (arith, weigh_insert (item_cost g) t output, filled_most (bag_insert t output), hold_cost g a u (suc i))

  -- Closing.

  -- idle workers cost nothing once their output bags are handed in
  handed_cost : (x : Labels) (workers : List Worker) → all_idle workers ≡ true → sum_of (worker_cost g x) (map handed_in workers) ≡ 0
  unfolding sum_of
  handed_cost x [] e = refl
  handed_cost x (w ∷ workers) e =
      let idle = idle_first w workers e in
      omega (
        arith,
        empty_output g,
        ap (phase_cost g x) idle.0.phase_free,
        empty_weighs (item_cost g) w.input idle.0.input_empty,
        handed_cost x workers idle.1,
      )

  -- what is united costs less in one input bag than in the output bags
  united_cost : (x : Labels) (workers : List Worker) → 1 ≤ length workers → all_idle workers ≡ true → is_empty (united_outputs workers) ≡ false
      → suc (sum_of (worker_cost g x) (set (map handed_in workers) 0 (worker_with (united_outputs workers) empty_bag free))) ≤ sum_of (worker_cost g x) workers
  unfolding united_outputs sum_of
  united_cost x [] staffed e filled = absurd (omega arith)
  united_cost x (w ∷ workers) staffed e filled =
      let idle = idle_first w workers e in
      let bag = united_outputs (w ∷ workers) in
      let outputs = sum_most (λ (v : Worker). weigh (item_cost g) v.output) (worker_cost g x) 0 (λ v. omega arith) (w ∷ workers) in
      omega (
        arith,
        weigh_unions (λ (v : Worker). v.output) (item_cost g) w.input (w ∷ workers),
        empty_weighs (item_cost g) w.input idle.0.input_empty,
        filled-one bag filled,
        filled_weighs g bag,
        empty_output g,
        handed_cost x workers idle.1,
      )

  -- Opening.

  -- idle workers, and the source in the input bag of the first one
  opening_workers : (x : Labels) (source P : ℕ) → 1 ≤ P
      → sum_of (worker_cost g x) (set (replicate P idle_worker) 0 (worker_with (bag_insert source empty_bag) empty_bag free)) ≤ 2 + degree g source
  opening_workers x source P p =
      let first = worker_with (bag_insert source empty_bag) empty_bag free in
      let idle : worker_cost g x idle_worker ≡ 0 = omega (arith, weigh_empty (item_cost g), empty_output g) in
      let all = sum_first (worker_cost g x) idle_worker (replicate P idle_worker) first (rw length-replicate p) (λ i. rw (get_or_repeated P i idle_worker) idle) in
      omega (arith, all, weigh_insert (item_cost g) source empty_bag, weigh_empty (item_cost g), empty_output g)

module _ {g : Graph} {source : ℕ} where
  -- two workers replaced by two that cost less together
  two_cost : {P : ℕ} {s : State} (w v : ℕ) (x y : Worker) → Sound g source P s → w < P → v < P → (w ≡ v → ⊥)
      → suc (worker_cost g s.labels y + worker_cost g s.labels x)
      ≤ worker_cost g s.labels (worker_at s.workers v) + worker_cost g s.labels (worker_at s.workers w)
      → suc (cost P g (replace_workers s (set (set s.workers v y) w x))) ≤ cost P g s
  unfolding cost
  two_cost {P} {s} w v x y h k l apart less =
      let crew = h.crew_sound.crew in
      omega (arith, sum_two (worker_cost g s.labels) s.workers w v x y idle_worker (rw crew k) (rw crew l) apart)

  -- an effective split lowers the cost: one more input bag isn't empty
  pub split_cost : {P : ℕ} {s t : State} (w v : ℕ) → Sound g source P s → w < P → v < P → (w ≡ v → ⊥) → act g s (Split w v) ≡ some t
      → suc (cost P g t) ≤ cost P g s
  unfolding split_inputs
  split_cost {s = s} w v h k l apart e =
      let bag = (worker_at s.workers v).input in
      let met = split_met g s w v e in
      let filled = split_filled bag (h.crew_sound.each v).input_shaped met.1 in
      rw (← met.2) (two_cost w v _ _ h k l apart (omega (
        arith,
        weigh_split (item_cost g) bag,
        filled_most bag,
        filled-one (split_first bag) filled.0,
        filled_weighs g (split_first bag),
        filled-one (split_second bag) filled.1,
        filled_weighs g (split_second bag),
      )))

  -- an effective union lowers the cost: one output bag fewer isn't empty
  pub unite_cost : {P : ℕ} {s t : State} (w v : ℕ) → Sound g source P s → w < P → v < P → (w ≡ v → ⊥) → act g s (Unite w v) ≡ some t
      → suc (cost P g t) ≤ cost P g s
  unfolding unite_outputs
  unite_cost {s = s} w v h k l apart e =
      let from = (worker_at s.workers w).output in
      let into = (worker_at s.workers v).output in
      let met = unite_met g s w v e in
      rw (← met.2) (two_cost w v _ _ h k l apart (omega (
        arith,
        weigh_union (item_cost g) into from,
        filled_most (bag_union into from),
        empty_output g,
        filled-one from met.0,
        filled-one into met.1,
      )))

  -- an effective close lowers the cost: the finishing one by itself, any other one by what it unites
  pub close_cost : {P : ℕ} {s t : State} → 1 ≤ P → Sound g source P s → s.finished ≡ false → act g s Close ≡ some t → suc (cost P g t) ≤ cost P g s
  unfolding closed cost
  close_cost {P} {s} p h f e =
      let met = close_met g s e in
      rw (← met.1) (go (is_empty bag) refl met.0)
    where
      bag : Bag
      bag = united_outputs s.workers

      go : (b : Bool) → is_empty bag ≡ b → all_idle s.workers ≡ true → suc (cost P g (closed s bag)) ≤ cost P g s
      go true q idle = rw (q, f) (omega arith)
      go false q idle = rw (q, f) (omega (arith, united_cost g s.labels s.workers (rw h.crew_sound.crew p) idle q))

module _ {g : Graph} {source : ℕ} (ground : Ground g source) where
  -- every move of a worker lowers the cost
  move_lowers : (d : ℕ) (a : Labels) (input output : Bag) (p : Phase) → length a.distances ≡ length g → Shaped input → PhaseSound g source d a p
      → MoveLowers g a (worker_with input output p) (move g d a input output p)
  unfolding move
  move_lowers d a input output free same shaped h = take_lowers g d a input output shaped
  move_lowers d a input output (holding u i) same shaped h = same_labels g a _ _ (omega (arith, look_cost g a u i h.there))
  move_lowers d a input output (in_hand u i t) same shaped h =
      mark_lowers g d u i t a input output same (rw h.leads at (target_below ground u i h.at.there))
  move_lowers d a input output (marked u i t) same shaped h = name_lowers g u i t a input output
  move_lowers d a input output (named u i t) same shaped h = same_labels g a _ _ (stow_falls g u i t a input output)

  -- an effective work lowers the cost
  pub work_cost : {P : ℕ} {s t : State} (w : ℕ) → Sound g source P s → w < P → act g s (Work w) ≡ some t → suc (cost P g t) ≤ cost P g s
  unfolding cost
  work_cost {s = s} w h below e =
      let x = worker_at s.workers w in
      let sound = h.crew_sound.each w in
      let crew = h.crew_sound.crew in
      let met = work_met g s w e in
      let m = met.0 in
      let low : Lowers g s.labels m.1 x m.0 = rw met.1 at (move_lowers s.layer s.labels x.input x.output x.phase
      h.labels_sound.distances_all sound.input_shaped sound.phase_sound) in
      let worker-less = sum_set (worker_cost g m.1) s.workers w m.0 idle_worker (rw crew below) in
      let labels-less = rw crew at (low.labels_fall s.workers) in
      rw (← met.2) (omega (arith, low.worker_falls))

  -- the opening state costs no more than the bound
  pub opening_cost : (P : ℕ) → 1 ≤ P → cost P g (opening_state (length g) source P) ≤ event_bound g P
  unfolding cost opening_state opening_labels event_bound targets_of
  opening_cost P p =
      let one = mul-le-mul_right (6 + degree g source) p in
      let paid = ap (λ (k : ℕ). P * k) (unsets_source g source ground.starts) in
      omega (arith, one, paid, opening_workers g (opening_labels (length g) source) source P p)

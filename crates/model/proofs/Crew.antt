-- The crew stays sound: when one worker moves, when an input bag is split between two workers, and when an output bag is united into another's.
use mathlib.Core.Path.{◌≡◌, refl, sym, ap, ◌∙◌}
use mathlib.Core.Bool.{true}
use mathlib.Core.List.{List}
use mathlib.Core.Option.{Option, none, some}
use mathlib.Core.Logic.{inl, inr}
use Prim.Native.Nat.{ℕ, suc, ◌+◌, ◌≤◌, ◌<◌}
use native.Mathlib.Decide.{dec_le}
use native.Mathlib.Omega.{arith}
use lib.ListN.{length, set, length-set}
use Rattle.lists.specs.Lists.{sum_of, some_one}
use Rattle.lists.proofs.Sums.{sum_set, sum_at, sum_two, sum_within}
use Rattle.lists.proofs.Replaced.{length_two, each_set}
use Rattle.graph.specs.Graph.{Graph, edges}
use Rattle.pennant.specs.Bag.{Bag, empty_bag, bag_union, split_first, split_second, is_empty}
use Rattle.pennant.specs.Held.{only, copies, Shaped}
use Rattle.pennant.proofs.Laws.{weigh_empty, weigh_union, weigh_split, only_few, empty_weighs}
use Rattle.pennant.proofs.Laws.{shaped_empty, shaped_union, shaped_first, shaped_second}
use Rattle.model.specs.Paths.{edge_target, Distance, Labels, distance_of, parent_of, is_set}
use Rattle.model.specs.State.{Phase, free, holding, in_hand, marked, named, Worker, worker_with, idle_worker, worker_at}
use Rattle.model.specs.Table.{split_inputs, unite_outputs}
use Rattle.model.proofs.Counts.{hand_of, naming_of, at_of, inputs, outputs, hands, namings, ats}
use Rattle.model.proofs.LabelFacts.{set_kept}
use Rattle.model.proofs.Sound.{PhaseSound, WorkerSound, CrewSound, Moves}

-- a worker has a vertex in hand at most once
hand_few : (v : ℕ) (phase : Phase) → hand_of v phase ≤ 1
hand_few v free = omega arith
hand_few v (holding u i) = omega arith
hand_few v (in_hand u i t) = only_few v t
hand_few v (marked u i t) = only_few v t
hand_few v (named u i t) = only_few v t

module _ {g : Graph} {source : ℕ} where
  module _ {P d : ℕ} {a b : Labels} (workers : List Worker) (w : ℕ) (y : Worker)
      (c : CrewSound g source P d a workers) (h : w < P) (m : Moves g source d a b (worker_at workers w) y) where
    -- how a sum over all workers changes: worker w weighs no more than all do, and y comes in its place
    abbrev Changes : (Worker → ℕ) → Type 0
    Changes f = (f (worker_at workers w) ≤ sum_of f workers) × (sum_of f (set workers w y) + f (worker_at workers w) ≡ sum_of f workers + f y)

    -- the sum of each weight that is 0 for an idle worker changes so
    sum_changes : (f : Worker → ℕ) → f idle_worker ≡ 0 → Changes f
    sum_changes f idle = (sum_at f workers w idle_worker idle, sum_set f workers w y idle_worker (rw c.crew h))

    -- so do the copies of v in input bags ..
    inputs_change : (v : ℕ) → Changes (λ (x : Worker). copies v x.input)
    inputs_change v = sum_changes (λ (x : Worker). copies v x.input) (weigh_empty (only v))

    -- .. and in output bags, ..
    outputs_change : (v : ℕ) → Changes (λ (x : Worker). copies v x.output)
    outputs_change v = sum_changes (λ (x : Worker). copies v x.output) (weigh_empty (only v))

    -- .. and what the phases count
    phases_change : (f : Phase → ℕ) → f free ≡ 0 → Changes (λ (x : Worker). f x.phase)
    phases_change f zero = sum_changes (λ (x : Worker). f x.phase) zero

    -- a phase stays sound with the labels after the move
    phase_kept : (phase : Phase) → PhaseSound g source d a phase → PhaseSound g source d b phase
    phase_kept free s = tt
    phase_kept (holding u i) s = s
    phase_kept (in_hand u i t) s = s
    phase_kept (marked u i t) s = record { found = s.found; marked = m.keeps t (suc d) s.marked }
    phase_kept (named u i t) s = record { found = s.found; marked = m.keeps t (suc d) s.marked }

    -- and so does a worker that does not move
    worker_kept : (x : Worker) → WorkerSound g source d a x → WorkerSound g source d b x
    worker_kept x s = record { input_shaped = s.input_shaped; output_shaped = s.output_shaped; phase_sound = phase_kept x.phase s.phase_sound }

    -- output bags hold vertices that are set for the next layer
    next_kept : (v : ℕ) → 1 ≤ outputs v (set workers w y) → distance_of b v ≡ some (suc d)
    next_kept v held =
        let before : 1 ≤ outputs v workers → distance_of b v ≡ some (suc d) = λ old. m.keeps v (suc d) (c.output_next v old) in
        elim (dec_le 1 (copies v y.output)) [
          | yes here ↦ elim (m.outputs_set v here) [ inl old ↦ before (omega (arith, outputs_change v)) | inr next ↦ next ]
          | no away ↦ before (omega (arith, outputs_change v))
        ]

    -- every edge of this layer is still to be looked at, or its target is set
    covered_kept : (u i : ℕ) → Distance g source u d → i < length (edges g u)
        → 1 ≤ inputs u (set workers w y) + ats u i (set workers w y) + some_one (distance_of b (edge_target g u i))
    covered_kept u i far there =
        let target_set = set_kept (distance_of a (edge_target g u i)) (distance_of b (edge_target g u i)) (m.keeps (edge_target g u i)) in
        omega (arith, inputs_change u, phases_change (at_of u i) refl, m.edges_kept u i there, c.covered u i far there)

    -- every vertex set for the next layer is in an output bag or on its way there
    stowed_kept : (v : ℕ) → distance_of b v ≡ some (suc d) → 1 ≤ outputs v (set workers w y) + hands v (set workers w y)
    stowed_kept v next = go (distance_of a v) refl
      where
        go : (l : Option ℕ) → distance_of a v ≡ l → 1 ≤ outputs v (set workers w y) + hands v (set workers w y)
        go none e = omega (arith, phases_change (hand_of v) refl, m.newly_set v e (rw next refl))
        go (some k) e = omega (arith, outputs_change v, phases_change (hand_of v) refl, m.copies_kept v, c.stowed v (e ∙ sym (m.keeps v k e) ∙ next))

    -- at most P copies: an unset vertex is in no output bag, and in at most one hand of each worker
    few_kept : (v : ℕ) → outputs v (set workers w y) + hands v (set workers w y) ≤ P
    few_kept v = elim (m.copies_added v) [
      | inl same ↦ omega (arith, outputs_change v, phases_change (hand_of v) refl, c.few_outputs v)
      | inr added ↦ elim (dec_le 1 (outputs v workers)) [
        | yes held ↦ absurd (omega (arith, ap some_one (sym added.0 ∙ c.output_next v held)))
        | no away ↦ omega (
          arith,
          outputs_change v,
          sum_within (λ (x : Worker). hand_of v x.phase) 1 (λ x. hand_few v x.phase) (set workers w y),
          length-set workers w y,
        )
      ]
    ]

    -- every vertex that is set has a parent or is about to be named
    parented_kept : (v : ℕ) → is_set (distance_of b v) ≡ true → 1 ≤ namings v (set workers w y) + some_one (parent_of b v)
    parented_kept v is = go (distance_of a v) refl
      where
        go : (l : Option ℕ) → distance_of a v ≡ l → 1 ≤ namings v (set workers w y) + some_one (parent_of b v)
        go none e = omega (arith, phases_change (naming_of v) refl, m.newly_set v e is)
        go (some k) e = elim (m.parents_kept v) [
          | inl kept ↦ omega (arith, phases_change (naming_of v) refl, c.parented v (rw e refl))
          | inr has ↦ omega arith
        ]

    -- one worker moves
    pub crew_moves : CrewSound g source P d b (set workers w y)
    crew_moves = record {
      crew = rw length-set c.crew;
      each = each_set (WorkerSound g source d b) workers w y idle_worker m.sound (λ j. worker_kept (worker_at workers j) (c.each j));
      input_near = λ v held. c.input_near v (omega (arith, inputs_change v, m.inputs_fall v));
      output_next = next_kept;
      covered = covered_kept;
      stowed = stowed_kept;
      few_outputs = few_kept;
      few_inputs = λ v. omega (arith, inputs_change v, m.inputs_fall v, c.few_inputs v);
      parented = parented_kept;
    }

  -- other workers, as many, with as many copies of each vertex in their input bags and in their output bags, and with the same phases in some order
  crew_same : {P d : ℕ} {x : Labels} (before after : List Worker) → CrewSound g source P d x before → length after ≡ length before
      → ((w : ℕ) → WorkerSound g source d x (worker_at after w))
      → ((v : ℕ) → inputs v after ≡ inputs v before) → ((v : ℕ) → outputs v after ≡ outputs v before)
      → ((f : Phase → ℕ) → sum_of (λ (w : Worker). f w.phase) after ≡ sum_of (λ (w : Worker). f w.phase) before) → CrewSound g source P d x after
  crew_same before after c as_many each same_inputs same-outputs same-phases = record {
    crew = as_many ∙ c.crew;
    each = each;
    input_near = λ v held. c.input_near v (rw (same_inputs v) at held);
    output_next = λ v held. c.output_next v (rw (same-outputs v) at held);
    covered = λ u i far there. omega (arith, same_inputs u, same-phases (at_of u i), c.covered u i far there);
    stowed = λ v next. omega (arith, same-outputs v, same-phases (hand_of v), c.stowed v next);
    few_outputs = λ v. omega (arith, same-outputs v, same-phases (hand_of v), c.few_outputs v);
    few_inputs = λ v. omega (arith, same_inputs v, c.few_inputs v);
    parented = λ v is. omega (arith, same-phases (naming_of v), c.parented v is);
  }

  module _ {P d : ℕ} {x : Labels} (workers : List Worker) (w v : ℕ)
      (c : CrewSound g source P d x workers) (h : w < P) (k : v < P) (apart : w ≡ v → ⊥) where
    -- worker j with other bags in shape
    refilled : (j : ℕ) (s t : Bag) → Shaped s → Shaped t → WorkerSound g source d x (worker_with s t (worker_at workers j).phase)
    refilled j s t input output = record { input_shaped = input; output_shaped = output; phase_sound = (c.each j).phase_sound }

    -- what split and unite share: w gets the bags p and q, v gets s and t, both keep their phases, and together they hold what they held before
    crew_shared : (p q s t : Bag) → Shaped p → Shaped q → Shaped s → Shaped t
        → ((u : ℕ) → copies u p + copies u s ≡ copies u (worker_at workers w).input + copies u (worker_at workers v).input)
        → ((u : ℕ) → copies u q + copies u t ≡ copies u (worker_at workers w).output + copies u (worker_at workers v).output)
        → CrewSound g source P d x (set (set workers v (worker_with s t (worker_at workers v).phase)) w (worker_with p q (worker_at workers w).phase))
    crew_shared p q s t p-shaped q-shaped s-shaped t-shaped same-input same-output =
        let y = worker_with p q (worker_at workers w).phase in
        let z = worker_with s t (worker_at workers v).phase in
        let same : (f : Worker → ℕ) → f y + f z ≡ f (worker_at workers w) + f (worker_at workers v)
        → sum_of f (set (set workers v z) w y) ≡ sum_of f workers
        = λ f e. omega (arith, sum_two f workers w v y z idle_worker (rw c.crew h) (rw c.crew k) apart) in
        crew_same workers (set (set workers v z) w y) c (length_two workers v w z y)
        (each_set (WorkerSound g source d x) (set workers v z) w y idle_worker (refilled w p q p-shaped q-shaped)
        (each_set (WorkerSound g source d x) workers v z idle_worker (refilled v s t s-shaped t-shaped) c.each))
        (λ u. same (λ (j : Worker). copies u j.input) (same-input u))
        (λ u. same (λ (j : Worker). copies u j.output) (same-output u))
        (λ f. same (λ (j : Worker). f j.phase) refl)

    -- w, whose input bag is empty, gets the second bag of a split of v's
    pub crew_split : is_empty (worker_at workers w).input ≡ true → CrewSound g source P d x (split_inputs workers w v)
    unfolding split_inputs
    crew_split e =
        let whole = (worker_at workers v).input in
        let whole-shaped = (c.each v).input_shaped in
        crew_shared (split_second whole) (worker_at workers w).output (split_first whole) (worker_at workers v).output
        (shaped_second whole whole-shaped) (c.each w).output_shaped (shaped_first whole whole-shaped) (c.each v).output_shaped
        (λ u. omega (arith, weigh_split (only u) whole, empty_weighs (only u) (worker_at workers w).input e)) (λ u. refl)

    -- w's output bag is united into v's and left empty
    pub crew_unite : CrewSound g source P d x (unite_outputs workers w v)
    unfolding unite_outputs
    crew_unite =
        let out = (worker_at workers w).output in
        let into = (worker_at workers v).output in
        crew_shared (worker_at workers w).input empty_bag (worker_at workers v).input (bag_union into out)
        (c.each w).input_shaped shaped_empty (c.each v).input_shaped (shaped_union into out (c.each v).output_shaped (c.each w).output_shaped)
        (λ u. refl) (λ u. omega (arith, weigh_empty (only u), weigh_union (only u) into out))

-- What each move of a worker does to the sums over all workers, and that it keeps the labels sound.
use mathlib.Core.Path.{◌≡◌, refl, sym, ◌∙◌}
use mathlib.Core.Bool.{Bool, true, false, cond, ◌&&◌, and-eq-true_iff}
use mathlib.Core.Option.{Option, none, some}
use mathlib.Core.Logic.{◌⊎◌, inl, inr}
use Prim.Native.Nat.{ℕ, suc, ◌+◌, ◌≤◌, ◌<◌}
use native.Mathlib.Omega.{arith}
use lib.Dec.{eqb, leb}
use lib.ListN.{length}
use borrow.Author.Tests.{leb-true, leb-false, eqb-true, eq-eqb, ne_eqb, le-leb}
use Rattle.lists.specs.Lists.{some_one}
use Rattle.lists.proofs.Tests.{test_within}
use Rattle.graph.specs.Graph.{Graph, edges}
use Rattle.pennant.specs.Bag.{Bag, bag_insert, take_rest, taken_number, is_empty}
use Rattle.pennant.specs.Held.{only, copies, Shaped}
use Rattle.pennant.proofs.Laws.{weigh_insert, weigh_rest, only_self, taken_held, shaped_insert, shaped_rest}
use Rattle.model.specs.Paths.{edge_target, Distance, Labels, distance_of, parent_of, is_set}
use Rattle.model.specs.State.{Phase, free, holding, in_hand, marked, named, Worker, worker_with}
use Rattle.model.specs.Table.{hold_at, look, mark, name, move, move_of}
use Rattle.model.proofs.Counts.{hand_of, naming_of, at_of}
use Rattle.model.proofs.Sound.{Ground, LabelsSound, PhaseSound, WorkerSound, Moves}
use Rattle.model.proofs.LabelFacts.{set_one, unset_none, not_both}
use Rattle.model.proofs.Workers.{hold_cases}
use Rattle.model.proofs.MovingLabels.{unset_next, mark_writes, mark_cases, mark_keeps, mark_sound, name_cases, name_sound}

module _ (g : Graph) where
  -- A worker that goes to edge i of u.

  -- it has nothing in hand
  hold_hand : (u i v : ℕ) → hand_of v (hold_at g u i) ≡ 0
  hold_hand u i v = hold_cases g (λ p. hand_of v p ≡ 0) u i (λ h. refl) (λ h. refl)

  -- it is at u, before every edge from i on
  hold_at_lem : (u i v j : ℕ) → u ≡ v → i ≤ j → j < length (edges g v) → 1 ≤ at_of v j (hold_at g u i)
  hold_at_lem u i v j same before there = hold_cases g (λ p. 1 ≤ at_of v j p) u i
      (λ past. absurd (omega (arith, rw same at past)))
      (λ h. rw (eq-eqb u v same, le-leb i j before) (omega arith))

  -- a worker that passes on from edge i, whose target is set, leaves no edge whose target isn't
  passes : (a : Labels) (u i v j : ℕ) → is_set (distance_of a (edge_target g u i)) ≡ true → j < length (edges g v)
      → at_of v j (holding u i) ≤ at_of v j (hold_at g u (suc i)) + some_one (distance_of a (edge_target g v j))
  passes a u i v j set there = test_within (eqb u v && leb i j) _ (λ q.
      let both = (and-eq-true_iff (eqb u v) (leb i j)).0 q in
      go (leb (suc i) j) refl (eqb-true u v both.0) (leb-true i j both.1))
    where
      go : (b : Bool) → leb (suc i) j ≡ b → u ≡ v → i ≤ j → 1 ≤ at_of v j (hold_at g u (suc i)) + some_one (distance_of a (edge_target g v j))
      go true q same before = omega (arith, hold_at_lem u (suc i) v j same (leb-true (suc i) j q) there)
      go false q same before =
          let here : i ≡ j = omega (arith, leb-false (suc i) j q) in
          omega (arith, set_one (distance_of a (edge_target g v j)) (rw (same, here) at set))

module _ {g : Graph} {source d : ℕ} {a : Labels} where
  -- a worker that keeps its bags and changes its phase
  in_phase : {b : Labels} {input output : Bag} {p q : Phase} → WorkerSound g source d a (worker_with input output p) → PhaseSound g source d b q
      → WorkerSound g source d b (worker_with input output q)
  in_phase w h = record { input_shaped = w.input_shaped; output_shaped = w.output_shaped; phase_sound = h }

  -- a move after which the worker goes to an edge, and the labels are as they were
  to_hold : {x : Worker} {input output : Bag} (u i : ℕ) → Shaped input → Shaped output → Distance g source u d
      → ((v : ℕ) → copies v input ≤ copies v x.input)
      → ((v : ℕ) → 1 ≤ copies v output → (1 ≤ copies v x.output) ⊎ (distance_of a v ≡ some (suc d)))
      → ((v j : ℕ) → j < length (edges g v)
      → copies v x.input + at_of v j x.phase ≤ copies v input + at_of v j (hold_at g u i) + some_one (distance_of a (edge_target g v j)))
      → ((v : ℕ) → copies v output ≡ copies v x.output + hand_of v x.phase)
      → ((v : ℕ) → naming_of v x.phase ≡ 0)
      → Moves g source d a a x (worker_with input output (hold_at g u i))
  to_hold u i input_shaped output_shaped far inputs_fall outputs_set edges_kept copies-same no-naming = record {
    sound = record {
      input_shaped = input_shaped;
      output_shaped = output_shaped;
      phase_sound = hold_cases g (PhaseSound g source d a) u i (λ h. tt) (λ h. record { far = far; there = h });
    };
    keeps = λ v k e. e;
    inputs_fall = inputs_fall;
    outputs_set = outputs_set;
    edges_kept = edges_kept;
    copies_kept = λ v. omega (arith, copies-same v);
    newly_set = λ v e s. not_both e s;
    copies_added = λ v. inl (omega (arith, copies-same v, hold_hand g u i v));
    parents_kept = λ v. inl (omega (arith, no-naming v));
  }

  -- take: a vertex of the input bag is held instead
  take_moves : {input output : Bag} → Shaped input → Shaped output → is_empty input ≡ false → Distance g source (taken_number input) d
      → Moves g source d a a (worker_with input output free) (worker_with (take_rest input) output (hold_at g (taken_number input) 0))
  take_moves {input = input} p q filled far =
      let t = taken_number input in
      to_hold t 0 (shaped_rest input p) q far
      (λ v. omega (arith, weigh_rest (only v) input p filled))
      (λ v h. inl h)
      (λ v j there.
      let at : only v t ≤ at_of v j (hold_at g t 0) = test_within (eqb t v) _ (λ e. hold_at_lem g t 0 v j (eqb-true t v e) (omega arith) there) in
      omega (arith, weigh_rest (only v) input p filled))
      (λ v. omega arith)
      (λ v. refl)

  -- pass on from an edge whose target is set
  pass_moves : {input output : Bag} {u i : ℕ} → WorkerSound g source d a (worker_with input output (holding u i))
      → is_set (distance_of a (edge_target g u i)) ≡ true
      → Moves g source d a a (worker_with input output (holding u i)) (worker_with input output (hold_at g u (suc i)))
  pass_moves {u = u} {i = i} w set = to_hold u (suc i) w.input_shaped w.output_shaped w.phase_sound.far
      (λ v. omega arith)
      (λ v h. inl h)
      (λ v j there. omega (arith, passes g a u i v j set there))
      (λ v. omega arith)
      (λ v. refl)

  -- stow: the vertex in hand goes into the output bag
  stow_moves : {input output : Bag} {u i t : ℕ} → WorkerSound g source d a (worker_with input output (named u i t))
      → Moves g source d a a (worker_with input output (named u i t)) (worker_with input (bag_insert t output) (hold_at g u (suc i)))
  stow_moves {output = output} {u = u} {i = i} {t = t} w =
      let h = w.phase_sound in
      to_hold u (suc i) w.input_shaped (shaped_insert t output w.output_shaped) h.found.at.far
      (λ v. omega arith)
      (λ v filled. stowed v (eqb t v) refl (rw (weigh_insert (only v) t output) at filled))
      (λ v j there. omega (arith, passes g a u i v j (rw (h.found.leads, h.marked)) there))
      (λ v. omega (arith, weigh_insert (only v) t output))
      (λ v. refl)
    where
      stowed : (v : ℕ) (b : Bool) → eqb t v ≡ b → 1 ≤ cond b 1 0 + copies v output → (1 ≤ copies v output) ⊎ (distance_of a v ≡ some (suc d))
      stowed v true q h = inr (rw (← eqb-true t v q) w.phase_sound.marked)
      stowed v false q h = inl (omega arith)

  -- an unset target comes into hand
  hand_moves : {input output : Bag} {u i : ℕ} → LabelsSound g source d a → WorkerSound g source d a (worker_with input output (holding u i))
      → is_set (distance_of a (edge_target g u i)) ≡ false
      → Moves g source d a a (worker_with input output (holding u i)) (worker_with input output (in_hand u i (edge_target g u i)))
  hand_moves {output = output} {u = u} {i = i} l w unset = record {
    sound = in_phase w (record { at = w.phase_sound; leads = refl; next = unset_next l w.phase_sound unset });
    keeps = λ v k e. e;
    inputs_fall = λ v. omega arith;
    outputs_set = λ v h. inl h;
    edges_kept = λ v j there. omega arith;
    copies_kept = λ v. omega arith;
    newly_set = λ v e s. not_both e s;
    copies_added = λ v. added v (eqb (edge_target g u i) v) refl;
    parents_kept = λ v. inl (omega arith);
  }
    where
      added : (v : ℕ) (b : Bool) → eqb (edge_target g u i) v ≡ b
          → (copies v output + cond b 1 0 ≡ copies v output + 0) ⊎ ((distance_of a v ≡ none) × (copies v output ≡ copies v output))
      added v true q = inr (unset_none (distance_of a v) (rw (eqb-true (edge_target g u i) v q) at unset), refl)
      added v false q = inl refl

module _ {g : Graph} {source : ℕ} (ground : Ground g source) where
  module _ {d : ℕ} {a : Labels} (l : LabelsSound g source d a) where
    -- mark: the vertex in hand gets its distance
    mark_moves : {input output : Bag} {u i t : ℕ} → WorkerSound g source d a (worker_with input output (in_hand u i t))
        → Moves g source d a (mark d t a) (worker_with input output (in_hand u i t)) (worker_with input output (marked u i t))
    unfolding mark
    mark_moves {t = t} w =
        let next = w.phase_sound.next in
        record {
          sound = in_phase w (record { found = w.phase_sound; marked = mark_writes ground l next });
          keeps = mark_keeps ground l next;
          inputs_fall = λ v. omega arith;
          outputs_set = λ v h. inl h;
          edges_kept = λ v j there. omega arith;
          copies_kept = λ v. omega arith;
          newly_set = λ v e s. mark_cases ground l next v (distance_of (mark d t a) v) refl
              (λ q r. let here : only v t ≡ 1 = rw q (only_self t) in omega arith)
              (λ apart r. not_both (sym r ∙ e) s);
          copies_added = λ v. inl refl;
          parents_kept = λ v. inl (omega arith);
        }

    -- name: the vertex in hand gets its parent
    name_moves : {input output : Bag} {u i t : ℕ} → WorkerSound g source d a (worker_with input output (marked u i t))
        → Moves g source d a (name u t a) (worker_with input output (marked u i t)) (worker_with input output (named u i t))
    unfolding name
    name_moves {u = u} {t = t} w = record {
      sound = in_phase w (record { found = w.phase_sound.found; marked = w.phase_sound.marked });
      keeps = λ v k e. e;
      inputs_fall = λ v. omega arith;
      outputs_set = λ v h. inl h;
      edges_kept = λ v j there. omega arith;
      copies_kept = λ v. omega arith;
      newly_set = λ v e s. not_both e s;
      copies_added = λ v. inl refl;
      parents_kept = λ v. name_cases ground l w.phase_sound v (parent_of (name u t a) v) refl
          (λ q r. inr (rw (← r) (omega arith)))
          (λ apart r. inl (rw (ne_eqb t v (λ q. apart (sym q)), r) (omega arith)));
    }

    -- what a move leaves, if its condition is met: sound labels, and what is claimed of the sums
    abbrev MoveLeaves : Worker → Option (Worker × Labels) → Type 0
    MoveLeaves x none = Unit {0}
    MoveLeaves x (some m) = LabelsSound g source d m.1 × Moves g source d a m.1 x m.0

    -- the move of each phase leaves that
    move_each : (input output : Bag) (phase : Phase) → WorkerSound g source d a (worker_with input output phase)
        → ((v : ℕ) → 1 ≤ copies v input → Distance g source v d) → MoveLeaves (worker_with input output phase) (move g d a input output phase)
    unfolding move look
    move_each input output free w near = go (is_empty input) refl
      where
        after : Worker × Labels
        after = (worker_with (take_rest input) output (hold_at g (taken_number input) 0), a)

        go : (b : Bool) → is_empty input ≡ b → MoveLeaves (worker_with input output free) (cond b none (some after))
        go true q = tt
        go false q = (l, take_moves w.input_shaped w.output_shaped q (near (taken_number input) (taken_held input q)))
    move_each input output (holding u i) w near = go (is_set (distance_of a (edge_target g u i))) refl
      where
        after : Bool → Worker × Labels
        after b = (worker_with input output (cond b (hold_at g u (suc i)) (in_hand u i (edge_target g u i))), a)

        go : (b : Bool) → is_set (distance_of a (edge_target g u i)) ≡ b → MoveLeaves (worker_with input output (holding u i)) (some (after b))
        go true q = (l, pass_moves w q)
        go false q = (l, hand_moves l w q)
    move_each input output (in_hand u i t) w near = (mark_sound ground l w.phase_sound.next, mark_moves w)
    move_each input output (marked u i t) w near = (name_sound ground l w.phase_sound, name_moves w)
    move_each input output (named u i t) w near = (l, stow_moves w)

  -- a move keeps the labels sound, and does to the sums what is claimed of a move
  pub move_after : {d : ℕ} {a : Labels} {x : Worker} {m : Worker × Labels} → LabelsSound g source d a → WorkerSound g source d a x
      → ((v : ℕ) → 1 ≤ copies v x.input → Distance g source v d) → move_of g d a x ≡ some m
      → LabelsSound g source d m.1 × Moves g source d a m.1 x m.0
  move_after {x = x} l w near e = rw e at (move_each l x.input x.output x.phase w near)

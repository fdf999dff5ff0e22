-- Full rounds: in a search that isn't finished one of the events of a round is effective, so a schedule that doesn't finish has no more rounds
-- than effective events.
use mathlib.Core.Path.{◌≡◌, refl, sym, ◌∙◌, ap}
use mathlib.Core.Bool.{Bool, true, false, cond, and-eq-true_iff, true≢false}
use mathlib.Core.List.{List, [], ◌∷◌, ◌++◌, map}
use mathlib.Core.Option.{Option, none, some, none-ne-some}
use Prim.Native.Nat.{ℕ, zero, suc, ◌+◌, ◌*◌, ◌≤◌, ◌<◌}
use native.Mathlib.Omega.{arith}
use lib.Dec.{eqb}
use lib.ListN.{length, drop, length-append, length-drop}
use borrow.Author.Tests.{eqb-true, eqb-false, eq-eqb, ne_eqb}
use Rattle.numbers.specs.Numbers.{max_workers}
use Rattle.lists.specs.Lists.{numbers_from}
use Rattle.graph.specs.Graph.{Graph}
use Rattle.pennant.specs.Bag.{Bag, is_empty}
use Rattle.schedule.specs.declared.Event.{Event}
use Rattle.schedule.specs.declared.Event.TheVariants.{Work, Close}
use Rattle.schedule.specs.Events.{event_of}
use Rattle.schedule.proofs.Bytes.{event_work, event_close}
use Rattle.model.specs.Paths.{Labels}
use Rattle.model.specs.State.{Phase, free, holding, in_hand, marked, named, Worker, worker_with, State, worker_at}
use Rattle.model.specs.Table.{move, after_move, all_idle, united_outputs, closed, act, move_of}
use Rattle.model.specs.Play.{Run, tally, step, play_from, round_bytes, starts_with, rounds}
use Rattle.model.proofs.Workers.{Idle, all-idle}
use Rattle.model.proofs.Plays.{tally_counts, step_on, step_crew, step_grows, play_grows, play_crew, play_unfinished, play_append}

-- One round.

-- a worker that cannot move is idle
stuck_idle : (g : Graph) (d : ℕ) (x : Labels) (input output : Bag) (phase : Phase) (b : Bool) → is_empty input ≡ b → move g d x input output phase ≡ none
    → Idle (worker_with input output phase)
unfolding move
stuck_idle g d x input output free true e h = record { input_empty = e; phase_free = refl }
stuck_idle g d x input output free false e h = absurd (none-ne-some _ (sym (rw e at h)))
stuck_idle g d x input output (holding u i) b e h = absurd (none-ne-some _ (sym h))
stuck_idle g d x input output (in_hand u i t) b e h = absurd (none-ne-some _ (sym h))
stuck_idle g d x input output (marked u i t) b e h = absurd (none-ne-some _ (sym h))
stuck_idle g d x input output (named u i t) b e h = absurd (none-ne-some _ (sym h))

-- a move put into the state is none only where the move is
move_none : (s : State) (w : ℕ) (m : Option (Worker × Labels)) → after_move s w m ≡ none → m ≡ none
unfolding after_move
move_none s w none h = refl
move_none s w (some m) h = absurd (none-ne-some _ (sym h))

-- a close where all are idle is effective
act_close : (g : Graph) (s : State) → all_idle s.workers ≡ true → act g s Close ≡ some (closed s (united_outputs s.workers))
unfolding act
act_close g s e = rw e

-- a work that isn't effective is that of an idle worker
work_idle : (g : Graph) (s : State) (w : ℕ) → act g s (Work w) ≡ none → Idle (worker_at s.workers w)
unfolding act
work_idle g s w h =
    let x = worker_at s.workers w in
    stuck_idle g s.layer s.labels x.input x.output x.phase _ refl (move_none s w (move_of g s.layer s.labels x) h)

-- one whose condition isn't met leaves the state
tally_none : (r : Run) → (tally r none).state ≡ r.state
unfolding tally
tally_none r = refl

-- the bytes of a round from worker j on
abbrev round_from : ℕ → ℕ → List ℕ
round_from j k = map (λ (w : ℕ). 8 * w) (numbers_from j k) ++ 192 ∷ []

-- a round has bytes
round_long : (P : ℕ) → 1 ≤ length (round_bytes P)
unfolding round_bytes
round_long P = omega (arith, length-append (map (λ (w : ℕ). 8 * w) (numbers_from 0 P)) (192 ∷ []))

-- a list that starts with another is that one and a rest
starts_split : (front bytes : List ℕ) → starts_with front bytes ≡ true → bytes ≡ front ++ drop (length front) bytes
unfolding starts_with
starts_split [] bytes h = refl
starts_split (x ∷ front) [] h = absurd (true≢false (sym h))
starts_split (x ∷ front) (y ∷ bytes) h =
    let both = (and-eq-true_iff (eqb x y) (starts_with front bytes)).0 h in
    rw (eqb-true x y both.0) (ap (λ (l : List ℕ). y ∷ l) (starts_split front bytes both.1))

-- and the other way
split_starts : (front rest : List ℕ) → starts_with front (front ++ rest) ≡ true
unfolding starts_with
split_starts [] rest = refl
split_starts (x ∷ front) rest = rw (eq-eqb x x refl) (split_starts front rest)

-- a round: 0, and the round from worker 1 on
round_opened : (P k : ℕ) → P ≡ suc k → round_bytes P ≡ 0 ∷ round_from 1 k
unfolding round_bytes numbers_from
round_opened P k e = rw e

-- so none starts with another byte
zero_first : (P byte : ℕ) (bytes : List ℕ) → 1 ≤ P → (byte ≡ 0 → ⊥) → starts_with (round_bytes P) (byte ∷ bytes) ≡ false
unfolding round_bytes starts_with numbers_from
zero_first zero byte bytes p h = absurd (omega arith)
zero_first (suc P) byte bytes p h = rw (ne_eqb 0 byte (λ e. h (sym e)))

-- Rounds of P workers.
module _ (g : Graph) {P : ℕ} (some_worker : 1 ≤ P) (few_workers : P ≤ max_workers) where
  -- where the workers before j are idle, one of the events of a round from j on is effective
  abbrev Grows : ℕ → ℕ → Run → Type 0
  Grows j k r = r.state.finished ≡ false → length r.state.workers ≡ P → ((w : ℕ) → w < j → Idle (worker_at r.state.workers w))
      → suc r.effective ≤ (play_from g r (round_from j k)).effective

  -- the close after all of them
  close_grows : (j : ℕ) → j ≡ P → (r : Run) → Grows j 0 r
  unfolding play_from numbers_from
  close_grows j all r live crew idle =
      let after = closed r.state (united_outputs r.state.workers) in
      let now : act g r.state (event_of 192) ≡ some after =
      rw event_close (act_close g r.state (all-idle r.state.workers (λ w h. idle w (omega arith)))) in
      let same : step g r 192 ≡ tally r (some after) = step_on g r 192 live ∙ ap (tally r) now in
      omega (arith, ap (λ (q : Run). q.effective) same, tally_counts r (some after))

  -- work by j, and what stands after it
  work_grows : (j k : ℕ) → j < P → (r : Run) → Grows (suc j) k (step g r (8 * j)) → Grows j (suc k) r
  unfolding play_from numbers_from
  work_grows j k below r others live crew idle = go (act g r.state (Work j)) refl
    where
      after : (o : Option State) → act g r.state (Work j) ≡ o → step g r (8 * j) ≡ tally r o
      after o h = step_on g r (8 * j) live ∙ ap (λ (v : Event). tally r (act g r.state v)) (event_work j (omega arith)) ∙ ap (tally r) h

      next : (w : ℕ) → w < suc j → (b : Bool) → eqb w j ≡ b → Idle (worker_at r.state.workers j) → Idle (worker_at r.state.workers w)
      next w h true at here = rw (eqb-true w j at) here
      next w h false at here = idle w (omega (arith, eqb-false w j at))

      go : (o : Option State) → act g r.state (Work j) ≡ o → suc r.effective ≤ (play_from g (step g r (8 * j)) (round_from (suc j) k)).effective
      go none h =
          let same : (step g r (8 * j)).state ≡ r.state = ap (λ (q : Run). q.state) (after none h) ∙ tally_none r in
          let rest = others (rw same live) (rw same crew) (λ w below. rw same (next w below _ refl (work_idle g r.state j h))) in
          omega (arith, ap (λ (q : Run). q.effective) (after none h), tally_counts r none, rest)
      go (some t) h =
          omega (arith, ap (λ (q : Run). q.effective) (after (some t) h), tally_counts r (some t), play_grows g (step g r (8 * j)) (round_from (suc j) k))

  -- the round from j on
  round_grows : (k j : ℕ) → j + k ≡ P → (r : Run) → Grows j k r
  round_grows zero j e r = close_grows j (omega arith) r
  round_grows (suc k) j e r = work_grows j k (omega arith) r (round_grows k (suc j) (omega arith) (step g r (8 * j)))

  -- a full round, in any state that isn't finished
  full_round : (r : Run) → r.state.finished ≡ false → length r.state.workers ≡ P → suc r.effective ≤ (play_from g r (round_bytes P)).effective
  unfolding round_bytes
  full_round r live crew = round_grows P 0 (omega arith) r live crew (λ w h. absurd (omega arith))

  -- Counting rounds where they stand.

  -- no round starts within a round
  rounds_after : (k j : ℕ) → 1 ≤ j → (rest : List ℕ) → rounds P (round_from j k ++ rest) ≡ rounds P rest
  unfolding rounds numbers_from
  rounds_after zero j h rest = rw (zero_first P 192 rest some_worker (λ e. omega arith)) (omega arith)
  rounds_after (suc k) j h rest =
      rw (zero_first P (8 * j) (round_from (suc j) k ++ rest) some_worker (λ e. omega arith)) (omega (arith, rounds_after k (suc j) (omega arith) rest))

  -- a full round counts one, whatever stands after it
  rounds_round : (rest : List ℕ) → rounds P (round_bytes P ++ rest) ≡ suc (rounds P rest)
  unfolding rounds
  rounds_round rest = go P refl
    where
      go : (q : ℕ) → P ≡ q → rounds P (round_bytes P ++ rest) ≡ suc (rounds P rest)
      go zero e = absurd (omega arith)
      go (suc k) e =
          let opened : round_bytes P ≡ 0 ∷ round_from 1 k = round_opened P k e in
          let starts = sym (ap (λ (l : List ℕ). starts_with (round_bytes P) (l ++ rest)) opened) ∙ split_starts (round_bytes P) rest in
          ap (λ (l : List ℕ). rounds P (l ++ rest)) opened ∙ rw starts (omega (arith, rounds_after k 1 (omega arith) rest))

  -- a schedule of at most so many bytes that doesn't finish has no more rounds than effective events
  abbrev RoundsCovered : ℕ → Type 0
  RoundsCovered most = (r : Run) (schedule : List ℕ) → length schedule ≤ most → length r.state.workers ≡ P → (play_from g r schedule).state.finished ≡ false
      → r.effective + rounds P schedule ≤ (play_from g r schedule).effective

  module _ (most : ℕ) (shorter : RoundsCovered most) (r : Run) (crew : length r.state.workers ≡ P) where
    -- a byte at which no round starts
    byte_covered : (byte : ℕ) (schedule : List ℕ) → length schedule ≤ most → (play_from g (step g r byte) schedule).state.finished ≡ false
        → r.effective + rounds P schedule ≤ (play_from g (step g r byte) schedule).effective
    byte_covered byte schedule h f = omega (arith, shorter (step g r byte) schedule h (step_crew g r byte _ refl ∙ crew) f, step_grows g r byte _ refl)

    -- a round, and what stands after it
    round_covered : (rest : List ℕ) → length rest ≤ most → (play_from g r (round_bytes P ++ rest)).state.finished ≡ false
        → suc r.effective + rounds P rest ≤ (play_from g r (round_bytes P ++ rest)).effective
    round_covered rest h f =
        let apart = play_append g r (round_bytes P) rest in
        let live = play_unfinished g r (round_bytes P ++ rest) _ refl f in
        let covered = shorter (play_from g r (round_bytes P)) rest h (play_crew g r (round_bytes P) ∙ crew) (sym (ap (λ (x : Run). x.state.finished) apart) ∙ f) in
        omega (arith, covered, full_round r live crew, ap (λ (x : Run). x.effective) apart)

    -- bytes that start with a round
    start_covered : (bytes : List ℕ) → length bytes ≤ suc most → (play_from g r bytes).state.finished ≡ false → starts_with (round_bytes P) bytes ≡ true
        → r.effective + rounds P bytes ≤ (play_from g r bytes).effective
    start_covered bytes h f e =
        let rest = drop (length (round_bytes P)) bytes in
        let apart : bytes ≡ round_bytes P ++ rest = starts_split (round_bytes P) bytes e in
        let short : length rest ≤ most = omega (arith, length-drop (length (round_bytes P)) bytes, round_long P) in
        let covered = round_covered rest short (sym (ap (λ (l : List ℕ). (play_from g r l).state.finished) apart) ∙ f) in
        omega (arith, covered, ap (rounds P) apart, rounds_round rest, ap (λ (l : List ℕ). (play_from g r l).effective) apart)

  -- one byte more
  more_covered : (most : ℕ) → RoundsCovered most → RoundsCovered (suc most)
  unfolding rounds play_from
  more_covered most shorter r [] h crew f = omega arith
  more_covered most shorter r (byte ∷ schedule) h crew f = go (starts_with (round_bytes P) (byte ∷ schedule)) refl
    where
      go : (b : Bool) → starts_with (round_bytes P) (byte ∷ schedule) ≡ b
          → r.effective + (cond b 1 0 + rounds P schedule) ≤ (play_from g (step g r byte) schedule).effective
      go false e = omega (arith, byte_covered most shorter r crew byte schedule (omega arith) f)
      go true e =
          let here : rounds P (byte ∷ schedule) ≡ 1 + rounds P schedule = rw e in
          omega (arith, here, start_covered most shorter r crew (byte ∷ schedule) h f e)

  -- schedules of every length
  all_covered : (most : ℕ) → RoundsCovered most
  unfolding rounds play_from
  all_covered zero r [] h crew f = omega arith
  all_covered zero r (byte ∷ schedule) h crew f = absurd (omega arith)
  all_covered (suc most) r schedule h crew f = more_covered most (all_covered most) r schedule h crew f

  -- a schedule that doesn't finish has no more rounds than effective events
  pub rounds_count : (r : Run) (schedule : List ℕ) → length r.state.workers ≡ P → (play_from g r schedule).state.finished ≡ false
      → r.effective + rounds P schedule ≤ (play_from g r schedule).effective
  rounds_count r schedule crew f = all_covered (length schedule) r schedule (omega arith) crew f

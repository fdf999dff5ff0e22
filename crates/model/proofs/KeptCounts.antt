-- The counts as they are kept: each byte adds to them what it adds to a recount of the distances, so they are a recount after every byte; and what
-- they tell of a sound state.
use mathlib.Core.Path.{◌≡◌, refl, sym, ap, ◌∙◌}
use mathlib.Core.Bool.{Bool, true, false, cond, not, ◌&&◌}
use mathlib.Core.List.{List}
use mathlib.Core.Option.{Option, none, some, none-ne-some}
use Prim.Native.Nat.{ℕ, zero, suc, ◌+◌, ◌≤◌, ◌<◌}
use native.Mathlib.Nat.{zero-add}
use native.Mathlib.Decide.{dec_le}
use native.Mathlib.Omega.{arith}
use lib.Dec.{eqb, ltb}
use lib.ListN.{length, get_or, set, take, replicate, length-replicate}
use lib.Seq.{set-get_or, take_all}
use borrow.Author.Tests.{lt-ltb, le-ltb}
use Rattle.numbers.specs.Numbers.{max_workers}
use Rattle.lists.specs.Lists.{numbers_from, sum_of}
use Rattle.lists.proofs.Parts.{get_or_repeated}
use Rattle.lists.proofs.Replaced.{map_agree}
use Rattle.lists.proofs.Sums.{sum_replicate, sum_last}
use Rattle.graph.specs.Graph.{Graph}
use Rattle.pennant.specs.Bag.{is_empty}
use Rattle.schedule.specs.declared.Event.{Event}
use Rattle.schedule.specs.declared.Event.TheVariants.{Work, Split, Unite, Close, Malformed}
use Rattle.schedule.specs.Events.{event_of}
use Rattle.model.specs.Paths.{Distance, Labels, distance_of, is_set}
use Rattle.model.specs.State.{Phase, free, holding, in_hand, marked, named, Worker, State, worker_at, opening_labels, opening_state}
use Rattle.model.specs.Table.{mark, name, move, after_move, united_outputs, act}
use Rattle.model.specs.Play.{Run, tally, step, play_from, play, state_at}
use Rattle.model.specs.Histogram.{stands_at, recount, marks_unset, first_mark, added_at, counts_at, Counts}
use Rattle.model.proofs.Sound.{Ground, LabelsSound, PhaseSound, Sound}
use Rattle.model.proofs.LabelFacts.{layer_written}
use Rattle.model.proofs.HistogramFacts.{stands_set, recount_counts}
use Rattle.model.proofs.Workers.{split_met, unite_met, close_met}
use Rattle.model.proofs.MovingLabels.{written_is, has_distance}
use Rattle.model.proofs.Fits.{sound_fits}
use Rattle.model.proofs.Plays.{step_over, step_on}
use Rattle.model.proofs.Steps.{Good, closed_labels}
use Rattle.model.proofs.Used.{play_more}

-- How many vertices stand at h.
module _ (h : ℕ) where
  -- by the labels
  abbrev standing : Labels → ℕ
  standing x = sum_of (stands_at h) x.distances

  -- an event that leaves the labels adds none, be its condition met or not
  unmarked : (r : Run) (o : Option State) → ((t : State) → o ≡ some t → r.state.labels ≡ t.labels)
      → standing (tally r o).state.labels ≡ standing r.state.labels + 0
  unfolding tally
  unmarked r none same = omega arith
  unmarked r (some t) same = rw (← same t refl) (omega arith)

  -- nor does a worker that takes, be there anything to take or not
  untaken : (r : Run) (w : ℕ) (b : Bool) (x : Worker)
      → standing (tally r (after_move r.state w (cond b none (some (x, r.state.labels))))).state.labels ≡ standing r.state.labels + 0
  unfolding tally after_move
  untaken r w true x = omega arith
  untaken r w false x = omega arith

  module _ {g : Graph} {source : ℕ} (ground : Ground g source) where
    -- a mark adds one at d + 1, if what is marked is unset
    mark_adds : {d : ℕ} {x : Labels} {t : ℕ} → LabelsSound g source d x → Distance g source t (suc d)
        → standing (mark d t x) ≡ standing x + cond (not (is_set (distance_of x t)) && eqb h (suc d)) 1 0
    unfolding mark
    mark_adds {d} {x} {t} l next = go (distance_of x t) refl
      where
        go : (o : Option ℕ) → distance_of x t ≡ o
            → sum_of (stands_at h) (set x.distances t (some (suc d))) ≡ standing x + cond (not (is_set o) && eqb h (suc d)) 1 0
        go none e = stands_set x.distances t (suc d) h (has_distance ground l next) e
        go (some k) e =
            let as_it_was : set x.distances t (some (suc d)) ≡ x.distances = rw (e, written_is l e next) at (set-get_or x.distances t none) in
            rw as_it_was (omega arith)

    -- a work adds one at d + 1, if it is such a mark
    work_adds : {P : ℕ} (r : Run) (w : ℕ) → Sound g source P r.state
        → standing (tally r (act g r.state (Work w))).state.labels
        ≡ standing r.state.labels + cond (marks_unset r.state.labels (worker_at r.state.workers w).phase && eqb h (suc r.state.layer)) 1 0
    unfolding tally act after_move move name
    work_adds r w sound = go worker.phase (sound.crew_sound.each w).phase_sound
      where
        s : State
        s = r.state

        worker : Worker
        worker = worker_at s.workers w

        go : (p : Phase) → PhaseSound g source s.layer s.labels p
            → standing (tally r (after_move s w (move g s.layer s.labels worker.input worker.output p))).state.labels
            ≡ standing s.labels + cond (marks_unset s.labels p && eqb h (suc s.layer)) 1 0
        go free k = untaken r w (is_empty worker.input) _
        go (holding u i) k = omega arith
        go (in_hand u i t) k = mark_adds sound.labels_sound k.next
        go (marked u i t) k = omega arith
        go (named u i t) k = omega arith

    -- any event does
    event_adds : {P : ℕ} (r : Run) (e : Event) → Sound g source P r.state
        → standing (tally r (act g r.state e)).state.labels
        ≡ standing r.state.labels + cond (first_mark r.state e && eqb h (suc r.state.layer)) 1 0
    unfolding act first_mark
    event_adds r (Work w) sound = work_adds r w sound
    event_adds r (Split w v) sound = unmarked r (act g r.state (Split w v)) (λ t e. ap (λ (s : State). s.labels) (split_met g r.state w v e).2)
    event_adds r (Unite w v) sound = unmarked r (act g r.state (Unite w v)) (λ t e. ap (λ (s : State). s.labels) (unite_met g r.state w v e).2)
    event_adds r Close sound = unmarked r (act g r.state Close) (λ t e.
        sym (closed_labels r.state (united_outputs r.state.workers) _ refl) ∙ ap (λ (s : State). s.labels) (close_met g r.state e).1)
    event_adds r Malformed sound = unmarked r none (λ t e. absurd (none-ne-some t e))

    -- a byte does, if it is used
    byte_adds : {P : ℕ} (r : Run) (byte : ℕ) → Sound g source P r.state → (f : Bool) → r.state.finished ≡ f
        → standing (step g r byte).state.labels
        ≡ standing r.state.labels + cond (not f && first_mark r.state (event_of byte) && eqb h (suc r.state.layer)) 1 0
    byte_adds r byte sound true e = rw (step_over g r byte e) (omega arith)
    byte_adds r byte sound false e = rw (step_on g r byte e) (event_adds r (event_of byte) sound)

-- A run from the opening.
module _ {g : Graph} {source : ℕ} (ground : Ground g source) {P : ℕ} (schedule : List ℕ)
    (good : (k : ℕ) → Good g source P (play g source P (take k schedule))) where
  -- at the opening the source alone stands somewhere, at 0
  standing_start : (h : ℕ) → standing h (state_at g source P schedule 0).labels ≡ stands_at h (some 0)
  unfolding state_at play play_from opening_state opening_labels
  standing_start h =
      let unset : List (Option ℕ) = replicate (length g) none in
      let all : length unset ≡ length g = length-replicate (length g) none in
      let own = stands_set unset source 0 h (omega arith) (get_or_repeated (length g) source none) in
      omega (arith, sum_replicate (stands_at h) (length g) none)

  -- what byte k adds, by whether there is one
  added_by : (h k : ℕ) (there : Bool) → ltb k (length schedule) ≡ there → let s = state_at g source P schedule k in
      added_at g source P schedule h k ≡ cond ((there && not s.finished) && first_mark s (event_of (get_or schedule k 0)) && eqb h (suc s.layer)) 1 0
  unfolding added_at
  added_by h k there e =
      let s = state_at g source P schedule k in
      ap (λ (b : Bool). cond ((b && not s.finished) && first_mark s (event_of (get_or schedule k 0)) && eqb h (suc s.layer)) 1 0) e

  -- it adds that to what stands at h, and past the schedule's end nothing does
  standing_next : (h k : ℕ) → Dec (k < length schedule)
      → standing h (state_at g source P schedule (suc k)).labels ≡ standing h (state_at g source P schedule k).labels + added_at g source P schedule h k
  unfolding state_at
  standing_next h k (yes below) =
      let r = play g source P (take k schedule) in
      let next = byte_adds h ground r (get_or schedule k 0) (good k).sound _ refl in
      let played = ap (λ (q : Run). standing h q.state.labels) (play_more g source P schedule k below) in
      omega (arith, added_by h k true (lt-ltb k (length schedule) below))
  standing_next h k (no past) =
      let same : take (suc k) schedule ≡ take k schedule = take_all (suc k) schedule (omega arith) ∙ sym (take_all k schedule (omega arith)) in
      let played = ap (λ (l : List ℕ). standing h (play g source P l).state.labels) same in
      omega (arith, added_by h k false (le-ltb k (length schedule) (omega arith)))

  -- after k bytes there stands at h what stood there at the start, and what the bytes have added
  standing_at : (h k : ℕ)
      → stands_at h (some 0) + sum_of (added_at g source P schedule h) (numbers_from 0 k) ≡ standing h (state_at g source P schedule k).labels
  unfolding sum_of numbers_from
  standing_at h zero = omega (arith, standing_start h)
  standing_at h (suc k) =
      let one_more = rw (zero-add k) at (sum_last (added_at g source P schedule h) 0 k) in
      omega (arith, standing_next h k (dec_le (suc k) (length schedule)), standing_at h k)

  -- so the counts as kept are a recount
  kept_recount : (k : ℕ) → counts_at g source P schedule k ≡ recount (state_at g source P schedule k).labels.distances
  unfolding counts_at recount state_at
  kept_recount k =
      let places = numbers_from 0 (length g) in
      rw (good k).sound.labels_sound.distances_all (map_agree _ _ 0 places (λ i h. standing_at (get_or places i 0) k))

  -- and tell what counts tell
  pub kept_counts : P ≤ max_workers → (k : ℕ)
      → Counts (state_at g source P schedule k).labels.distances (state_at g source P schedule k).layer (counts_at g source P schedule k)
  unfolding state_at
  kept_counts few k =
      let sound = (good k).sound in
      let fits = sound_fits ground few sound in
      let s = state_at g source P schedule k in
      rw (kept_recount k) (recount_counts s.labels.distances s.layer
      (λ v d e. rw fits.distances_all (fits.distances_below v d e))
      (layer_written sound.labels_sound))

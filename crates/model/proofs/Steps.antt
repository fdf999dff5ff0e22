-- One event, and one byte: what they keep. Every event's part (a move, a split, a union, a close) is proved in its own file; here they are joined.
use mathlib.Core.Path.{◌≡◌, refl, sym, ◌∙◌, ap}
use mathlib.Core.Bool.{Bool, true, false, true≢false}
use mathlib.Core.List.{List}
use mathlib.Core.Option.{Option, none, some, none-ne-some}
use Prim.Native.Nat.{ℕ, suc, ◌+◌, ◌≤◌, ◌<◌}
use native.Mathlib.Omega.{arith}
use Rattle.lists.proofs.Sums.{sum_at}
use Rattle.graph.specs.Graph.{Graph}
use Rattle.pennant.specs.Bag.{Bag, is_empty}
use Rattle.pennant.specs.Held.{only, copies}
use Rattle.pennant.proofs.Laws.{weigh_empty}
use Rattle.schedule.specs.declared.Event.{Event}
use Rattle.schedule.specs.declared.Event.TheVariants.{Work, Split, Unite, Close, Malformed}
use Rattle.schedule.specs.Events.{event_of, within}
use Rattle.schedule.proofs.Bytes.{Staffed, byte_staffed}
use Rattle.model.specs.Paths.{Distance, Labels, distance_of}
use Rattle.model.proofs.Certified.{Certified}
use Rattle.model.specs.State.{Worker, idle_worker, State, worker_at}
use Rattle.model.specs.Table.{moved_state, ended_state, replace_workers, split_inputs, unite_outputs, all_idle, united_outputs, closed, act}
use Rattle.model.specs.Play.{Run, tally, step, event_bound}
use Rattle.model.specs.Demand.{LayerOpen}
use Rattle.model.proofs.Sound.{Ground, CrewSound, Sound}
use Rattle.model.proofs.Workers.{work_met, split_met, unite_met, close_met}
use Rattle.model.proofs.Cost.{cost}
use Rattle.model.proofs.Plays.{step_over, step_on}
use Rattle.model.proofs.Moving.{move_after}
use Rattle.model.proofs.Crew.{crew_moves, crew_split, crew_unite}
use Rattle.model.proofs.Closing.{close_sound, close_opens, close_certified}
use Rattle.model.proofs.Costs.{work_cost, split_cost, unite_cost, close_cost}

-- the distances that are set stay as they are set
abbrev pub Stays : Labels → Labels → Type 0
Stays a b = (v k : ℕ) → distance_of a v ≡ some k → distance_of b v ≡ some k

-- what an effective event leaves: a sound state, what is set as it is set, an open layer if d was raised, a certified result if the search is
-- finished, and less to pay
record EventLeaves (g : Graph) (source P : ℕ) (s t : State) : Type 0 where
  sound : Sound g source P t
  stays : Stays s.labels t.labels
  opens : (t.layer ≡ s.layer → ⊥) → LayerOpen g source P t
  ended : t.finished ≡ true → Certified g source t.labels
  cheaper : suc (cost P g t) ≤ cost P g s

-- what an event leaves that is no close: the layer stays
record Kept (g : Graph) (source P : ℕ) (s t : State) : Type 0 where
  sound : Sound g source P t
  stays : Stays s.labels t.labels
  same_layer : t.layer ≡ s.layer
  same_end : t.finished ≡ s.finished

-- in a search that isn't finished, with less to pay
kept_after : {g : Graph} {source P : ℕ} {s t : State} → Kept g source P s t → s.finished ≡ false → suc (cost P g t) ≤ cost P g s
    → EventLeaves g source P s t
kept_after k live less = record {
  sound = k.sound;
  stays = k.stays;
  opens = λ other. absurd (other k.same_layer);
  ended = λ e. absurd (true≢false (sym e ∙ k.same_end ∙ live));
  cheaper = less;
}

module _ {g : Graph} {source P : ℕ} where
  -- the vertices of one input bag belong to this layer
  input_within : {d : ℕ} {x : Labels} (workers : List Worker) → CrewSound g source P d x workers → (w v : ℕ)
      → 1 ≤ copies v (worker_at workers w).input → Distance g source v d
  input_within workers c w v h = c.input_near v (omega (arith, sum_at (λ (y : Worker). copies v y.input) workers w idle_worker (weigh_empty (only v))))

  -- work: a worker's move
  work_kept : Ground g source → (s t : State) (w : ℕ) → Sound g source P s → w < P → act g s (Work w) ≡ some t → Kept g source P s t
  work_kept ground s t w h below k =
      let met = work_met g s w k in
      let near = input_within s.workers h.crew_sound w in
      let moves = move_after ground h.labels_sound (h.crew_sound.each w) near met.1 in
      let kept : Kept g source P s (moved_state s w met.0) = record {
        sound = record { labels_sound = moves.0; crew_sound = crew_moves s.workers w met.0.0 h.crew_sound below moves.1 };
        stays = moves.1.keeps;
        same_layer = refl;
        same_end = refl;
      } in
      rw (← met.2) kept

  -- other workers, the same labels
  workers_kept : (s : State) (workers : List Worker) → Sound g source P s → CrewSound g source P s.layer s.labels workers
      → Kept g source P s (replace_workers s workers)
  workers_kept s workers h c = record {
    sound = record { labels_sound = h.labels_sound; crew_sound = c };
    stays = λ v k e. e;
    same_layer = refl;
    same_end = refl;
  }

  -- a split
  split_kept : (s t : State) (w v : ℕ) → Sound g source P s → Staffed P (Split w v) → act g s (Split w v) ≡ some t → Kept g source P s t
  split_kept s t w v h fits k =
      let met = split_met g s w v k in
      let crew = crew_split s.workers w v h.crew_sound fits.0 fits.1 fits.2 met.0 in
      rw (← met.2) (workers_kept s (split_inputs s.workers w v) h crew)

  -- a union
  unite_kept : (s t : State) (w v : ℕ) → Sound g source P s → Staffed P (Unite w v) → act g s (Unite w v) ≡ some t → Kept g source P s t
  unite_kept s t w v h fits k =
      let met = unite_met g s w v k in
      let crew = crew_unite s.workers w v h.crew_sound fits.0 fits.1 fits.2 in
      rw (← met.2) (workers_kept s (unite_outputs s.workers w v) h crew)

-- a close of an empty united bag: the search is finished, and all else stays
closed_empty : (s : State) (bag : Bag) → is_empty bag ≡ true
    → closed s bag ≡ ended_state s
unfolding closed
closed_empty s bag e = rw e

-- a close of any other: the search isn't finished
closed_filled : (s : State) (bag : Bag) → is_empty bag ≡ false → (closed s bag).finished ≡ false
unfolding closed
closed_filled s bag e = rw e

-- either way the labels stay
pub closed_labels : (s : State) (bag : Bag) (b : Bool) → is_empty bag ≡ b → (closed s bag).labels ≡ s.labels
unfolding closed
closed_labels s bag true e = rw e
closed_labels s bag false e = rw e

-- and so do the distances that are set
closed_stays : (s : State) (bag : Bag) → Stays s.labels (closed s bag).labels
closed_stays s bag v k e = ap (λ (x : Labels). distance_of x v) (closed_labels s bag _ refl) ∙ e

module _ {g : Graph} {source P : ℕ} where
  -- an effective close
  closed_after : (s : State) → 1 ≤ P → Sound g source P s → all_idle s.workers ≡ true
      → suc (cost P g (closed s (united_outputs s.workers))) ≤ cost P g s
      → (b : Bool) → is_empty (united_outputs s.workers) ≡ b → EventLeaves g source P s (closed s (united_outputs s.workers))
  closed_after s p h idle less true e =
      let bag = united_outputs s.workers in
      let over : State = ended_state s in
      let same : closed s bag ≡ over = closed_empty s bag e in
      let sound : Sound g source P over = record { labels_sound = h.labels_sound; crew_sound = h.crew_sound } in
      record {
        sound = rw same sound;
        stays = closed_stays s bag;
        opens = λ other. absurd (other (ap (λ (t : State). t.layer) same));
        ended = λ f. rw same (close_certified h idle e);
        cheaper = less;
      }
  closed_after s p h idle less false e = record {
    sound = close_sound p h idle e;
    stays = closed_stays s (united_outputs s.workers);
    opens = λ other. close_opens p h idle e;
    ended = λ f. absurd (true≢false (sym f ∙ closed_filled s (united_outputs s.workers) e));
    cheaper = less;
  }

-- a run so far: a sound state, what was paid and what is still to pay, and a certified result once it is finished
pub record Good (g : Graph) (source P : ℕ) (r : Run) : Type 0 where
  pub sound : Sound g source P r.state
  pub paid : r.effective + cost P g r.state ≤ event_bound g P
  pub ended : r.state.finished ≡ true → Certified g source r.state.labels

-- a byte: the run stays good, what is set stays as it is set, and a layer that opens is opened
pub record ByteLeaves (g : Graph) (source P : ℕ) (r q : Run) : Type 0 where
  pub good : Good g source P q
  pub stays : Stays r.state.labels q.state.labels
  pub opens : (q.state.layer ≡ r.state.layer → ⊥) → LayerOpen g source P q.state

-- a run that stays where it is, but for the bytes used
next_same : {g : Graph} {source P : ℕ} (r q : Run) → Good g source P r → q.state ≡ r.state → q.effective ≡ r.effective → ByteLeaves g source P r q
next_same {g} {source} {P} r q h same count =
    let good : Good g source P q = record {
      sound = rw same h.sound;
      paid = omega (arith, h.paid, count, ap (cost P g) same);
      ended = λ f. rw same (h.ended (sym (ap (λ (s : State). s.finished) same) ∙ f));
    } in
    record {
      good = good;
      stays = λ v k e. ap (λ (s : State). distance_of s.labels v) same ∙ e;
      opens = λ other. absurd (other (ap (λ (s : State). s.layer) same));
    }

module _ {g : Graph} {source : ℕ} (ground : Ground g source) {P : ℕ} (some_worker : 1 ≤ P) where
  -- an effective event
  act_after : (s t : State) (e : Event) → Sound g source P s → s.finished ≡ false → Staffed P e → act g s e ≡ some t → EventLeaves g source P s t
  unfolding act
  act_after s t (Work w) h live below k = kept_after (work_kept ground s t w h below k) live (work_cost ground w h below k)
  act_after s t (Split w v) h live fits k = kept_after (split_kept s t w v h fits k) live (split_cost w v h fits.0 fits.1 fits.2 k)
  act_after s t (Unite w v) h live fits k = kept_after (unite_kept s t w v h fits k) live (unite_cost w v h fits.0 fits.1 fits.2 k)
  act_after s t Close h live fits k =
      let met = close_met g s k in
      rw (← met.1) (closed_after s some_worker h met.0 (rw met.1 (close_cost some_worker h live k)) _ refl)
  act_after s t Malformed h live fits k = absurd (none-ne-some t k)

  -- a byte whose event is met or not
  tally_next : (r : Run) (e : Event) → Good g source P r → r.state.finished ≡ false → Staffed P e
      → (o : Option State) → act g r.state e ≡ o → ByteLeaves g source P r (tally r o)
  unfolding tally
  tally_next r e h live fits none k = next_same r (tally r none) h refl refl
  tally_next r e h live fits (some t) k =
      let after = act_after r.state t e h.sound live fits k in
      let good : Good g source P (tally r (some t)) = record { sound = after.sound; paid = omega (arith, h.paid, after.cheaper); ended = after.ended } in
      record { good = good; stays = after.stays; opens = after.opens }

  -- a byte
  pub step_next : (r : Run) (byte : ℕ) → Good g source P r → within P (event_of byte) ≡ true → (f : Bool) → r.state.finished ≡ f
      → ByteLeaves g source P r (step g r byte)
  step_next r byte h w true f = rw (step_over g r byte f) (next_same r r h refl refl)
  step_next r byte h w false f = rw (step_on g r byte f) (tally_next r (event_of byte) h f (byte_staffed P byte (event_of byte) refl w) _ refl)

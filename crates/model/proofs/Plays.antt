-- What bytes do to a run, one and many: the number of workers stays, the effective count never falls, and after the finishing event nothing is used.
use mathlib.Core.Path.{◌≡◌, refl, sym, ◌∙◌, ap}
use mathlib.Core.Bool.{Bool, true, false, true≢false}
use mathlib.Core.List.{List, [], ◌∷◌, ◌++◌, map, foldl, foldl-append}
use mathlib.Core.Option.{Option, none, some, none-ne-some}
use Prim.Native.Nat.{ℕ, suc, ◌+◌, ◌≤◌}
use native.Mathlib.Omega.{arith}
use lib.ListN.{length, length-set, length-map}
use Rattle.lists.specs.Lists.{some_one}
use Rattle.lists.proofs.Replaced.{length_two}
use Rattle.graph.specs.Graph.{Graph}
use Rattle.pennant.specs.Bag.{Bag, is_empty}
use Rattle.schedule.specs.declared.Event.{Event}
use Rattle.schedule.specs.declared.Event.TheVariants.{Work, Split, Unite, Close, Malformed}
use Rattle.schedule.specs.Events.{event_of}
use Rattle.model.specs.State.{State}
use Rattle.model.specs.Table.{split_inputs, unite_outputs, united_outputs, closed, act, handed_in}
use Rattle.model.specs.Play.{Run, tally, step, play_from}
use Rattle.model.proofs.Workers.{work_met, split_met, unite_met, close_met}

-- No event adds or removes a worker.

-- a close
closed_crew : (s : State) (bag : Bag) (b : Bool) → is_empty bag ≡ b → length (closed s bag).workers ≡ length s.workers
unfolding closed
closed_crew s bag true e = rw e
closed_crew s bag false e = rw e (length-set (map handed_in s.workers) 0 _ ∙ length-map s.workers handed_in)

-- any event
act_crew : (g : Graph) (s t : State) (e : Event) → act g s e ≡ some t → length t.workers ≡ length s.workers
unfolding act split_inputs unite_outputs
act_crew g s t (Work w) h = let met = work_met g s w h in rw (← met.2) (length-set s.workers w met.0.0)
act_crew g s t (Split w v) h = rw (← (split_met g s w v h).2) (length_two s.workers v w _ _)
act_crew g s t (Unite w v) h = rw (← (unite_met g s w v h).2) (length_two s.workers v w _ _)
act_crew g s t Close h = rw (← (close_met g s h).1) (closed_crew s (united_outputs s.workers) _ refl)
act_crew g s t Malformed h = absurd (none-ne-some t h)

-- One byte, and many.

-- a tally keeps the number of workers
tally_crew : (g : Graph) (r : Run) (e : Event) (o : Option State) → act g r.state e ≡ o → length (tally r o).state.workers ≡ length r.state.workers
unfolding tally
tally_crew g r e none h = refl
tally_crew g r e (some t) h = act_crew g r.state t e h

-- a byte after the finishing event is not used
pub step_over : (g : Graph) (r : Run) (byte : ℕ) → r.state.finished ≡ true → step g r byte ≡ r
unfolding step
step_over g r byte e = rw e

-- any other is
pub step_on : (g : Graph) (r : Run) (byte : ℕ) → r.state.finished ≡ false → step g r byte ≡ tally r (act g r.state (event_of byte))
unfolding step
step_on g r byte e = rw e

-- a byte keeps the number of workers
pub step_crew : (g : Graph) (r : Run) (byte : ℕ) (f : Bool) → r.state.finished ≡ f → length (step g r byte).state.workers ≡ length r.state.workers
step_crew g r byte true e = ap (λ (q : Run). length q.state.workers) (step_over g r byte e)
step_crew g r byte false e = ap (λ (q : Run). length q.state.workers) (step_on g r byte e) ∙ tally_crew g r (event_of byte) _ refl

-- a tally uses one byte, and counts it where its condition is met
pub tally_counts : (r : Run) (o : Option State) → ((tally r o).used ≡ suc r.used) × ((tally r o).effective ≡ r.effective + some_one o)
unfolding tally
tally_counts r none = (refl, omega arith)
tally_counts r (some t) = (refl, omega arith)

-- a byte never lowers the count
pub step_grows : (g : Graph) (r : Run) (byte : ℕ) (f : Bool) → r.state.finished ≡ f → r.effective ≤ (step g r byte).effective
step_grows g r byte true e = omega (arith, ap (λ (q : Run). q.effective) (step_over g r byte e))
step_grows g r byte false e = omega (arith, ap (λ (q : Run). q.effective) (step_on g r byte e), tally_counts r (act g r.state (event_of byte)))

-- nor do many
pub play_grows : (g : Graph) (r : Run) (schedule : List ℕ) → r.effective ≤ (play_from g r schedule).effective
unfolding play_from
play_grows g r [] = omega arith
play_grows g r (byte ∷ schedule) = omega (arith, step_grows g r byte _ refl, play_grows g (step g r byte) schedule)

-- they keep the number of workers
pub play_crew : (g : Graph) (r : Run) (schedule : List ℕ) → length (play_from g r schedule).state.workers ≡ length r.state.workers
unfolding play_from
play_crew g r [] = refl
play_crew g r (byte ∷ schedule) = play_crew g (step g r byte) schedule ∙ step_crew g r byte _ refl

-- once finished, nothing is used
pub play_finished : (g : Graph) (r : Run) (schedule : List ℕ) → r.state.finished ≡ true → play_from g r schedule ≡ r
unfolding play_from
play_finished g r [] e = refl
play_finished g r (byte ∷ schedule) e = ap (λ (q : Run). foldl (step g) q schedule) (step_over g r byte e) ∙ play_finished g r schedule e

-- a run that isn't finished at the end isn't finished at the start
pub play_unfinished : (g : Graph) (r : Run) (schedule : List ℕ) (f : Bool) → r.state.finished ≡ f → (play_from g r schedule).state.finished ≡ false → f ≡ false
play_unfinished g r schedule false e h = refl
play_unfinished g r schedule true e h =
    absurd (true≢false (sym e ∙ sym (ap (λ (q : Run). q.state.finished) (play_finished g r schedule e)) ∙ h))

-- two schedules, one after the other
pub play_append : (g : Graph) (r : Run) (a b : List ℕ) → play_from g r (a ++ b) ≡ play_from g (play_from g r a) b
unfolding play_from
play_append g r a b = foldl-append (step g) r a b

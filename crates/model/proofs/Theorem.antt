-- Demand 3: for every graph, source, P and schedule that document 01 accepts, finished or spent, one claim about the whole schedule.
use mathlib.Core.Path.{◌≡◌, refl, sym, ap, subst}
use mathlib.Core.Bool.{Bool, true, false, true≢false}
use mathlib.Core.List.{List, [], ◌∷◌}
use mathlib.Core.Option.{some}
use Prim.Native.Nat.{ℕ, suc, ◌≤◌, ◌<◌}
use native.Mathlib.Omega.{arith}
use lib.ListN.{length, get_or, take}
use Rattle.graph.specs.Graph.{Graph}
use Rattle.schedule.specs.Check.{any_stray}
use Rattle.schedule.proofs.Bytes.{stray_none}
use Rattle.schedule.proofs.Schedules.{stray_take, stray_at}
use Rattle.model.specs.Paths.{distance_of}
use Rattle.model.specs.State.{State, opening_state}
use Rattle.model.specs.Play.{Run, step, play_from, opening_run, play, state_at, rounds, event_bound}
use Rattle.model.specs.Demand.{Accepted, LayerOpen, Demand}
use Rattle.model.proofs.Sound.{Ground}
use Rattle.model.proofs.Cost.{finish_cost, cost}
use Rattle.model.proofs.Rounds.{rounds_count}
use Rattle.model.proofs.Used.{play_more, told_all}
use Rattle.model.proofs.Steps.{Good, ByteLeaves, step_next}
use Rattle.model.proofs.Certificate.{certified_right}
use Rattle.model.proofs.Fits.{sound_fits}
use Rattle.model.proofs.KeptCounts.{kept_counts}
use Rattle.model.proofs.Opening.{opening_sound, opening_opens}
use Rattle.model.proofs.SerialRun.{serial_run}
use Rattle.model.proofs.Costs.{opening_cost}

module _ {g : Graph} {source : ℕ} (ground : Ground g source) {P : ℕ} (some_worker : 1 ≤ P) where
  -- a good run stays good
  play_good : (r : Run) (schedule : List ℕ) → any_stray P schedule ≡ false → Good g source P r → Good g source P (play_from g r schedule)
  unfolding play_from
  play_good r [] h good = good
  play_good r (byte ∷ schedule) h good =
      play_good (step g r byte) schedule (stray_none P byte schedule h).1 (step_next ground some_worker r byte good (stray_none P byte schedule h).0 _ refl).good

  -- the opening is good
  opening_good : Good g source P (opening_run g source P)
  unfolding opening_state
  opening_good = record { sound = opening_sound ground P some_worker; paid = omega (arith, opening_cost ground P some_worker); ended = λ f. absurd (true≢false (sym f)) }

  -- so is every run from there
  pub run_good : (schedule : List ℕ) → any_stray P schedule ≡ false → Good g source P (play g source P schedule)
  unfolding play
  run_good schedule h = play_good _ schedule h opening_good

-- of what document 01 accepts, that targets and source are vertices
accepted_ground : {g : Graph} {source P : ℕ} {schedule : List ℕ} → Accepted g source P schedule → Ground g source
accepted_ground a = record { below = a.targets_below; starts = a.source_below }

-- while the search isn't finished, something is left to pay: its close
cost_live : (P : ℕ) (g : Graph) (s : State) → s.finished ≡ false → 1 ≤ cost P g s
unfolding cost
cost_live P g s live = omega (arith, ap finish_cost live)

-- no byte played is the opening
state_start : (g : Graph) (source P : ℕ) (schedule : List ℕ) → state_at g source P schedule 0 ≡ opening_state (length g) source P
unfolding state_at play play_from
state_start g source P schedule = refl

module _ {g : Graph} {source P : ℕ} {schedule : List ℕ} (a : Accepted g source P schedule) where
  -- the run after k bytes is good
  good_at : (k : ℕ) → Good g source P (play g source P (take k schedule))
  good_at k = run_good (accepted_ground a) a.some_worker (take k schedule) (stray_take P k schedule a.formed)

  -- and so is the whole run
  good_run : Good g source P (play g source P schedule)
  good_run = run_good (accepted_ground a) a.some_worker schedule a.formed

  -- what byte k leaves
  next_at : (k : ℕ) → k < length schedule → ByteLeaves g source P (play g source P (take k schedule)) (play g source P (take (suc k) schedule))
  next_at k below =
      let fits = stray_at P k schedule a.formed below in
      let next = step_next (accepted_ground a) a.some_worker (play g source P (take k schedule)) (get_or schedule k 0) (good_at k) fits _ refl in
      subst (ByteLeaves g source P (play g source P (take k schedule))) (sym (play_more g source P schedule k below)) next

  -- a distance that is set stays as it is set
  distance_stays : (k v d : ℕ) → k < length schedule → distance_of (state_at g source P schedule k).labels v ≡ some d
      → distance_of (state_at g source P schedule (suc k)).labels v ≡ some d
  unfolding state_at
  distance_stays k v d below = (next_at k below).stays v d

  -- a close that raises d opens a layer
  layer_opens : (k : ℕ) → k < length schedule → ((state_at g source P schedule (suc k)).layer ≡ (state_at g source P schedule k).layer → ⊥)
      → LayerOpen g source P (state_at g source P schedule (suc k))
  unfolding state_at
  layer_opens k below other = (next_at k below).opens other

  -- a search that isn't finished has paid less than the bound
  not_finished : (play g source P schedule).state.finished ≡ false → (play g source P schedule).effective < event_bound g P
  not_finished live = omega (arith, good_run.paid, cost_live P g (play g source P schedule).state live)

  -- .. and has no more rounds than effective events
  rounds_run : (play g source P schedule).state.finished ≡ false → rounds P schedule ≤ (play g source P schedule).effective
  unfolding play
  rounds_run live =
      let crew = (opening_sound (accepted_ground a) P a.some_worker).crew_sound.crew in
      omega (arith, rounds_count g a.some_worker a.few_workers (opening_run g source P) schedule crew live)

  -- that many rounds finish
  finishes : (f : Bool) → (play g source P schedule).state.finished ≡ f → event_bound g P ≤ rounds P schedule → f ≡ true
  finishes true e h = refl
  finishes false e h = absurd (omega (arith, not_finished e, rounds_run e))

  -- demand 3, whole
  pub demand_holds : Demand g source P schedule
  unfolding state_at
  demand_holds = record {
    first_layer = rw (state_start g source P schedule) (opening_opens (accepted_ground a) P a.some_worker);
    each_layer = layer_opens;
    final = λ k v d e. (good_at k).sound.labels_sound.written v d e;
    stays = distance_stays;
    bounded = omega (arith, good_run.paid);
    below = not_finished;
    enough_rounds = λ h. finishes _ refl h;
    right_result = λ f. certified_right (accepted_ground a) (good_run.ended f);
    link_by_link = λ f. serial_run (good_run.ended f) (sound_fits (accepted_ground a) a.few_workers good_run.sound).distances_below;
    counted = (told_all g source P schedule).counted;
    used_spent = (told_all g source P schedule).spent;
    used_finished = (told_all g source P schedule).ended;
    counts_told = kept_counts (accepted_ground a) schedule good_at a.few_workers;
    fitting = λ k. sound_fits (accepted_ground a) a.few_workers (good_at k).sound;
  }

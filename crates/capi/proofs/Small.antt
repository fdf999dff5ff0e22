-- Every answer of the reader and of the search is small, whatever the call was given, so that 32 bits hold each of its numbers. All of it follows
-- from the call's outcome.
use mathlib.Core.Path.{◌≡◌, refl, ap, ◌∙◌}
use mathlib.Core.Bool.{Bool, true, false}
use mathlib.Core.List.{List, [], ◌∷◌}
use mathlib.Core.Option.{Option, none, some}
use Prim.Native.Nat.{ℕ, suc, ◌+◌, ◌≤◌, ◌<◌}
use native.Mathlib.Omega.{arith}
use lib.Dec.{eqb}
use lib.ListN.{length}
use lib.Seq.{take-length}
use borrow.Author.Tests.{eqb-true}
use Rattle.numbers.specs.Numbers.{max_vertices, max_events, success, short_list, unfinished}
use Rattle.numbers.specs.Refusals.{first}
use Rattle.numbers.proofs.First.{first_under}
use Rattle.lists.specs.Lists.{some_one}
use Rattle.graph.specs.Graph.{Graph}
use Rattle.graph.specs.File.{graph_of}
use Rattle.graph.specs.Read.{ReadOutcome, ReadAnswer, header_refusals, scan_refusals, chain_refusals, read_refusals, read_number, answer_with, read_outcome_by, read_exit, outcome_of_read}
use Rattle.graph.proofs.WellFormed.{header_sized, read_taken}
use Rattle.schedule.specs.Events.{event_of}
use Rattle.schedule.specs.Check.{schedule_refusals}
use Rattle.schedule.proofs.Schedules.{schedule_passed}
use Rattle.model.specs.State.{State}
use Rattle.model.specs.Table.{act}
use Rattle.model.specs.Play.{Run, step, play_from, opening_run, play, state_at}
use Rattle.model.specs.Call.{Lent, Outcome, Answer, early_refusals, input_refusals, search_refusals, search_number, plays, outcome_of_search}
use Rattle.model.proofs.Plays.{tally_counts, step_over, step_on}
use Rattle.model.proofs.Calls.{call_passed, call_parts, call_sizes, call_demand, call_played, call_refused}
use Rattle.search.specs.Promise.{search_exit}
use Rattle.capi.specs.Answers.{ReadSmall, SearchSmall}

-- The reader.
module _ (file offsets targets marks : List ℕ) where
  -- its number is at most 20
  read_number_lem : read_number file offsets targets marks ≤ short_list
  unfolding read_number read_refusals header_refusals scan_refusals chain_refusals
  read_number_lem = omega (arith, first_under (suc short_list) (omega arith) (read_refusals file offsets targets marks) (omega arith))

  -- the answer with a number, by whether that is 0
  read_by : (b : Bool) → eqb (read_number file offsets targets marks) success ≡ b → ReadSmall (outcome_of_read file offsets targets marks).answer
  unfolding outcome_of_read read_outcome_by answer_with
  read_by true e =
      let passed = read_taken file offsets targets marks (eqb-true (read_number file offsets targets marks) success e) in
      let sized = header_sized file passed.header in
      rw e (record { number = read_number_lem; vertices = sized.few_vertices; edges = sized.few_edges })
  read_by false e = rw e (record { number = read_number_lem; vertices = omega arith; edges = omega arith })

  -- every answer is small
  pub read_small : {r : ReadAnswer} {offsets' targets' marks' : List ℕ}
      → read_exit r offsets' targets' marks' ≡ outcome_of_read file offsets targets marks → ReadSmall r
  read_small e = rw (ap (λ (o : ReadOutcome). o.answer) e) (read_by _ refl)

-- A run.

-- an event counts once at most
one_most : (o : Option State) → some_one o ≤ 1
one_most none = omega arith
one_most (some s) = omega arith

-- no more events are effective than are used, and no more are used than there were bytes
record Counted (r : Run) (bytes : ℕ) : Type 0 where
  pub effective : r.effective ≤ r.used
  pub used : r.used ≤ bytes

-- a byte keeps that
counted_step : (g : Graph) (r : Run) (byte k : ℕ) (f : Bool) → r.state.finished ≡ f → Counted r k → Counted (step g r byte) (suc k)
counted_step g r byte k true e c = rw (step_over g r byte e) (record { effective = c.effective; used = omega arith })
counted_step g r byte k false e c =
    let o = act g r.state (event_of byte) in
    let counts = tally_counts r o in
    rw (step_on g r byte e) (record { effective = omega (arith, counts.0, counts.1, one_most o); used = omega (arith, counts.0) })

-- so do many
counted_from : (g : Graph) (r : Run) (schedule : List ℕ) (k : ℕ) → Counted r k → Counted (play_from g r schedule) (k + length schedule)
unfolding play_from
counted_from g r [] k c = record { effective = c.effective; used = omega arith }
counted_from g r (byte ∷ schedule) k c =
    let all = counted_from g (step g r byte) schedule (suc k) (counted_step g r byte k _ refl c) in
    record { effective = all.effective; used = omega (arith, all.used) }

-- and so a whole schedule
counted_play : (g : Graph) (source P : ℕ) (schedule : List ℕ) → Counted (play g source P schedule) (length schedule)
unfolding play
counted_play g source P schedule =
    let all = counted_from g (opening_run g source P) schedule 0 (record { effective = omega arith; used = omega arith }) in
    record { effective = all.effective; used = omega (arith, all.used) }

-- The search.
module _ (file : List ℕ) (source P : ℕ) (schedule : List ℕ) (lent : Lent) where
  -- its number is at most 21
  search_number_lem : search_number file source P schedule lent ≤ unfinished
  unfolding search_number search_refusals input_refusals early_refusals header_refusals scan_refusals schedule_refusals chain_refusals
  search_number_lem = omega (arith, first_under (suc unfinished) (omega arith) (search_refusals file source P schedule lent) (omega arith))

  -- A call that plays.
  module _ (p : plays (search_number file source P schedule lent) ≡ true) where
    -- the tests that its input passed
    abbrev passed : first (input_refusals file source P schedule lent) ≡ 0
    passed = call_passed file source P schedule lent p

    -- there are no more events than a schedule may have
    few_events : length schedule ≤ max_events
    few_events = (schedule_passed schedule P (call_parts file source P schedule lent passed).schedule_tests).few_events

    -- the layer after all bytes is the run's
    last_layer : (state_at (graph_of file) source P schedule (length schedule)).layer ≡ (play (graph_of file) source P schedule).state.layer
    unfolding state_at
    last_layer = ap (λ (l : List ℕ). (play (graph_of file) source P l).state.layer) (take-length schedule)

    -- it is below n, and so below 4,096
    low_layer : (play (graph_of file) source P schedule).state.layer < max_vertices
    low_layer =
        let fitting = (call_demand file source P schedule lent passed).fitting (length schedule) in
        omega (arith, last_layer, fitting.layer_below, (call_sizes file source P schedule lent passed).2)

  module _ {r : Answer} {after : Lent} (e : search_exit r after ≡ outcome_of_search file source P schedule lent) where
    -- the answer of a call, by whether it plays
    search_by : (b : Bool) → plays (search_number file source P schedule lent) ≡ b → SearchSmall r
    search_by true p =
        let same = e ∙ call_played file source P schedule lent p in
        let counted = counted_play (graph_of file) source P schedule in
        let used = ap (λ (o : Outcome). o.answer.used) same in
        let effective = ap (λ (o : Outcome). o.answer.effective) same in
        record {
          number = rw (ap (λ (o : Outcome). o.answer.number) same) search_number_lem;
          used = omega (arith, used, counted.used, few_events p);
          effective = omega (arith, used, effective, counted.effective);
          layer = rw (ap (λ (o : Outcome). o.answer.layer) same) (low_layer p);
        }
    search_by false p =
        let same = e ∙ call_refused file source P schedule lent p in
        record {
          number = rw (ap (λ (o : Outcome). o.answer.number) same) search_number_lem;
          used = omega (arith, ap (λ (o : Outcome). o.answer.used) same);
          effective = omega (arith, ap (λ (o : Outcome). o.answer.effective) same);
          layer = omega (arith, ap (λ (o : Outcome). o.answer.layer) same);
        }

    -- every answer is small
    pub search_small : SearchSmall r
    search_small = search_by _ refl

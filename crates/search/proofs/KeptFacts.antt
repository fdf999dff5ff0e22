-- A call that has the model's outcome keeps what a search promises: all of it follows from that one equation.
use mathlib.Core.Path.{◌≡◌, refl, sym, ap, ◌∙◌, subst}
use mathlib.Core.Bool.{Bool, true, false, cond}
use mathlib.Core.List.{List, map}
use Prim.Native.Nat.{ℕ, ◌<◌}
use native.Mathlib.Omega.{arith}
use lib.ListN.{length, take}
use lib.Seq.{take-length}
use Rattle.numbers.specs.Numbers.{unset, success, unfinished}
use Rattle.lists.specs.Lists.{elem}
use Rattle.lists.proofs.Overlay.{overlay_front}
use Rattle.graph.specs.File.{vertex_count, graph_of}
use Rattle.graph.proofs.FileLists.{length_graph}
use Rattle.model.specs.State.{State}
use Rattle.model.specs.Play.{Run, play, state_at}
use Rattle.model.specs.Histogram.{recount, counts_at, Counts}
use Rattle.model.specs.Demand.{Demand, Fitting}
use Rattle.model.specs.Call.{Lent, Outcome, run_of, search_number, plays, outcome_of_search}
use Rattle.model.proofs.Calls.{call_passed, call_sizes, call_demand, call_number, call_rounds, call_played, call_refused, call_effective}
use Rattle.model.specs.Call.{Answer}
use Rattle.model.specs.Words.{option_of, labels_of, labels_in}
use Rattle.search.specs.Promise.{search_exit, Kept}
use Rattle.model.proofs.WordFacts.{laid_back}
use Rattle.model.proofs.HistogramFacts.{recount_long}

-- Numbers of a run.

-- 0 only where it is finished
finished_zero : (b : Bool) {k : ℕ} → k ≡ cond b success unfinished → k ≡ success → b ≡ true
finished_zero true e z = refl
finished_zero false e z = absurd (omega arith)

-- 21 only where it isn't
unfinished_spent : (b : Bool) {k : ℕ} → k ≡ cond b success unfinished → k ≡ unfinished → b ≡ false
unfinished_spent true e z = absurd (omega arith)
unfinished_spent false e z = refl

module _ (file : List ℕ) (source P : ℕ) (schedule : List ℕ) (lent : Lent) where
  -- the file's graph
  abbrev g : List (List ℕ)
  g = graph_of file

  -- the run
  abbrev run : Run
  run = play g source P schedule

  -- the call's number is that of the outcome
  outcome_number : (b : Bool) → plays (search_number file source P schedule lent) ≡ b
      → (outcome_of_search file source P schedule lent).answer.number ≡ search_number file source P schedule lent
  outcome_number true p = ap (λ (o : Outcome). o.answer.number) (call_played file source P schedule lent p)
  outcome_number false p = ap (λ (o : Outcome). o.answer.number) (call_refused file source P schedule lent p)

  module _ {r : Answer} {after : Lent} (e : search_exit r after ≡ outcome_of_search file source P schedule lent) where
    -- the answer's number is the model's
    answered : r.number ≡ search_number file source P schedule lent
    answered = ap (λ (o : Outcome). o.answer.number) e ∙ outcome_number _ refl

    -- A call that plays.
    module _ (p : plays r.number ≡ true) where
      -- so does the model's number
      pub played : plays (search_number file source P schedule lent) ≡ true
      played = ap plays (sym answered) ∙ p

      -- demand 3 of its run
      demanded : Demand g source P schedule
      demanded = call_demand file source P schedule lent (call_passed file source P schedule lent played)

      -- its number
      decided : r.number ≡ cond run.state.finished success unfinished
      unfolding run_of
      decided = answered ∙ call_number file source P schedule lent (call_passed file source P schedule lent played)

      -- its used events are the run's
      used : r.used ≡ run.used
      used = ap (λ (o : Outcome). o.answer.used) (e ∙ call_played file source P schedule lent played)

      -- its effective events are the run's
      effective : r.effective ≡ run.effective
      effective = ap (λ (o : Outcome). o.answer.effective) (e ∙ call_played file source P schedule lent played)

      -- its d is the run's
      layered : r.layer ≡ run.state.layer
      layered = ap (λ (o : Outcome). o.answer.layer) (e ∙ call_played file source P schedule lent played)

      -- the state after all bytes is the run's
      all_bytes : state_at g source P schedule (length schedule) ≡ run.state
      unfolding state_at
      all_bytes = ap (λ (l : List ℕ). (play g source P l).state) (take-length schedule)

      -- so what holds at every moment holds at the end
      fitting : Fitting g P run.state
      fitting = subst (λ (s : State). Fitting g P s) all_bytes (demanded.fitting (length schedule))

      -- a label below n is below 65,535
      low : {x : ℕ} → x < length g → x < unset
      low h = omega (arith, (call_sizes file source P schedule lent (call_passed file source P schedule lent played)).2)

      -- its lists hold the run's labels
      labels : labels_in (vertex_count file) after.distances after.parents ≡ run.state.labels
      unfolding labels_in labels_of
      labels =
          let n = vertex_count file in
          let x = run.state.labels in
          let lists = e ∙ call_played file source P schedule lent played in
          let far = ap (λ (o : Outcome). map option_of (take n o.lent.distances)) lists
          ∙ laid_back n x.distances lent.distances (fitting.distances_all ∙ length_graph file) (λ v d h. low (fitting.distances_below v d h)) in
          let near = ap (λ (o : Outcome). map option_of (take n o.lent.parents)) lists
          ∙ laid_back n x.parents lent.parents (fitting.parents_all ∙ length_graph file) (λ v d h. low (fitting.parents_below v d h)) in
          λ i. record { distances = far i; parents = near i }

      -- the counts as kept over all bytes tell of the run's labels
      told : Counts run.state.labels.distances run.state.layer (counts_at g source P schedule (length schedule))
      told =
          subst (λ (s : State). Counts s.labels.distances s.layer (counts_at g source P schedule (length schedule))) all_bytes
          (demanded.counts_told (length schedule))

      -- and its list holds them
      counts : take (vertex_count file) after.histogram ≡ counts_at g source P schedule (length schedule)
      counts =
          let n = vertex_count file in
          let far = run.state.labels.distances in
          ap (λ (o : Outcome). take n o.lent.histogram) (e ∙ call_played file source P schedule lent played)
          ∙ overlay_front (recount far) lent.histogram n (recount_long far ∙ fitting.distances_all ∙ length_graph file)
          ∙ sym told.recounted

    -- 0 is the number of a call that plays
    pub success_plays : r.number ≡ success → plays r.number ≡ true
    unfolding plays elem
    success_plays z = ap plays z

    -- so is 21
    unfinished_plays : r.number ≡ unfinished → plays r.number ≡ true
    unfolding plays elem
    unfinished_plays z = ap plays z

    -- with 0 the run is finished
    whole : (z : r.number ≡ success) → run.state.finished ≡ true
    whole z = finished_zero run.state.finished (decided (success_plays z)) z

    -- with 21 it isn't
    partial : (z : r.number ≡ unfinished) → run.state.finished ≡ false
    partial z = unfinished_spent run.state.finished (decided (unfinished_plays z)) z

    -- all that is promised
    pub call_keeps : Kept file source P schedule lent r after
    call_keeps = record {
      demand = demanded;
      spent = λ z. used (unfinished_plays z) ∙ (demanded (unfinished_plays z)).used_spent (partial z);
      not_finished = partial;
      finished = λ z. rw (used (success_plays z)) ((demanded (success_plays z)).used_finished (whole z));
      layer = layered;
      counted = λ p. rw (effective p, used p) (demanded p).counted;
      bounded = rw (ap (λ (o : Outcome). o.answer.effective) e) (call_effective file source P schedule lent);
      below = λ z. rw (effective (unfinished_plays z)) ((demanded (unfinished_plays z)).below (partial z));
      enough_rounds = λ passed h. answered ∙ call_rounds file source P schedule lent passed h;
      final = λ p v d h. (demanded p).final (length schedule) v d (rw (all_bytes p, ← (labels p)) h);
      right_result = λ z. rw (labels (success_plays z)) ((demanded (success_plays z)).right_result (whole z));
      link_by_link = λ z. rw (labels (success_plays z), ← (length_graph file)) ((demanded (success_plays z)).link_by_link (whole z));
      counts_told = λ p. rw (labels p, layered p, counts p) (told p);
      counts_kept = counts;
    }

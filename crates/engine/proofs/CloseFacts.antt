-- A close in a run: when its condition isn't met, what gathering takes for granted, the next layer's start, and the run's answer where the search is
-- finished or the schedule spent.
use mathlib.Core.Path.{◌≡◌, refl, sym, ap, ap₂, subst, ◌∙◌}
use mathlib.Core.Bool.{Bool, true, false, cond}
use mathlib.Core.List.{List, [], ◌∷◌, map}
use mathlib.Core.Option.{none, some}
use Prim.Native.Nat.{ℕ, ◌+◌, ◌≤◌}
use native.Mathlib.Numerals.{add-one}
use native.Mathlib.Omega.{arith}
use lib.ListN.{length, get_or, set, take, drop, replicate, length-map, take-append-drop}
use borrow.Author.Tests.{eq-eqb, ne_eqb}
use lib.Dec.{eqb}
use lib.Seq.{take_all}
use Rattle.numbers.specs.Numbers.{max_workers, success, unfinished}
use Rattle.lists.specs.Lists.{sum_of}
use Rattle.lists.proofs.Sums.{sum_at}
use Rattle.lists.proofs.Parts.{get_or_repeated}
use Rattle.lists.proofs.Replaced.{map_replicate}
use Rattle.pennant.specs.Bag.{Bag, empty_bag}
use Rattle.pennant.specs.Held.{size, one}
use Rattle.pennant.proofs.Laws.{weigh_empty, empty_size, sized_filled}
use Rattle.bag.specs.declared.Bag as declared
use Rattle.bag.specs.Nodes.{held_by, new_bag, past_bag}
use Rattle.bag.specs.Promises.{Pooled}
use Rattle.bag.proofs.Family.{moved_pool, moved_again}
use Rattle.bag.proofs.HeldFacts.{held_none}
use Rattle.schedule.specs.declared.Event.TheVariants.{Close}
use Rattle.model.specs.State as model
use Rattle.model.specs.Table.{all_idle, united_outputs, handed_in, raised_state, ended_state, closed, act}
use Rattle.model.specs.Play.{Run, play_from, opening_run, play}
use Rattle.model.specs.Histogram.{recount}
use Rattle.model.specs.Words.{word_of, labels_of}
use Rattle.model.proofs.WordFacts.{words_again}
use Rattle.model.proofs.Workers.{idle_each}
use Rattle.model.proofs.Plays.{play_append, play_finished}
use Rattle.workers.specs.declared.Phase.{Phase}
use Rattle.workers.specs.Shown.{phase_of, state_of}
use Rattle.workers.specs.Steps.{Gathered, first_of_eight, all_free}
use Rattle.workers.proofs.CrewFacts.{crew_long, crew_at, crew_outputs}
use Rattle.workers.proofs.IdleFacts.{all_empty, idle_counted, bare_counted, united_size}
use Rattle.workers.proofs.GatherFacts.{inputs_bare, gather_pooled, gathered_moved, gathered_held}
use Rattle.workers.proofs.OpenedFacts.{opened_workers, opened_moved, opened_size, opened_unheld, opened_free}
use Rattle.model.specs.Call.{Answer}
use Rattle.engine.specs.Runs.{answer_of, Ran}
use Rattle.engine.proofs.PlayingFacts.{Given, graph, crew, Going, Turn, now_state, enough, even, held_inputs, held_outputs}
use Rattle.engine.proofs.PlayingFacts.{shown_phases, some_worker, few_workers, or_else, next_run, play_on, unmet_on}

-- the answer, the labels and the counts of a run that is known
ran_as : {r q : Run} {distances parents histogram : List ℕ} {answer : Answer} {number : ℕ} → r ≡ q → answer ≡ answer_of number q.used q.effective q.state.layer
    → number ≡ cond q.state.finished success unfinished
    → distances ≡ map word_of q.state.labels.distances → parents ≡ map word_of q.state.labels.parents
    → histogram ≡ recount q.state.labels.distances → Ran r distances parents histogram answer
ran_as {distances = distances} {parents = parents} {histogram = histogram} {answer = answer} same told number held named counted =
    subst (λ (x : Run). Ran x distances parents histogram answer) (sym same) (record {
      told = record {
        number = ap (λ (a : Answer). a.number) told ∙ number;
        used = ap (λ (a : Answer). a.used) told;
        effective = ap (λ (a : Answer). a.effective) told;
        layer = ap (λ (a : Answer). a.layer) told;
      };
      distances = held;
      parents = named;
      histogram = counted;
    })

module _ {g : Given} {distances parents histogram left right values : List ℕ} {inputs outputs : List declared.Bag} {phases : List Phase}
    {pending found used effective layer : ℕ} where
  -- the schedule is spent
  pub spent_ran : Going g distances parents histogram left right values inputs outputs phases pending found used effective layer → length g.schedule ≤ used
      → {answer : Answer} → answer ≡ answer_of unfinished (length g.schedule) effective layer
      → Ran (play (graph g) g.source g.workers g.schedule) distances parents histogram answer
  unfolding state_of labels_of
  spent_ran at over told =
      let all : length g.schedule ≡ used = omega (arith, at.within) in
      ran_as (ap (play (graph g) g.source g.workers) (sym (take_all used g.schedule over)) ∙ at.same) (told ∙ ap (λ (n : ℕ). answer_of unfinished n effective layer) all) refl (sym (words_again distances))
      (sym (words_again parents)) at.recounted

  module _ (turn : Turn g distances parents histogram left right values inputs outputs phases pending found used effective layer Close) where
    -- what holds before the byte
    abbrev at : Going g distances parents histogram left right values inputs outputs phases pending found used effective layer
    at = turn.going

    -- the workers
    abbrev workers : List model.Worker
    workers = crew g left right values inputs outputs phases

    -- not all are idle
    close_unmet : all_idle workers ≡ false → Going g distances parents histogram left right values inputs outputs phases pending found (used + 1) effective layer
    unfolding act state_of
    close_unmet some-busy = unmet_on turn (ap (λ (met : Bool). cond met (some (closed (now_state at) (united_outputs workers))) none) some-busy)

    -- as many of each
    outputs_same : length (held_outputs at) ≡ length (held_inputs at)
    outputs_same = (even at).outputs_long ∙ sym (even at).inputs_long

    phases_same : length (take g.workers phases) ≡ length (held_inputs at)
    phases_same = sym (length-map (take g.workers phases) (phase_of g.offsets)) ∙ (even at).phases_long ∙ sym (even at).inputs_long

    -- the table's test by what is pending
    idle_told : all_idle workers ≡ eqb pending 0
    idle_told =
        idle_counted g.offsets (held_inputs at) (held_outputs at) (take g.workers phases) outputs_same phases_same
        ∙ ap (λ (k : ℕ). eqb k 0) (sym at.waiting)

    -- some is
    pub pending_on : (pending ≡ 0 → ⊥) → Going g distances parents histogram left right values inputs outputs phases pending found (used + 1) effective layer
    pending_on left_over = close_unmet (idle_told ∙ ne_eqb pending 0 left_over)

    -- none is
    module _ (none-pending : pending ≡ 0) where
      -- all workers are idle
      idle : all_idle workers ≡ true
      idle = idle_told ∙ eq-eqb pending 0 none-pending

      -- all input bags are empty
      all_bare : all_empty (held_inputs at) ≡ true
      all_bare = bare_counted (held_inputs at) (omega (arith, at.waiting))

      -- so many numbers are united
      united_found : size (united_outputs workers) ≡ found
      unfolding united_outputs
      united_found =
          omega (
            arith,
            united_size (model.worker_at workers 0).input (map (λ (x : model.Worker). x.output) workers),
            ap (sum_of size) (crew_outputs (held_inputs at) (held_outputs at) (shown_phases at) (even at)),
            ap (λ (x : model.Worker). size x.input) (crew_at (held_inputs at) (held_outputs at) (shown_phases at) 0 (even at)),
            sum_at size (held_inputs at) 0 empty_bag (weigh_empty one),
            at.waiting,
            at.stowed,
          )

      -- the table has the closed state
      close_act : act (graph g) (now_state at) Close ≡ some (closed (now_state at) (united_outputs workers))
      unfolding act state_of
      close_act = ap (λ (met : Bool). cond met (some (closed (now_state at) (united_outputs workers))) none) idle

      -- nothing was found: the search is finished, and the rest of the schedule isn't used
      pub finished_ran : found ≡ 0 → {answer : Answer} → answer ≡ answer_of success (used + 1) (effective + 1) layer
          → Ran (play (graph g) g.source g.workers g.schedule) distances parents histogram answer
      unfolding play or_else state_of labels_of closed
      finished_ran over told =
          let rest = drop (used + 1) g.schedule in
          let ended : act (graph g) (now_state at) Close ≡ some (ended_state (now_state at)) =
          close_act
          ∙ ap (λ (f : Bool). some (cond f (ended_state (now_state at)) (raised_state (now_state at) (united_outputs workers))))
          (empty_size (united_outputs workers) ∙ eq-eqb (size (united_outputs workers)) 0 (united_found ∙ over)) in
          let last : Run = record { state = ended_state (now_state at); used = used + 1; effective = effective + 1 } in
          ran_as
          (ap (play (graph g) g.source g.workers) (sym (take-append-drop (used + 1) g.schedule))
          ∙ play_append (graph g) (opening_run (graph g) g.source g.workers) (take (used + 1) g.schedule) rest
          ∙ ap (λ (r : Run). play_from (graph g) r rest) (rw ended at (next_run turn))
          ∙ play_finished (graph g) last rest refl)
          told refl (sym (words_again distances)) (sym (words_again parents)) at.recounted

      -- what gathering takes for granted
      pub gather_able : (g.workers ≤ max_workers) × Pooled left right (get_or inputs 0 past_bag ∷ take g.workers outputs)
      gather_able = (few_workers at, gather_pooled (enough at) (some_worker at) values at.pool all_bare)

      -- every worker that has handed in its bag is idle
      each_idle : map handed_in workers ≡ replicate g.workers model.idle_worker
      each_idle =
          map_replicate handed_in model.idle_worker model.idle_worker workers g.workers
          (crew_long (held_inputs at) (held_outputs at) (shown_phases at) (even at))
          (λ j h.
          ap₂ (λ (x : Bag) (p : model.Phase). model.worker_with x empty_bag p)
          (ap (λ (x : model.Worker). x.input) (crew_at (held_inputs at) (held_outputs at) (shown_phases at) j (even at))
          ∙ ap (λ (l : List Bag). get_or l j empty_bag) (inputs_bare (enough at) (some_worker at) values at.pool all_bare)
          ∙ get_or_repeated g.workers j empty_bag)
          (idle_each workers idle j).phase_free)

      -- something was found: the next layer opens
      pub opened_on : (found ≡ 0 → ⊥) → {left' right' : List ℕ} {b bare-one : declared.Bag} {inputs' outputs' : List declared.Bag} {phases' : List Phase}
          → Gathered (get_or inputs 0 past_bag) (take g.workers outputs) left right left' right' b
          → inputs' ≡ first_of_eight b → bare-one ≡ new_bag → outputs' ≡ first_of_eight bare-one → phases' ≡ all_free
          → Going g distances parents histogram left' right' values inputs' outputs' phases' found 0 (used + 1) (effective + 1) (layer + 1)
      unfolding state_of closed
      opened_on some-found {left'} {right'} {b} gathered first new others free =
          rw (first, others, new, free)
          (play_on turn
          (record {
            distances_long = at.long.distances_long;
            parents_long = at.long.parents_long;
            left_long = gathered.moved.left_length ∙ at.long.left_long;
            right_long = gathered.moved.right_length ∙ at.long.right_long;
            values_long = at.long.values_long;
            inputs_long = refl;
            outputs_long = refl;
            phases_long = refl;
          })
          at.recounted
          (moved_again (gathered_moved (enough at) (some_worker at) values at.pool all_bare gathered)
          (opened_moved g.workers (some_worker at) (few_workers at) gathered_pooled.formed.0))
          (λ w h. rw (opened_free w) tt)
          (omega (
            arith,
            opened_size g.workers (some_worker at) (few_workers at) left' right' values b,
            ap size held,
            united_found,
            opened_unheld g.workers (some_worker at) (few_workers at),
          ))
          (omega (
            arith,
            opened_size g.workers (some_worker at) (few_workers at) left' right' values new_bag,
            ap size (held_none left' right' values),
            weigh_empty one,
          ))
          raised
          (ap₂ (λ (l : List model.Worker) (k : ℕ). record { labels = labels_of distances parents; workers = l; layer = k; finished = false })
          (opened_workers g.workers (some_worker at) (few_workers at) g.offsets left' right' values b
          ∙ ap₂ (λ (l : List model.Worker) (x : Bag). set l 0 (model.worker_with x empty_bag model.free)) (sym each_idle) held)
          (add-one layer)))
        where
          -- it is not empty
          some_size : (found ≡ 0 → ⊥) → 1 ≤ size (united_outputs workers)
          some_size apart = omega (arith, united_found, apart)

          -- the bag is well-formed
          gathered_pooled : Pooled left' right' (b ∷ [])
          gathered_pooled = moved_pool (gather_pooled (enough at) (some_worker at) values at.pool all_bare) gathered.moved

          -- it is the table's union
          held : held_by left' right' values b ≡ united_outputs workers
          held = gathered_held (enough at) (some_worker at) values at.pool all_bare (shown_phases at) (even at).phases_long gathered

          raised : act (graph g) (now_state at) Close ≡ some (raised_state (now_state at) (united_outputs workers))
          raised =
              close_act
              ∙ ap (λ (f : Bool). some (cond f (ended_state (now_state at)) (raised_state (now_state at) (united_outputs workers))))
              (sized_filled (united_outputs workers) (some_size some-found))

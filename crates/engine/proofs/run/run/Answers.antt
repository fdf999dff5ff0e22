-- `engine::run::run` meets its contract. The invariant: the engine's values are those of the model's run over the bytes so far (Going).
use borrow.Author.Rules.{rules}
use native.Mathlib.Omega.{arith}
use mathlib.Core.Path.{◌≡◌, sym, ◌∙◌}
use lib.ListN.{length, get_or}
use Rattle.workers.specs.declared.Phase.TheVariants.{Free}
use Rattle.workers.specs.Steps.{Between}
use Rattle.schedule.specs.declared.Event.{Event}
use Rattle.schedule.specs.declared.Event.TheVariants.{Work, Split, Unite, Close}
use Rattle.engine.proofs.PlayingFacts.{Given, Turn, turn_of, counts_long, place_fits, layer_fits, used_fits, effective_fits, malformed_on}
use Rattle.engine.proofs.StartFacts.{given_by, SameLengths, source_there, start_on}
use Rattle.engine.proofs.WorkFacts.{work_place, input_told, rest_on, begin_able, stow_able, between_now, advance_able, some_pending, found_fits, worked_on}
use Rattle.engine.proofs.WorkFacts.{Worked, begun_worked, stowed_worked, advanced_worked}
use Rattle.engine.proofs.PairFacts.{split_places, split_able, split_on, split_unmet_on, unite_places, unite_able, unite_on, unite_unmet_on}
use Rattle.engine.proofs.CloseFacts.{pending_on, gather_able, opened_on, finished_ran, spent_ran}
use Rattle.engine.proofs.run.run.Goals.{After-look_up-event, After-open-source_bag, At-loop-used, In-Close, In-Split, In-Unite, In-Work, In_default, Joined-phase, in-Free+else-is_empty, in-Named, in_default}
use Rattle.engine.proofs.run.run.Goals.{in-Work, in-Split+then-can_split, in-Split+else-can_split, in-Unite+then-can_unite, in-Unite+else-can_unite, in-Close+then-pending-eq0+else-found-eq0, in-Close+else-pending-eq0, in-Malformed}
use Rattle.engine.proofs.run.run.Goals as goal

-- What is known there.

-- the lists keep their lengths over the opening
opened_lengths : (c : After-open-source_bag) → let args = c.args in
    SameLengths args.distances.now args.parents.now args.histogram.now args.left.now args.right.now args.values.now
    c.open-source_bag.new.distances c.open-source_bag.new.parents c.open-source_bag.new.histogram c.open-source_bag.new.left c.open-source_bag.new.right c.open-source_bag.new.values
opened_lengths c =
    record {
      of_distances = c.open-source_bag.auto.distances;
      of_parents = c.open-source_bag.auto.parents;
      of_histogram = c.open-source_bag.auto.histogram;
      of_left = c.open-source_bag.auto.left;
      of_right = c.open-source_bag.auto.right;
      of_values = c.open-source_bag.auto.values;
    }

-- and over all turns
lengths : (c : At-loop-used) → let args = c.args in
    let now = c.loop-used in
    SameLengths args.distances.now args.parents.now args.histogram.now args.left.now args.right.now args.values.now
    now.distances now.parents now.histogram now.left now.right now.values
lengths c =
    let long = c.loop-used.invariant.long in
    let same = opened_lengths (goal.at.At-loop-used c).After-open-source_bag in
    record {
      of_distances = long.distances_long ∙ same.of_distances;
      of_parents = long.parents_long ∙ same.of_distances ∙ sym c.requires.sized.parents_all;
      of_histogram = counts_long c.loop-used.invariant ∙ same.of_distances ∙ sym c.requires.sized.histogram_all;
      of_left = long.left_long ∙ same.of_left;
      of_right = long.right_long ∙ same.of_right;
      of_values = long.values_long ∙ same.of_values;
    }

-- what the run is given
abbrev given : At-loop-used → Given
given c =
    let args = c.args in
    given_by args.source args.workers args.schedule.now args.offsets.now args.targets.now c.open-source_bag.new.distances c.open-source_bag.new.left
    c.open-source_bag.new.right c.open-source_bag.new.values

-- a turn whose byte says e
abbrev Turn-at : After-look_up-event → Event → Type 0
Turn-at c e =
    let now = c.loop-used in
    Turn (given (goal.at.After-look_up-event c).At-loop-used) now.distances now.parents now.histogram now.left now.right now.values now.inputs now.outputs now.phases now.pending
    now.found now.used now.effective now.layer e

-- by what was looked up
turn : (c : After-look_up-event) {e : Event} → c.look_up-event.result ≡ e → Turn-at c e
turn c said = turn_of c.loop-used.invariant c.loop-used-test.true c.look_up-event.ensures said

-- .. that it is work
work_turn : (c : In-Work) → Turn-at (goal.at.In-Work c).After-look_up-event (Work c.in-Work.w)
work_turn c = turn (goal.at.In-Work c).After-look_up-event c.in-Work.is

-- .. a split
split_turn : (c : In-Split) → Turn-at (goal.at.In-Split c).After-look_up-event (Split c.in-Split.w c.in-Split.v)
split_turn c = turn (goal.at.In-Split c).After-look_up-event c.in-Split.is

-- .. a union
unite_turn : (c : In-Unite) → Turn-at (goal.at.In-Unite c).After-look_up-event (Unite c.in-Unite.w c.in-Unite.v)
unite_turn c = turn (goal.at.In-Unite c).After-look_up-event c.in-Unite.is

-- .. a close
close_turn : (c : In-Close) → Turn-at (goal.at.In-Close c).After-look_up-event Close
close_turn c = turn (goal.at.In-Close c).After-look_up-event c.in-Close.is

-- a phase that is neither free nor named is one between
between : (c : In_default) → Between c.args.targets.now (length c.loop-used.distances) (get_or c.loop-used.phases c.in-Work.w Free)
between c =
    between_now (work_turn (goal.at.In_default c).In-Work) c.in_default.not-Free c.in_default.not-Named

-- what a worker's move left, whichever it was: the lists, the bags, the phases, and how many were found
moved : (c : Joined-phase) → let after = c.match-phase in
    Worked (work_turn (goal.at.Joined-phase c).In-Work) after.distances after.parents after.histogram after.left after.right after.values after.inputs
    after.outputs after.phases after.found
moved c =
    let worker = work_turn (goal.at.Joined-phase c).In-Work in
    elim c.match-phase.branch [
      | in-Free+else-is_empty w ↦
          rw (w.distances-is, w.parents-is, w.histogram-is, w.left-is, w.right-is, w.values-is, w.inputs-is, w.outputs-is, w.phases-is, w.found-is)
          (begun_worked worker w.in-Free.is (input_told worker w.is_empty.ensures ∙ w.if-is_empty.false) w.begin-begun.ensures)
      | in-Named w ↦
          rw (w.distances-is, w.parents-is, w.histogram-is, w.left-is, w.right-is, w.values-is, w.inputs-is, w.outputs-is, w.phases-is, w.found-is)
          (stowed_worked worker w.in-Named.is w.stow-stowed.ensures.inserted w.stow-stowed.ensures.by_index)
      | in_default w ↦
          rw (w.distances-is, w.parents-is, w.histogram-is, w.left-is, w.right-is, w.values-is, w.inputs-is, w.outputs-is, w.phases-is, w.found-is)
          (advanced_worked worker (between_now worker w.in_default.not-Free w.in_default.not-Named) w.advance.ensures.by_index w.advance.ensures.histogram_after)
    ]

-- The goals.

pub open-source_bag-requires : goal.open-source_bag-requires
open-source_bag-requires c = record { source_in_bounds = source_there c.requires; sized = c.requires.sized }

pub loop-used-init : goal.loop-used-init
loop-used-init c =
    start_on c.requires (opened_lengths (goal.at.loop-used-init c).After-open-source_bag) c.open-source_bag.ensures c.first_of_eight-inputs.ensures
    c.empty.ensures c.first_of_eight-outputs.ensures c.all_free-phases.ensures

pub overflow_add-used : goal.overflow_add-used
overflow_add-used c = record { fits = used_fits c.loop-used.invariant c.loop-used-test.true }

pub offset_bounds-phases-w : goal.offset_bounds-phases-w
offset_bounds-phases-w c = place_fits 32 (work_place (work_turn (goal.at.offset_bounds-phases-w c).In-Work)) (search rules)

pub bounds-phases-w : goal.bounds-phases-w
bounds-phases-w c = work_place (work_turn (goal.at.bounds-phases-w c).In-Work)

pub offset_bounds-inputs-w : goal.offset_bounds-inputs-w
offset_bounds-inputs-w c = place_fits 32 (work_place (work_turn (goal.at.offset_bounds-inputs-w c).In-Work)) (search rules)

pub bounds-inputs-w : goal.bounds-inputs-w
bounds-inputs-w c = work_place (work_turn (goal.at.bounds-inputs-w c).In-Work)

pub loop-used-preserved-then-is_empty : goal.loop-used-preserved-then-is_empty
loop-used-preserved-then-is_empty c =
    let worker = work_turn (goal.at.loop-used-preserved-then-is_empty c).In-Work in
    rest_on worker c.in-Free.is (input_told worker c.is_empty.ensures ∙ c.if-is_empty.true)

pub begin-begun-requires : goal.begin-begun-requires
begin-begun-requires c =
    let worker = work_turn (goal.at.begin-begun-requires c).In-Work in
    let facts = begin_able worker (input_told worker c.is_empty.ensures ∙ c.if-is_empty.false) in
    record {
      pooled = facts.0;
      left_in_bounds = facts.1.0;
      input_value = facts.1.1.0;
      by_index = facts.1.1.1;
    }

pub offset_bounds-inputs-w-in-Free : goal.offset_bounds-inputs-w-in-Free
offset_bounds-inputs-w-in-Free c = place_fits 32 (work_place (work_turn (goal.at.offset_bounds-inputs-w-in-Free c).In-Work)) (search rules)

pub bounds-inputs-w-in-Free : goal.bounds-inputs-w-in-Free
bounds-inputs-w-in-Free c = work_place (work_turn (goal.at.bounds-inputs-w-in-Free c).In-Work)

pub offset_bounds-phases-w-in-Free : goal.offset_bounds-phases-w-in-Free
offset_bounds-phases-w-in-Free c = place_fits 32 (work_place (work_turn (goal.at.offset_bounds-phases-w-in-Free c).In-Work)) (search rules)

pub bounds-phases-w-in-Free : goal.bounds-phases-w-in-Free
bounds-phases-w-in-Free c = work_place (work_turn (goal.at.bounds-phases-w-in-Free c).In-Work)

pub offset_bounds-outputs-w : goal.offset_bounds-outputs-w
offset_bounds-outputs-w c = place_fits 32 (work_place (work_turn (goal.at.offset_bounds-outputs-w c).In-Work)) (search rules)

pub bounds-outputs-w : goal.bounds-outputs-w
bounds-outputs-w c = work_place (work_turn (goal.at.bounds-outputs-w c).In-Work)

pub stow-stowed-requires : goal.stow-stowed-requires
stow-stowed-requires c =
    let facts = stow_able (work_turn (goal.at.stow-stowed-requires c).In-Work) c.in-Named.is in
    record {
      edge_bound = facts.0;
      pooled = facts.1.0;
      left_in_bounds = facts.1.1.0;
      some_free = facts.1.1.1;
    }

pub offset_bounds-outputs-w-in-Named : goal.offset_bounds-outputs-w-in-Named
offset_bounds-outputs-w-in-Named c = place_fits 32 (work_place (work_turn (goal.at.offset_bounds-outputs-w-in-Named c).In-Work)) (search rules)

pub bounds-outputs-w-in-Named : goal.bounds-outputs-w-in-Named
bounds-outputs-w-in-Named c = work_place (work_turn (goal.at.bounds-outputs-w-in-Named c).In-Work)

pub offset_bounds-phases-w-in-Named : goal.offset_bounds-phases-w-in-Named
offset_bounds-phases-w-in-Named c = place_fits 32 (work_place (work_turn (goal.at.offset_bounds-phases-w-in-Named c).In-Work)) (search rules)

pub bounds-phases-w-in-Named : goal.bounds-phases-w-in-Named
bounds-phases-w-in-Named c = work_place (work_turn (goal.at.bounds-phases-w-in-Named c).In-Work)

pub overflow_add-found : goal.overflow_add-found
overflow_add-found c = record { fits = found_fits (work_turn (goal.at.overflow_add-found c).In-Work) c.in-Named.is }

pub advance-requires : goal.advance-requires
advance-requires c =
    let facts = advance_able (work_turn (goal.at.advance-requires c).In-Work) (between (goal.at.advance-requires c).In_default) in
    record {
      parents_len = facts.0;
      layer_bound = facts.1.0;
      between = facts.1.1.0;
      countable = facts.1.1.1;
    }

pub offset_bounds-phases-w-in_default : goal.offset_bounds-phases-w-in_default
offset_bounds-phases-w-in_default c = place_fits 32 (work_place (work_turn (goal.at.offset_bounds-phases-w-in_default c).In-Work)) (search rules)

pub bounds-phases-w-in_default : goal.bounds-phases-w-in_default
bounds-phases-w-in_default c = work_place (work_turn (goal.at.bounds-phases-w-in_default c).In-Work)

pub offset_bounds-phases-w-in-Work : goal.offset_bounds-phases-w-in-Work
offset_bounds-phases-w-in-Work c = place_fits 32 (work_place (work_turn (goal.at.offset_bounds-phases-w-in-Work c).In-Work)) (search rules)

pub bounds-phases-w-in-Work : goal.bounds-phases-w-in-Work
bounds-phases-w-in-Work c = work_place (work_turn (goal.at.bounds-phases-w-in-Work c).In-Work)

pub overflow_sub-pending : goal.overflow_sub-pending
overflow_sub-pending c = omega (arith, c.used_up-pending.ensures, some_pending (work_turn (goal.at.overflow_sub-pending c).In-Work) (moved (goal.at.overflow_sub-pending c).Joined-phase))

pub overflow_add-effective : goal.overflow_add-effective
overflow_add-effective c = record { fits = effective_fits (work_turn (goal.at.overflow_add-effective c).In-Work) }

pub offset_bounds-inputs-w-in-Split : goal.offset_bounds-inputs-w-in-Split
offset_bounds-inputs-w-in-Split c = place_fits 32 (split_places (split_turn (goal.at.offset_bounds-inputs-w-in-Split c).In-Split)).0 (search rules)

pub bounds-inputs-w-in-Split : goal.bounds-inputs-w-in-Split
bounds-inputs-w-in-Split c = (split_places (split_turn (goal.at.bounds-inputs-w-in-Split c).In-Split)).0

pub offset_bounds-inputs-v : goal.offset_bounds-inputs-v
offset_bounds-inputs-v c = place_fits 32 (split_places (split_turn (goal.at.offset_bounds-inputs-v c).In-Split)).1 (search rules)

pub bounds-inputs-v : goal.bounds-inputs-v
bounds-inputs-v c = (split_places (split_turn (goal.at.bounds-inputs-v c).In-Split)).1

pub offset_bounds-inputs-v-then-can_split : goal.offset_bounds-inputs-v-then-can_split
offset_bounds-inputs-v-then-can_split c = place_fits 32 (split_places (split_turn (goal.at.offset_bounds-inputs-v-then-can_split c).In-Split)).1 (search rules)

pub bounds-inputs-v-then-can_split : goal.bounds-inputs-v-then-can_split
bounds-inputs-v-then-can_split c = (split_places (split_turn (goal.at.bounds-inputs-v-then-can_split c).In-Split)).1

pub split-halves-requires : goal.split-halves-requires
split-halves-requires c = split_able (split_turn (goal.at.split-halves-requires c).In-Split)

pub offset_bounds-inputs-v-then-can_split-2 : goal.offset_bounds-inputs-v-then-can_split-2
offset_bounds-inputs-v-then-can_split-2 c = place_fits 32 (split_places (split_turn (goal.at.offset_bounds-inputs-v-then-can_split-2 c).In-Split)).1 (search rules)

pub bounds-inputs-v-then-can_split-2 : goal.bounds-inputs-v-then-can_split-2
bounds-inputs-v-then-can_split-2 c = (split_places (split_turn (goal.at.bounds-inputs-v-then-can_split-2 c).In-Split)).1

pub offset_bounds-inputs-w-then-can_split : goal.offset_bounds-inputs-w-then-can_split
offset_bounds-inputs-w-then-can_split c = place_fits 32 (split_places (split_turn (goal.at.offset_bounds-inputs-w-then-can_split c).In-Split)).0 (search rules)

pub bounds-inputs-w-then-can_split : goal.bounds-inputs-w-then-can_split
bounds-inputs-w-then-can_split c = (split_places (split_turn (goal.at.bounds-inputs-w-then-can_split c).In-Split)).0

pub overflow_add-effective-then-can_split : goal.overflow_add-effective-then-can_split
overflow_add-effective-then-can_split c = record {
  fits = effective_fits (split_turn (goal.at.overflow_add-effective-then-can_split c).In-Split);
}

pub offset_bounds-outputs-w-in-Unite : goal.offset_bounds-outputs-w-in-Unite
offset_bounds-outputs-w-in-Unite c = place_fits 32 (unite_places (unite_turn (goal.at.offset_bounds-outputs-w-in-Unite c).In-Unite)).0 (search rules)

pub bounds-outputs-w-in-Unite : goal.bounds-outputs-w-in-Unite
bounds-outputs-w-in-Unite c = (unite_places (unite_turn (goal.at.bounds-outputs-w-in-Unite c).In-Unite)).0

pub offset_bounds-outputs-v : goal.offset_bounds-outputs-v
offset_bounds-outputs-v c = place_fits 32 (unite_places (unite_turn (goal.at.offset_bounds-outputs-v c).In-Unite)).1 (search rules)

pub bounds-outputs-v : goal.bounds-outputs-v
bounds-outputs-v c = (unite_places (unite_turn (goal.at.bounds-outputs-v c).In-Unite)).1

pub offset_bounds-outputs-v-then-can_unite : goal.offset_bounds-outputs-v-then-can_unite
offset_bounds-outputs-v-then-can_unite c = place_fits 32 (unite_places (unite_turn (goal.at.offset_bounds-outputs-v-then-can_unite c).In-Unite)).1 (search rules)

pub bounds-outputs-v-then-can_unite : goal.bounds-outputs-v-then-can_unite
bounds-outputs-v-then-can_unite c = (unite_places (unite_turn (goal.at.bounds-outputs-v-then-can_unite c).In-Unite)).1

pub offset_bounds-outputs-w-then-can_unite : goal.offset_bounds-outputs-w-then-can_unite
offset_bounds-outputs-w-then-can_unite c = place_fits 32 (unite_places (unite_turn (goal.at.offset_bounds-outputs-w-then-can_unite c).In-Unite)).0 (search rules)

pub bounds-outputs-w-then-can_unite : goal.bounds-outputs-w-then-can_unite
bounds-outputs-w-then-can_unite c = (unite_places (unite_turn (goal.at.bounds-outputs-w-then-can_unite c).In-Unite)).0

pub union-requires : goal.union-requires
union-requires c = unite_able (unite_turn (goal.at.union-requires c).In-Unite)

pub offset_bounds-outputs-v-then-can_unite-2 : goal.offset_bounds-outputs-v-then-can_unite-2
offset_bounds-outputs-v-then-can_unite-2 c = place_fits 32 (unite_places (unite_turn (goal.at.offset_bounds-outputs-v-then-can_unite-2 c).In-Unite)).1 (search rules)

pub bounds-outputs-v-then-can_unite-2 : goal.bounds-outputs-v-then-can_unite-2
bounds-outputs-v-then-can_unite-2 c = (unite_places (unite_turn (goal.at.bounds-outputs-v-then-can_unite-2 c).In-Unite)).1

pub offset_bounds-outputs-w-then-can_unite-2 : goal.offset_bounds-outputs-w-then-can_unite-2
offset_bounds-outputs-w-then-can_unite-2 c = place_fits 32 (unite_places (unite_turn (goal.at.offset_bounds-outputs-w-then-can_unite-2 c).In-Unite)).0 (search rules)

pub bounds-outputs-w-then-can_unite-2 : goal.bounds-outputs-w-then-can_unite-2
bounds-outputs-w-then-can_unite-2 c = (unite_places (unite_turn (goal.at.bounds-outputs-w-then-can_unite-2 c).In-Unite)).0

pub overflow_add-effective-then-can_unite : goal.overflow_add-effective-then-can_unite
overflow_add-effective-then-can_unite c = record {
  fits = effective_fits (unite_turn (goal.at.overflow_add-effective-then-can_unite c).In-Unite);
}

pub overflow_add-next : goal.overflow_add-next
overflow_add-next c = record { fits = layer_fits (close_turn (goal.at.overflow_add-next c).In-Close).going }

pub overflow_add-counted : goal.overflow_add-counted
overflow_add-counted c = record {
  fits = omega (arith, effective_fits (close_turn (goal.at.overflow_add-counted c).In-Close));
}

pub shape_of-distances-then-found-eq0 : goal.shape_of-distances-then-found-eq0
shape_of-distances-then-found-eq0 c = (lengths (goal.at.shape_of-distances-then-found-eq0 c).At-loop-used).of_distances

pub shape_of-parents-then-found-eq0 : goal.shape_of-parents-then-found-eq0
shape_of-parents-then-found-eq0 c = (lengths (goal.at.shape_of-parents-then-found-eq0 c).At-loop-used).of_parents

pub shape_of-histogram-then-found-eq0 : goal.shape_of-histogram-then-found-eq0
shape_of-histogram-then-found-eq0 c = (lengths (goal.at.shape_of-histogram-then-found-eq0 c).At-loop-used).of_histogram

pub shape_of-left-then-found-eq0 : goal.shape_of-left-then-found-eq0
shape_of-left-then-found-eq0 c = (lengths (goal.at.shape_of-left-then-found-eq0 c).At-loop-used).of_left

pub shape_of-right-then-found-eq0 : goal.shape_of-right-then-found-eq0
shape_of-right-then-found-eq0 c = (lengths (goal.at.shape_of-right-then-found-eq0 c).At-loop-used).of_right

pub shape_of-values-then-found-eq0 : goal.shape_of-values-then-found-eq0
shape_of-values-then-found-eq0 c = (lengths (goal.at.shape_of-values-then-found-eq0 c).At-loop-used).of_values

pub returns-then-found-eq0 : goal.returns-then-found-eq0
returns-then-found-eq0 c = finished_ran (close_turn (goal.at.returns-then-found-eq0 c).In-Close) c.if-pending-eq0.true c.if-found-eq0.true c.conclude.ensures

pub gather-united-requires : goal.gather-united-requires
gather-united-requires c =
    let facts = gather_able (close_turn (goal.at.gather-united-requires c).In-Close) c.if-pending-eq0.true in
    record {
      workers_le_max_workers = facts.0;
      pooled = facts.1;
    }

pub loop-used-preserved : goal.loop-used-preserved
loop-used-preserved c =
    let looked = (goal.at.loop-used-preserved c).After-look_up-event in
    elim c.match-event.branch [
      | in-Work w ↦
          let after = w.match-phase in
          let worker = turn looked w.in-Work.is in
          let made : Worked worker after.distances after.parents after.histogram after.left after.right after.values after.inputs after.outputs after.phases after.found =
          elim after.branch [
            | in-Free+else-is_empty v ↦
                rw (v.distances-is, v.parents-is, v.histogram-is, v.left-is, v.right-is, v.values-is, v.inputs-is, v.outputs-is, v.phases-is, v.found-is)
                (begun_worked worker v.in-Free.is (input_told worker v.is_empty.ensures ∙ v.if-is_empty.false) v.begin-begun.ensures)
            | in-Named v ↦
                rw (v.distances-is, v.parents-is, v.histogram-is, v.left-is, v.right-is, v.values-is, v.inputs-is, v.outputs-is, v.phases-is, v.found-is)
                (stowed_worked worker v.in-Named.is v.stow-stowed.ensures.inserted v.stow-stowed.ensures.by_index)
            | in_default v ↦
                rw (v.distances-is, v.parents-is, v.histogram-is, v.left-is, v.right-is, v.values-is, v.inputs-is, v.outputs-is, v.phases-is, v.found-is)
                (advanced_worked worker (between_now worker v.in_default.not-Free v.in_default.not-Named) v.advance.ensures.by_index v.advance.ensures.histogram_after)
          ] in
          rw (w.distances-is, w.parents-is, w.histogram-is, w.left-is, w.right-is, w.values-is, w.inputs-is, w.outputs-is, w.phases-is, w.pending-is, w.found-is, w.effective-is, w.layer-is)
          (worked_on worker w.used_up-pending.result made w.used_up-pending.ensures)
      | in-Split+then-can_split w ↦
          rw (w.distances-is, w.parents-is, w.histogram-is, w.left-is, w.right-is, w.values-is, w.inputs-is, w.outputs-is, w.phases-is, w.pending-is, w.found-is, w.effective-is, w.layer-is)
          (split_on (turn looked w.in-Split.is) w.can_split.ensures w.if-can_split.true w.split-halves.ensures)
      | in-Split+else-can_split w ↦
          rw (w.distances-is, w.parents-is, w.histogram-is, w.left-is, w.right-is, w.values-is, w.inputs-is, w.outputs-is, w.phases-is, w.pending-is, w.found-is, w.effective-is, w.layer-is)
          (split_unmet_on (turn looked w.in-Split.is) w.can_split.ensures w.if-can_split.false)
      | in-Unite+then-can_unite w ↦
          rw (w.distances-is, w.parents-is, w.histogram-is, w.left-is, w.right-is, w.values-is, w.inputs-is, w.outputs-is, w.phases-is, w.pending-is, w.found-is, w.effective-is, w.layer-is)
          (unite_on (turn looked w.in-Unite.is) w.can_unite.ensures w.if-can_unite.true w.union.ensures w.empty-then-can_unite.ensures)
      | in-Unite+else-can_unite w ↦
          rw (w.distances-is, w.parents-is, w.histogram-is, w.left-is, w.right-is, w.values-is, w.inputs-is, w.outputs-is, w.phases-is, w.pending-is, w.found-is, w.effective-is, w.layer-is)
          (unite_unmet_on (turn looked w.in-Unite.is) w.can_unite.ensures w.if-can_unite.false)
      | in-Close+then-pending-eq0+else-found-eq0 w ↦
          rw (w.distances-is, w.parents-is, w.histogram-is, w.left-is, w.right-is, w.values-is, w.inputs-is, w.outputs-is, w.phases-is, w.pending-is, w.found-is, w.effective-is, w.layer-is)
          (opened_on (turn looked w.in-Close.is) w.if-pending-eq0.true w.if-found-eq0.false w.gather-united.ensures
          w.first_of_eight-inputs-then-pending-eq0.ensures w.empty-then-pending-eq0.ensures w.first_of_eight-outputs-then-pending-eq0.ensures w.all_free-phases-then-pending-eq0.ensures)
      | in-Close+else-pending-eq0 w ↦
          rw (w.distances-is, w.parents-is, w.histogram-is, w.left-is, w.right-is, w.values-is, w.inputs-is, w.outputs-is, w.phases-is, w.pending-is, w.found-is, w.effective-is, w.layer-is)
          (pending_on (turn looked w.in-Close.is) w.if-pending-eq0.false)
      | in-Malformed w ↦
          rw (w.distances-is, w.parents-is, w.histogram-is, w.left-is, w.right-is, w.values-is, w.inputs-is, w.outputs-is, w.phases-is, w.pending-is, w.found-is, w.effective-is, w.layer-is)
          (malformed_on (turn looked w.in-Malformed.is))
    ]

pub shape_of-distances : goal.shape_of-distances
shape_of-distances c = (lengths (goal.at.shape_of-distances c).At-loop-used).of_distances

pub shape_of-parents : goal.shape_of-parents
shape_of-parents c = (lengths (goal.at.shape_of-parents c).At-loop-used).of_parents

pub shape_of-histogram : goal.shape_of-histogram
shape_of-histogram c = (lengths (goal.at.shape_of-histogram c).At-loop-used).of_histogram

pub shape_of-left : goal.shape_of-left
shape_of-left c = (lengths (goal.at.shape_of-left c).At-loop-used).of_left

pub shape_of-right : goal.shape_of-right
shape_of-right c = (lengths (goal.at.shape_of-right c).At-loop-used).of_right

pub shape_of-values : goal.shape_of-values
shape_of-values c = (lengths (goal.at.shape_of-values c).At-loop-used).of_values

pub returns : goal.returns
returns c = spent_ran c.loop-used.invariant c.loop-used-test.false c.conclude-2.ensures

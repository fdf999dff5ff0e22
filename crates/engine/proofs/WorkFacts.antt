-- A worker's move in a run: what its steps take for granted holds, and after it the engine is where the model is.
use mathlib.Core.Path.{◌≡◌, refl, sym, ap, ◌∙◌}
use mathlib.Core.Bool.{Bool, true, false}
use mathlib.Core.List.{List, [], ◌∷◌, map, map-append}
use mathlib.Core.Option.{none, some, some-injective}
use Prim.Native.Nat.{ℕ, suc, ◌+◌, ◌-◌, ◌*◌, ◌≤◌, ◌<◌}
use native.Mathlib.Nat.{mul-le-mul}
use native.Mathlib.Numerals.{add-one}
use native.Mathlib.Omega.{arith}
use lib.ListN.{length, get_or, set, take, length-set, length-map}
use lib.Seq.{take-set-lt, set-get_or, get_or-set_same}
use Rattle.lists.specs.Lists.{sum_of}
use Rattle.lists.proofs.Sums.{sum_set, sum_at, sum_append}
use Rattle.lists.proofs.Replaced.{map_set, set_each}
use Rattle.graph.specs.Steps.{GraphRows}
use Rattle.graph.proofs.GraphRowsFacts.{offsets_long}
use Rattle.pennant.specs.Bag.{Bag, empty_bag, is_empty, taken_number, bag_insert}
use Rattle.pennant.specs.Held.{size, one, copies}
use Rattle.pennant.proofs.Laws.{taken_held, weigh_empty, weigh_insert, weigh_rest}
use Rattle.bag.specs.declared.Bag as declared
use Rattle.bag.specs.Nodes.{held_by, past_bag}
use Rattle.bag.specs.Promises.{Pooled, Inserted}
use Rattle.bag.proofs.Family.{same_moved}
use Rattle.bag.proofs.HeldFacts.{held_shaped, family_room}
use Rattle.schedule.specs.declared.Event.TheVariants.{Work}
use Rattle.model.specs.State as model
use Rattle.model.specs.Table.{hold_at, mark, move, after_move, moved_state, act}
use Rattle.model.specs.Words.{option_of, labels_of}
use Rattle.model.specs.Histogram.{recount}
use Rattle.model.specs.Demand.{held}
use Rattle.workers.specs.declared.Phase.{Phase}
use Rattle.workers.specs.declared.Phase.TheVariants.{Free, Holding, InHand, Marked, Named}
use Rattle.workers.specs.Shown.{phase_of, state_of}
use Rattle.workers.specs.Steps.{EdgeOf, InRows, hold_from, Between, Countable, counts_after, Advanced, BegunFrom, held_of}
use Rattle.workers.proofs.RowFacts.{edge_small, fits_as}
use Rattle.workers.proofs.MoveFacts.{Moves, rest_none, begun_moves, stowed_moves, advanced_moves, between_others, not_between}
use Rattle.workers.proofs.CountFacts.{Markable, counts_recount, countable_now}
use Rattle.workers.proofs.CrewFacts.{crew_long, crew_set, crew_loads}
use Rattle.workers.proofs.BagsFacts.{bags_of, BagsAfter, input_pooled, output_pooled, input_after, output-after}
use Rattle.workers.proofs.IdleFacts.{held_one, busy_set, busy_some}
use Rattle.engine.proofs.PlayingFacts.{Given, graph, crew, Long, Going, Turn, placed, now_state, enough, phases_there, even, held_inputs, held_outputs, shown_phases}
use Rattle.engine.proofs.PlayingFacts.{input_shown, output_shown, worker_shown, now_fits, layer_low, layer_fits, next_fits, next_stays, staffed, or_else, play_on, unmet_on}

module _ {g : Given} {distances parents histogram left right values : List ℕ} {inputs outputs : List declared.Bag} {phases : List Phase} {pending found used effective layer w : ℕ}
    (turn : Turn g distances parents histogram left right values inputs outputs phases pending found used effective layer (Work w)) where
  -- what holds before the byte
  abbrev at : Going g distances parents histogram left right values inputs outputs phases pending found used effective layer
  at = turn.going

  -- the worker is there
  here : w < g.workers
  here = staffed turn

  -- one of eight
  pub work_place : w < 8
  work_place = placed at here

  -- its bags and its phase
  abbrev input : declared.Bag
  input = get_or inputs w past_bag

  abbrev output : declared.Bag
  output = get_or outputs w past_bag

  abbrev phase : Phase
  phase = get_or phases w Free

  -- what the bags hold
  abbrev held_input : Bag
  held_input = held_by left right values input

  abbrev held_output : Bag
  held_output = held_by left right values output

  -- its phase is at an edge
  in_row : InRows g.offsets g.vertices phase
  in_row = at.in_rows w here

  -- the event by its move
  work_act : act (graph g) (now_state at) (Work w)
      ≡ after_move (now_state at) w (move (graph g) layer (labels_of distances parents) held_input held_output (phase_of g.offsets phase))
  unfolding act state_of
  work_act =
      ap (λ (x : model.Worker). after_move (now_state at) w (move (graph g) layer (labels_of distances parents) x.input x.output x.phase)) (worker_shown at w here)

  -- Taking.

  -- what a test for an empty input bag told
  pub input_told : {empty : Bool} → ((left right values : List ℕ) → Pooled left right (input ∷ []) → empty ≡ is_empty (held_by left right values input))
      → is_empty held_input ≡ empty
  input_told told = sym (told left right values (input_pooled (enough at) at.pool w here))

  -- a free worker with nothing in its bag stays as it is
  pub rest_on : phase ≡ Free → is_empty held_input ≡ true → Going g distances parents histogram left right values inputs outputs phases pending found (used + 1) effective layer
  unfolding after_move
  rest_on free empty =
      unmet_on turn
      (work_act ∙ ap (after_move (now_state at) w) (rest_none (graph g) layer (labels_of distances parents) g.offsets held_input held_output phase free empty))

  -- the numbers in its input bag are vertices
  input_below : (v : ℕ) → 1 ≤ copies v held_input → v < g.vertices
  unfolding state_of
  input_below v h =
      omega (arith, at.ready.rows.count, (now_fits at).inputs_below w v (rw (ap {B = Bag} (λ (x : model.Worker). x.input) (worker_shown at w here)) h))

  -- what `begin` takes for granted
  pub begin_able : is_empty held_input ≡ false
      → Pooled left right (input ∷ [])
      × ((length left ≤ length values) × ((is_empty held_input ≡ false) × ((v : ℕ) → 1 ≤ copies v held_input → v + 1 < length g.offsets)))
  begin_able filled = (
    input_pooled (enough at) at.pool w here,
    (
      omega (arith, at.ready.numbered, at.long.left_long, at.long.values_long),
      (filled, λ v h. omega (arith, input_below v h, offsets_long at.ready.rows)),
    ),
  )

  -- A move that was made.

  -- the worker's bags and phase, and the lists, after it
  pub record Worked (distances' parents' histogram' left' right' values' : List ℕ) (inputs' outputs' : List declared.Bag) (phases' : List Phase) (found' : ℕ)
      : Type 0 where
    pub next : Phase
    pub stored : phases' ≡ set phases w next
    pub input' : Bag
    pub output' : Bag
    pub moves : Moves g.offsets g.targets layer distances parents held_input held_output phase distances' parents' input' output' next
    pub bags : BagsAfter g.workers inputs outputs left right left' right' values' inputs' outputs'
        (set (held_inputs at) w input') (set (held_outputs at) w output')
    pub long : Long g distances' parents' left' right' values' inputs' outputs' phases
    -- the counts are a recount of the distances
    pub recounted : histogram' ≡ recount (map option_of distances')
    -- the vertex that it takes or holds is one of those pending
    pub taken : size input' + 1 ≡ size held_input + held_of phase
    -- so many more are in its output bag
    pub found_more : found' + size held_output ≡ found + size output'

  -- worker w among those there are
  inputs_inside : w < length (held_inputs at)
  inputs_inside = omega (arith, (even at).inputs_long, here)

  outputs_inside : w < length (held_outputs at)
  outputs_inside = omega (arith, (even at).outputs_long, here)

  -- so some vertex is pending
  pub some_pending : {distances' parents' histogram' left' right' values' : List ℕ} {inputs' outputs' : List declared.Bag} {phases' : List Phase} {found' : ℕ}
      → Worked distances' parents' histogram' left' right' values' inputs' outputs' phases' found' → 1 ≤ pending
  some_pending worked =
      omega (
        arith,
        at.waiting,
        worked.taken,
        sum_at size (held_inputs at) w empty_bag (weigh_empty one),
        ap size (input_shown at w here),
        busy_some phases g.workers (phases_there at) w here,
      )

  -- the run goes on
  pub worked_on : {distances' parents' histogram' left' right' values' : List ℕ} {inputs' outputs' : List declared.Bag} {phases' : List Phase} {found' : ℕ} (done : ℕ)
      → Worked distances' parents' histogram' left' right' values' inputs' outputs' phases' found' → done + held_of (get_or phases' w Free) ≡ 1
      → Going g distances' parents' histogram' left' right' values' inputs' outputs' phases' (pending - done) found' (used + 1) (effective + 1) layer
  unfolding after_move state_of
  worked_on {distances'} {parents'} {histogram'} {left'} {right'} {values'} {inputs'} {outputs'} {phases'} done worked told =
      let next = worked.next in
      rw worked.stored
      (play_on turn
      (record {
        distances_long = worked.long.distances_long;
        parents_long = worked.long.parents_long;
        left_long = worked.long.left_long;
        right_long = worked.long.right_long;
        values_long = worked.long.values_long;
        inputs_long = worked.long.inputs_long;
        outputs_long = worked.long.outputs_long;
        phases_long = length-set phases w next ∙ at.long.phases_long;
      })
      worked.recounted
      worked.bags.moved
      (set_each (InRows g.offsets g.vertices) (λ j. j < g.workers) phases w next Free
      (rw at.long.distances_long at worked.moves.in_rows) at.in_rows)
      (omega (
        arith,
        at.waiting,
        told,
        ap held_of (ap (λ (l : List Phase). get_or l w Free) worked.stored ∙ get_or-set_same phases w next Free inside),
        worked.taken,
        some_pending worked,
        ap (sum_of size) worked.bags.inputs_held,
        sum_set size (held_inputs at) w worked.input' empty_bag inputs_inside,
        ap size (input_shown at w here),
        busy_set phases g.workers (phases_there at) w here next,
      ))
      (omega (
        arith,
        at.stowed,
        worked.found_more,
        ap (sum_of size) worked.bags.outputs_held,
        sum_set size (held_outputs at) w worked.output' empty_bag outputs_inside,
        ap size (output_shown at w here),
      ))
      made (ap (λ (ws : List model.Worker). record { labels = labels_of distances' parents'; workers = ws; layer = layer; finished = false }) crew_after))
    where
      -- its phase is one of those there are
      inside : w < length phases
      inside = omega (arith, phases_there at, here)

      -- the worker then
      after : model.Worker
      after = model.worker_with worked.input' worked.output' (phase_of g.offsets worked.next)

      made : act (graph g) (now_state at) (Work w) ≡ some (moved_state (now_state at) w (after, labels_of distances' parents'))
      made = work_act ∙ ap (after_move (now_state at) w) worked.moves.made

      crew_after : crew g left' right' values' inputs' outputs' (set phases w worked.next) ≡ set (crew g left right values inputs outputs phases) w after
      crew_after =
          rw (
            worked.bags.inputs_held,
            worked.bags.outputs_held,
            take-set-lt g.workers phases w worked.next here,
            map_set (phase_of g.offsets) (take g.workers phases) w worked.next,
          )
          (crew_set (held_inputs at) (held_outputs at) (shown_phases at) w worked.input' worked.output' (phase_of g.offsets worked.next))

  -- bags that stay as they are, as one of them is put back
  input_back : set (held_inputs at) w held_input ≡ held_inputs at
  input_back = ap (set (held_inputs at) w) (sym (input_shown at w here)) ∙ set-get_or (held_inputs at) w empty_bag

  output_back : set (held_outputs at) w held_output ≡ held_outputs at
  output_back = ap (set (held_outputs at) w) (sym (output_shown at w here)) ∙ set-get_or (held_outputs at) w empty_bag

  -- a phase that is free counts for nothing
  free_none : held_of Free ≡ 0
  unfolding held_of
  free_none = refl

  -- `begin`
  pub begun_worked : phase ≡ Free → is_empty held_input ≡ false → {left' : List ℕ} {rest : declared.Bag} {next : Phase}
      → BegunFrom input g.offsets left right values left' rest next
      → Worked distances parents histogram left' right values (set inputs w rest) outputs (set phases w next) found
  begun_worked free filled {left'} {rest} {next} begun = record {
    next = next;
    stored = refl;
    input' = held_by left' right values rest;
    output' = held_output;
    moves = begun_moves distances parents layer ground held_output free filled
        (rw at.long.distances_long (input_below (taken_number held_input) (taken_held held_input filled))) begun;
    bags = rw output_back (input_after (enough at) at.pool w here values values begun.taken.moved (λ x h c. refl));
    long = record {
      distances_long = at.long.distances_long;
      parents_long = at.long.parents_long;
      left_long = begun.taken.moved.left_length ∙ at.long.left_long;
      right_long = at.long.right_long;
      values_long = at.long.values_long;
      inputs_long = length-set inputs w rest ∙ at.long.inputs_long;
      outputs_long = at.long.outputs_long;
      phases_long = at.long.phases_long;
    };
    recounted = at.recounted;
    taken = omega (arith, ap held_of free, free_none, ap size begun.taken.held, weigh_rest one held_input (held_shaped left right values input) filled);
    found_more = refl;
  }
    where
      ground : GraphRows g.offsets g.targets (length distances)
      ground = rw at.long.distances_long at.ready.rows

  -- Stowing.

  module _ {u e f t : ℕ} (named : phase ≡ Named u e f t) where
    -- its edge is one of its vertex
    named_edge : EdgeOf g.offsets g.vertices u e f
    named_edge = (fits_as g.offsets g.vertices named in_row).0

    -- the worker after it has stowed
    stowed : model.Worker
    stowed = model.worker_with held_input (bag_insert t held_output) (hold_at (graph g) u (suc (e - get_or g.offsets u 0)))

    -- the table has this move for it
    stow_act : act (graph g) (now_state at) (Work w) ≡ some (moved_state (now_state at) w (stowed, labels_of distances parents))
    unfolding after_move move phase_of stowed
    stow_act =
        work_act
        ∙ ap (λ (p : Phase). after_move (now_state at) w (move (graph g) layer (labels_of distances parents) held_input held_output (phase_of g.offsets p))) named

    -- all workers hold one number more then
    stow_held : held (crew g left right values inputs outputs phases) + 1 ≤ g.workers * length (graph g)
    unfolding or_else held state_of stowed
    stow_held =
        let load : model.Worker → ℕ = λ y. size y.input + size y.output in
        let ws = crew g left right values inputs outputs phases in
        let inside : w < length ws = rw (crew_long (held_inputs at) (held_outputs at) (shown_phases at) (even at)) here in
        let few : sum_of load (set ws w stowed) ≤ g.workers * length (graph g) = rw stow_act at (next_fits turn).all_held in
        let before : load (model.worker_at ws w) ≡ size held_input + size held_output = ap load (worker_shown at w here) in
        omega (arith, sum_set load ws w stowed model.idle_worker inside, weigh_insert one t held_output)

    -- so a node is free for it
    stow_room : get_or left 0 0 ≡ 0 → ⊥
    stow_room =
        family_room left right values (bags_of g.workers inputs outputs) (g.workers * g.vertices) at.whole
        (omega (
          arith,
          stow_held,
          crew_loads (held_inputs at) (held_outputs at) (shown_phases at) (even at),
          ap (sum_of size) (map-append (held_by left right values) (take g.workers inputs) (take g.workers outputs)),
          sum_append size (held_inputs at) (held_outputs at),
          ap (λ (k : ℕ). g.workers * k) at.ready.rows.count,
        ))

    -- one more is counted in a word
    pub found_fits : found + 1 < 18446744073709551616
    found_fits =
        omega (
          arith,
          at.stowed,
          stow_held,
          crew_loads (held_inputs at) (held_outputs at) (shown_phases at) (even at),
          ap (λ (k : ℕ). g.workers * k) at.ready.rows.count,
          mul-le-mul at.ready.accepted.few_workers at.ready.rows.few-vertices,
        )

    -- what `stow` takes for granted
    pub stow_able : (e + 1 < 65536) × (Pooled left right (output ∷ []) × ((length left ≤ length values) × (get_or left 0 0 ≡ 0 → ⊥)))
    stow_able = (
      (edge_small at.ready.rows named_edge).edge_small,
      (
        output_pooled (enough at) at.pool w here,
        (omega (arith, at.ready.numbered, at.long.left_long, at.long.values_long), stow_room),
      ),
    )

    -- `stow`
    pub stowed_worked : {left' right' values' : List ℕ} {more : declared.Bag} {next : Phase}
        → Inserted left right values output t left' right' values' more
        → ((offsets : List ℕ) → f ≡ get_or offsets (u + 1) 0 → next ≡ hold_from offsets u (e + 1))
        → Worked distances parents histogram left' right' values' inputs (set outputs w more) (set phases w next) (found + 1)
    stowed_worked {left'} {right'} {values'} {more} {next} inserted passed = record {
      next = next;
      stored = refl;
      input' = held_input;
      output' = held_by left' right' values' more;
      moves = stowed_moves distances parents layer ground held_input named (rw at.long.distances_long in_row) inserted
          (passed g.offsets named_edge.ends);
      bags = rw input_back (output-after (enough at) at.pool w here values values' inserted.moved inserted.kept_value);
      long = record {
        distances_long = at.long.distances_long;
        parents_long = at.long.parents_long;
        left_long = inserted.moved.left_length ∙ at.long.left_long;
        right_long = inserted.moved.right_length ∙ at.long.right_long;
        values_long = ap length inserted.stored ∙ length-set values (get_or left 0 0) t ∙ at.long.values_long;
        inputs_long = at.long.inputs_long;
        outputs_long = length-set outputs w more ∙ at.long.outputs_long;
        phases_long = at.long.phases_long;
      };
      recounted = at.recounted;
      taken = omega (arith, ap held_of named, held_one (Named u e f t) (λ (same : Named u e f t ≡ Free). let z : ◌≡◌ {A = ℕ} 0 1 = cc in omega arith));
      found_more = omega (arith, ap size inserted.held, weigh_insert one t held_output);
    }
      where
        ground : GraphRows g.offsets g.targets (length distances)
        ground = rw at.long.distances_long at.ready.rows

  -- The moves without a bag.

  -- a phase that is neither free nor named
  pub between_now : (phase ≡ Free → ⊥) → ((u e f t : ℕ) → phase ≡ Named u e f t → ⊥) → Between g.targets (length distances) phase
  between_now free named = rw at.long.distances_long (between_others at.ready.rows phase in_row free named)

  -- a mark in the table
  module _ {u e f t : ℕ} (reached : phase ≡ InHand u e f t) where
    -- the worker after it has marked
    marking : model.Worker
    marking = model.worker_with held_input held_output (model.marked u (e - get_or g.offsets u 0) t)

    -- the table has this move for it
    mark_act : act (graph g) (now_state at) (Work w) ≡ some (moved_state (now_state at) w (marking, mark layer t (labels_of distances parents)))
    unfolding after_move move phase_of marking
    mark_act =
        work_act
        ∙ ap (λ (p : Phase). after_move (now_state at) w (move (graph g) layer (labels_of distances parents) held_input held_output (phase_of g.offsets p))) reached

    -- the target is at d + 1 after it
    mark_label : get_or (set (map option_of distances) t (some (suc layer))) t none ≡ some (suc layer)
    mark_label =
        let here = (fits_as g.offsets g.vertices reached in_row).1 in
        get_or-set_same (map option_of distances) t (some (suc layer)) none (omega (arith, length-map distances option_of, at.long.distances_long))

    -- so d + 1 is below n
    mark_below : layer + 1 < length distances
    unfolding or_else state_of labels_of mark
    mark_below =
        let low : suc layer < length (graph g) = (rw mark_act at ((next_fits turn).distances_below t (suc layer))) mark_label in
        omega (arith, at.ready.rows.count, at.long.distances_long)

    -- and a target that was set was at d + 1
    mark_again : (k : ℕ) → get_or (map option_of distances) t none ≡ some k → k ≡ layer + 1
    unfolding or_else state_of labels_of mark
    mark_again k before =
        let after : get_or (set (map option_of distances) t (some (suc layer))) t none ≡ some k = rw mark_act at (next_stays turn t k before) in
        some-injective k (suc layer) (sym after ∙ mark_label) ∙ sym (add-one layer)

  -- so a mark can be counted
  markable : (p : Phase) → phase ≡ p → Markable layer (length distances) distances p
  markable Free is = tt
  markable (Holding u e f) is = tt
  markable (InHand u e f t) is = (mark_below is, mark_again is)
  markable (Marked u e f t) is = tt
  markable (Named u e f t) is = tt

  -- what `advance` takes for granted
  pub advance_able : Between g.targets (length distances) phase
      → (length parents ≡ length distances) × ((layer + 1 < 65536) × (Between g.targets (length distances) phase × Countable layer histogram phase))
  advance_able between = (
    at.long.parents_long ∙ sym at.long.distances_long,
    (
      layer_fits at,
      (between, countable_now layer distances phase (omega (arith, at.long.distances_long, at.ready.rows.few-vertices)) (markable phase refl) at.recounted),
    ),
  )

  -- `advance`
  pub advanced_worked : {distances' parents' histogram' : List ℕ} {next : Phase} → Between g.targets (length distances) phase
      → ((offsets : List ℕ) → GraphRows offsets g.targets (length distances) → layer < length distances → InRows offsets (length distances) phase
      → Advanced phase layer offsets g.targets distances parents distances' parents' next)
      → histogram' ≡ counts_after phase layer distances histogram
      → Worked distances' parents' histogram' left right values inputs outputs (set phases w next) found
  advanced_worked {distances'} {parents'} {next = next} between promised counted = record {
    next = next;
    stored = refl;
    input' = held_input;
    output' = held_output;
    moves = advanced_moves held_input held_output advanced;
    bags = rw (input_back, output_back) (record { moved = same_moved (λ f. refl) at.pool.formed; inputs_held = refl; outputs_held = refl });
    long = record {
      distances_long = advanced.distances_length ∙ at.long.distances_long;
      parents_long = advanced.parents_length ∙ at.long.parents_long;
      left_long = at.long.left_long;
      right_long = at.long.right_long;
      values_long = at.long.values_long;
      inputs_long = at.long.inputs_long;
      outputs_long = at.long.outputs_long;
      phases_long = at.long.phases_long;
    };
    recounted = counts_recount phase advanced between (markable phase refl) at.recounted counted;
    taken = omega (arith, held_one phase (λ free. not_between g.targets (length distances) free (λ never. never) between));
    found_more = refl;
  }
    where
      advanced : Advanced phase layer g.offsets g.targets distances parents distances' parents' next
      advanced =
          let long = at.long.distances_long in
          promised g.offsets (rw long at.ready.rows) (rw long (layer_low at)) (rw long in_row)

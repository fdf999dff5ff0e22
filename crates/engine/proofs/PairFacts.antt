-- Two workers' exchange in a run: what it takes for granted holds, and after it the engine is where the model is, whether its condition was met or not.
use mathlib.Core.Path.{◌≡◌, refl, sym, ap, ap₂, ◌∙◌}
use mathlib.Core.Bool.{Bool, true, false, cond, not, ◌&&◌, and-eq-true_iff}
use mathlib.Core.List.{List, [], ◌∷◌, map}
use mathlib.Core.Option.{none, some}
use Prim.Native.Nat.{ℕ, ◌+◌, ◌<◌}
use native.Mathlib.Omega.{arith}
use lib.ListN.{length, get_or, set, take}
use Rattle.lists.specs.Lists.{sum_of}
use Rattle.lists.proofs.Replaced.{length_two}
use Rattle.lists.proofs.Sums.{sum_two}
use Rattle.pennant.specs.Bag.{Bag, empty_bag, is_empty, at_least_two, bag_union, split_first, split_second}
use Rattle.pennant.specs.Held.{size}
use Rattle.bag.specs.declared.Bag as declared
use Rattle.bag.specs.Nodes.{held_by, new_bag, past_bag}
use Rattle.bag.specs.Promises.{Pooled, Moved, SplitInto, United}
use Rattle.bag.proofs.Family.{split_two}
use Rattle.bag.proofs.HeldFacts.{held_none}
use Rattle.schedule.specs.declared.Event.{Event}
use Rattle.schedule.specs.declared.Event.TheVariants.{Split, Unite}
use Rattle.model.specs.State as model
use Rattle.model.specs.Table.{replace_workers, act}
use Rattle.workers.specs.declared.Phase.{Phase}
use Rattle.workers.specs.Shown.{crew_of, state_of}
use Rattle.workers.proofs.PairFacts.{pool_first, split_size, unite_size, split_act, unite_act}
use Rattle.workers.proofs.BagsFacts.{bags_of, inputs_pooled, outputs_pooled, inputs_after, outputs_after}
use Rattle.engine.proofs.PlayingFacts.{Given, graph, crew, Going, Turn, placed, now_state, enough, even, held_inputs, held_outputs, shown_phases}
use Rattle.engine.proofs.PlayingFacts.{input_shown, output_shown, staffed, play_on, unmet_on}

-- two bags replaced by two that have as many numbers
exchanged_size : (bags : List Bag) (w v : ℕ) {a b : Bag} (first second : Bag) → w < length bags → v < length bags → (w ≡ v → ⊥)
    → get_or bags w empty_bag ≡ a → get_or bags v empty_bag ≡ b → size first + size second ≡ size a + size b
    → sum_of size (set (set bags v second) w first) ≡ sum_of size bags
exchanged_size bags w v first second w-there v-there apart at-w at-v same =
    omega (arith, sum_two size bags w v first second empty_bag w-there v-there apart, ap size at-w, ap size at-v)

module _ {g : Given} {distances parents histogram left right values : List ℕ} {inputs outputs : List declared.Bag} {phases : List Phase}
    {pending found used effective layer : ℕ} where
  -- the run goes on with the workers that the table has, if the bags have as many numbers as before
  exchange_on : {e : Event} (turn : Turn g distances parents histogram left right values inputs outputs phases pending found used effective layer e)
      {workers : List model.Worker} {left' right' : List ℕ} {inputs' outputs' : List declared.Bag}
      → act (graph g) (now_state turn.going) e ≡ some (replace_workers (now_state turn.going) workers)
      → crew g left' right' values inputs' outputs' phases ≡ workers
      → Moved left right (bags_of g.workers inputs outputs) left' right' (bags_of g.workers inputs' outputs')
      → length inputs' ≡ length inputs → length outputs' ≡ length outputs
      → sum_of size (map (held_by left' right' values) (take g.workers inputs')) ≡ sum_of size (held_inputs turn.going)
      → sum_of size (map (held_by left' right' values) (take g.workers outputs')) ≡ sum_of size (held_outputs turn.going)
      → Going g distances parents histogram left' right' values inputs' outputs' phases pending found (used + 1) (effective + 1) layer
  unfolding state_of
  exchange_on turn made crew' moved same_inputs same-outputs inputs-size outputs-size =
      let now = turn.going in
      play_on turn
      (record {
        distances_long = now.long.distances_long;
        parents_long = now.long.parents_long;
        left_long = moved.left_length ∙ now.long.left_long;
        right_long = moved.right_length ∙ now.long.right_long;
        values_long = now.long.values_long;
        inputs_long = same_inputs ∙ now.long.inputs_long;
        outputs_long = same-outputs ∙ now.long.outputs_long;
        phases_long = now.long.phases_long;
      })
      now.recounted moved now.in_rows (omega (arith, now.waiting, inputs-size)) (now.stowed ∙ sym outputs-size) made (ap (replace_workers (now_state now)) crew')

  -- Kind 1.

  module _ {w v : ℕ} (turn : Turn g distances parents histogram left right values inputs outputs phases pending found used effective layer (Split w v)) where
    -- what holds before the byte
    abbrev now : Going g distances parents histogram left right values inputs outputs phases pending found used effective layer
    now = turn.going

    -- the two workers are two of eight
    pub split_places : (w < 8) × (v < 8)
    split_places = (placed now (staffed turn).0, placed now (staffed turn).1)

    -- their bags, the giver's first
    both_inputs : Pooled left right (get_or inputs v past_bag ∷ get_or inputs w past_bag ∷ [])
    both_inputs = inputs_pooled (enough now) now.pool w v (staffed turn).0 (staffed turn).1 (staffed turn).2

    -- what a split takes for granted
    pub split_able : Pooled left right (get_or inputs v past_bag ∷ [])
    split_able = pool_first (get_or inputs v past_bag) (get_or inputs w past_bag) both_inputs

    -- what they hold
    abbrev taking : Bag
    taking = held_by left right values (get_or inputs w past_bag)

    abbrev giving : Bag
    giving = held_by left right values (get_or inputs v past_bag)

    module _ {met : Bool}
        (told : (left right values : List ℕ) → Pooled left right (get_or inputs v past_bag ∷ get_or inputs w past_bag ∷ [])
        → met ≡ (is_empty (held_by left right values (get_or inputs w past_bag)) && at_least_two (held_by left right values (get_or inputs v past_bag)))) where
      -- the table by the code's test
      split_told : act (graph g) (now_state now) (Split w v)
          ≡ cond met
          (some (replace_workers (now_state now)
          (crew_of (set (set (held_inputs now) v (split_first giving)) w (split_second giving)) (held_outputs now) (shown_phases now)))) none
      unfolding state_of
      split_told =
          rw (input_shown now w (staffed turn).0, input_shown now v (staffed turn).1, ← told left right values both_inputs) at
          (split_act (graph g) (now_state now) (held_inputs now) (held_outputs now) (shown_phases now) (even now) refl w v)

      -- it is met: the run goes on
      pub split_on : met ≡ true → {left' right' : List ℕ} {kept given : declared.Bag}
          → SplitInto left right (get_or inputs v past_bag) left' right' kept given
          → Going g distances parents histogram left' right' values (set (set inputs v kept) w given) outputs phases pending found (used + 1) (effective + 1) layer
      unfolding state_of
      split_on is {left'} {right'} {kept} {given} made =
          let bare : is_empty taking ≡ true = ((and-eq-true_iff _ _).0 (sym (told left right values both_inputs) ∙ is)).0 in
          let bags = inputs_after (enough now) now.pool w v (staffed turn).0 (staffed turn).1 (staffed turn).2 values
          (split_two values (get_or inputs w past_bag) bare made.moved) in
          let inputs_held = rw (made.held_first values, made.held_second values) at bags.inputs_held in
          exchange_on turn (rw is at split_told)
          (ap₂ (λ (a b : List Bag). crew_of a b (shown_phases now)) inputs_held bags.outputs_held)
          bags.moved (length_two inputs v w kept given) refl
          (ap (sum_of size) inputs_held
          ∙ exchanged_size (held_inputs now) w v (split_second giving) (split_first giving)
          (rw (even now).inputs_long (staffed turn).0) (rw (even now).inputs_long (staffed turn).1) (staffed turn).2
          (input_shown now w (staffed turn).0) (input_shown now v (staffed turn).1) (split_size taking giving bare))
          (ap (sum_of size) bags.outputs_held)

      -- it isn't: the run goes on as it is
      pub split_unmet_on : met ≡ false → Going g distances parents histogram left right values inputs outputs phases pending found (used + 1) effective layer
      split_unmet_on unmet = unmet_on turn (rw unmet at split_told)

  -- Kind 2.

  module _ {w v : ℕ} (turn : Turn g distances parents histogram left right values inputs outputs phases pending found used effective layer (Unite w v)) where
    -- what holds before the byte
    abbrev here : Going g distances parents histogram left right values inputs outputs phases pending found used effective layer
    here = turn.going

    -- the two workers are two of eight
    pub unite_places : (w < 8) × (v < 8)
    unite_places = (placed here (staffed turn).0, placed here (staffed turn).1)

    -- what a union takes for granted of their bags, the taker's first
    pub unite_able : Pooled left right (get_or outputs v past_bag ∷ get_or outputs w past_bag ∷ [])
    unite_able = outputs_pooled (enough here) here.pool w v (staffed turn).0 (staffed turn).1 (staffed turn).2

    -- what they hold
    abbrev handed : Bag
    handed = held_by left right values (get_or outputs w past_bag)

    abbrev had : Bag
    had = held_by left right values (get_or outputs v past_bag)

    module _ {met : Bool}
        (told : (left right values : List ℕ) → Pooled left right (get_or outputs v past_bag ∷ get_or outputs w past_bag ∷ [])
        → met
        ≡ (not (is_empty (held_by left right values (get_or outputs w past_bag))) && not (is_empty (held_by left right values (get_or outputs v past_bag))))) where
      -- the table by the code's test
      unite_told : act (graph g) (now_state here) (Unite w v)
          ≡ cond met
          (some (replace_workers (now_state here)
          (crew_of (held_inputs here) (set (set (held_outputs here) v (bag_union had handed)) w empty_bag) (shown_phases here)))) none
      unfolding state_of
      unite_told =
          rw (output_shown here w (staffed turn).0, output_shown here v (staffed turn).1, ← told left right values unite_able) at
          (unite_act (graph g) (now_state here) (held_inputs here) (held_outputs here) (shown_phases here) (even here) refl w v)

      -- it is met: the run goes on
      pub unite_on : met ≡ true → {left' right' : List ℕ} {united emptied : declared.Bag}
          → United left right (get_or outputs v past_bag) (get_or outputs w past_bag) left' right' united → emptied ≡ new_bag
          → Going g distances parents histogram left' right' values inputs (set (set outputs v united) w emptied) phases pending found (used + 1) (effective + 1) layer
      unfolding state_of
      unite_on is {left'} {right'} {united} made new =
          let bags = outputs_after (enough here) here.pool w v (staffed turn).0 (staffed turn).1 (staffed turn).2 values made.moved in
          let outputs_held = rw (made.held values, held_none left' right' values) at bags.outputs_held in
          rw new
          (exchange_on turn (rw is at unite_told)
          (ap₂ (λ (a b : List Bag). crew_of a b (shown_phases here)) bags.inputs_held outputs_held)
          bags.moved refl (length_two outputs v w united new_bag) (ap (sum_of size) bags.inputs_held)
          (ap (sum_of size) outputs_held
          ∙ exchanged_size (held_outputs here) w v empty_bag (bag_union had handed)
          (rw (even here).outputs_long (staffed turn).0) (rw (even here).outputs_long (staffed turn).1) (staffed turn).2
          (output_shown here w (staffed turn).0) (output_shown here v (staffed turn).1) (unite_size handed had)))

      -- it isn't: the run goes on as it is
      pub unite_unmet_on : met ≡ false → Going g distances parents histogram left right values inputs outputs phases pending found (used + 1) effective layer
      unite_unmet_on unmet = unmet_on turn (rw unmet at unite_told)

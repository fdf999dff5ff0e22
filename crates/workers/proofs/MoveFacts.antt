-- One worker's moves as the table has them: the two with a bag, those without, and when there is none.
use mathlib.Core.Path.{◌≡◌, refl, sym, ap, ◌∙◌, subst}
use mathlib.Core.Bool.{true, false}
use mathlib.Core.List.{List}
use mathlib.Core.Option.{none, some}
use Prim.Native.Nat.{ℕ, ◌+◌, ◌-◌, ◌≤◌, ◌<◌}
use native.Mathlib.Omega.{arith}
use lib.ListN.{length, get_or}
use Rattle.graph.specs.Graph.{Graph, rows_of}
use Rattle.graph.specs.Steps.{GraphRows}
use Rattle.pennant.specs.Bag.{Bag, is_empty, take_rest, taken_number}
use Rattle.pennant.specs.Held.{copies}
use Rattle.pennant.proofs.Laws.{taken_held}
use Rattle.bag.specs.declared.Bag as declared
use Rattle.bag.specs.Nodes.{held_by}
use Rattle.bag.specs.Promises.{Inserted, TakenFrom}
use Rattle.model.specs.Paths.{Labels}
use Rattle.model.specs.State as model
use Rattle.model.specs.Table.{hold_at, move}
use Rattle.model.specs.Words.{labels_of}
use Rattle.workers.specs.declared.Phase.{Phase}
use Rattle.workers.specs.declared.Phase.TheVariants.{Free, Holding, InHand, Marked, Named}
use Rattle.workers.specs.Shown.{phase_of}
use Rattle.workers.specs.Steps.{EdgeOf, InRows, hold_from, hold_first, Between, Advanced, BegunFrom}
use Rattle.workers.proofs.RowFacts.{hold_shown, hold_fits, edge_small, pass_shown, pass_fits, fits_as}

-- a worker's bags, as what they hold, and its phase, moved as the table says
pub record Moves (offsets targets : List ℕ) (layer : ℕ) (distances parents : List ℕ) (input output : Bag) (phase : Phase)
    (distances' parents' : List ℕ) (input' output' : Bag) (phase' : Phase) : Type 0 where
  pub made : move (rows_of offsets targets) layer (labels_of distances parents) input output (phase_of offsets phase)
      ≡ some (model.worker_with input' output' (phase_of offsets phase'), labels_of distances' parents')
  pub in_rows : InRows offsets (length distances) phase'

-- Free.

-- a free worker with an empty bag has no move
pub rest_none : (g : Graph) (layer : ℕ) (x : Labels) (offsets : List ℕ) (input output : Bag) (phase : Phase) → phase ≡ Free
    → is_empty input ≡ true → move g layer x input output (phase_of offsets phase) ≡ none
unfolding move phase_of
rest_none g layer x offsets input output phase free empty = rw (free, empty)

-- one with a bag that isn't takes from it
free_take : (g : Graph) (layer : ℕ) (x : Labels) (input output : Bag) → is_empty input ≡ false
    → move g layer x input output model.free ≡ some (model.worker_with (take_rest input) output (hold_at g (taken_number input) 0), x)
unfolding move
free_take g layer x input output filled = rw filled

-- a number that was taken was held
pub taken_copies : (left right values : List ℕ) (input : declared.Bag) → is_empty (held_by left right values input) ≡ false
    → {left' : List ℕ} {input' : declared.Bag} {value : ℕ} → TakenFrom left right values input left' input' value
    → 1 ≤ copies value (held_by left right values input)
taken_copies left right values input filled taken = rw taken.taken (taken_held (held_by left right values input) filled)

-- what `begin` promises, of the number as the code has it
pub begun_from : {offsets left right values left' : List ℕ} {input input' : declared.Bag} {value first : ℕ} {phase' : Phase}
    → TakenFrom left right values input left' input' value → first ≡ get_or offsets value 0 → phase' ≡ hold_from offsets value first
    → BegunFrom input offsets left right values left' input' phase'
begun_from {offsets} {left} {right} {values} {left'} {input} {input'} {value} taken start held = record {
  taken = subst (TakenFrom left right values input left' input') taken.taken taken;
  held = held ∙ ap (hold_from offsets value) start ∙ ap (hold_first offsets) taken.taken;
}

module _ {offsets targets : List ℕ} (distances parents : List ℕ) (layer : ℕ) (ground : GraphRows offsets targets (length distances)) where
  -- `begin`
  pub begun_moves : {left right values left' : List ℕ} {input input' : declared.Bag} {phase phase' : Phase} (output : Bag)
      → phase ≡ Free → is_empty (held_by left right values input) ≡ false → taken_number (held_by left right values input) < length distances
      → BegunFrom input offsets left right values left' input' phase'
      → Moves offsets targets layer distances parents (held_by left right values input) output phase distances parents
      (held_by left' right values input') output phase'
  unfolding phase_of
  begun_moves {left} {right} {values} {input = input} {phase = phase} {phase' = phase'} output free filled below begun = record {
    made =
        ap (λ (p : Phase). move g layer x held output (phase_of offsets p)) free
        ∙ free_take g layer x held output filled
        ∙ sym (rw (begun.taken.held, begun.held, shown));
    in_rows = rw begun.held (hold_fits ground u (get_or offsets u 0) below (omega arith));
  }
    where
      g : Graph
      g = rows_of offsets targets

      x : Labels
      x = labels_of distances parents

      held : Bag
      held = held_by left right values input

      u : ℕ
      u = taken_number held

      -- at the first edge of its row
      shown : phase_of offsets (hold_first offsets u) ≡ hold_at g u 0
      shown =
          let none : get_or offsets u 0 - get_or offsets u 0 ≡ 0 = omega arith in
          hold_shown ground u (get_or offsets u 0) below (omega arith) ∙ ap (hold_at g u) none

  -- `stow`
  pub stowed_moves : {left right values left' right' values' : List ℕ} {output output' : declared.Bag} {phase phase' : Phase} {u e f t : ℕ} (input : Bag)
      → phase ≡ Named u e f t → InRows offsets (length distances) phase
      → Inserted left right values output t left' right' values' output' → phase' ≡ hold_from offsets u (e + 1)
      → Moves offsets targets layer distances parents input (held_by left right values output) phase distances parents
      input (held_by left' right' values' output') phase'
  unfolding phase_of move
  stowed_moves {left} {right} {values} {output = output} {phase = phase} {u = u} {e = e} {f = f} {t = t} input named fits inserted passed = record {
    made =
        ap (λ (p : Phase). move (rows_of offsets targets) layer (labels_of distances parents) input (held_by left right values output) (phase_of offsets p)) named
        ∙ sym (rw (inserted.held, passed, pass_shown ground edge));
    in_rows = rw passed (pass_fits ground edge);
  }
    where
      edge : EdgeOf offsets (length distances) u e f
      edge = (fits_as offsets (length distances) named fits).0

-- a move without a bag
pub advanced_moves : {offsets targets distances parents distances' parents' : List ℕ} {layer : ℕ} {phase phase' : Phase} (input output : Bag)
    → Advanced phase layer offsets targets distances parents distances' parents' phase'
    → Moves offsets targets layer distances parents input output phase distances' parents' input output phase'
advanced_moves input output advanced = record { made = advanced.made input output; in_rows = advanced.in_rows }

-- Which phases move without a bag.

-- one that is neither free nor named
pub between_others : {offsets targets : List ℕ} {n : ℕ} → GraphRows offsets targets n → (phase : Phase) → InRows offsets n phase → (phase ≡ Free → ⊥)
    → ((u e f t : ℕ) → phase ≡ Named u e f t → ⊥) → Between targets n phase
between_others ground Free fits free named = free refl
between_others ground (Holding u e f) fits free named =
    let small = edge_small ground fits in
    (small.edge_below, small.edge_small, small.target_below)
between_others ground (InHand u e f t) fits free named = fits.1
between_others ground (Marked u e f t) fits free named = fits.1
between_others ground (Named u e f t) fits free named = named u e f t refl

-- a phase that is known to be none of these
pub not_between : {R : Type 0} (targets : List ℕ) (n : ℕ) {phase p : Phase} → phase ≡ p → (Between targets n p → ⊥) → Between targets n phase → R
not_between targets n is never h = absurd (never (subst (Between targets n) is h))

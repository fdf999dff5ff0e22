-- The rows that offsets and targets stand for, the phases at their edges, and the three moves of a worker that need no bag.
use mathlib.Core.Path.{◌≡◌, refl, sym, ap, ◌∙◌, subst}
use mathlib.Core.Bool.{Bool, true, false, cond}
use mathlib.Core.List.{List}
use mathlib.Core.Option.{none, some}
use Prim.Native.Nat.{ℕ, suc, ◌+◌, ◌-◌, ◌≤◌, ◌<◌}
use native.Mathlib.Omega.{arith}
use lib.Dec.{ltb, eqb}
use lib.ListN.{length, get_or, set, length-set}
use borrow.Author.Tests.{ltb-true, ltb-false, lt-ltb, le-ltb, ne_eqb}
use Rattle.numbers.specs.Numbers.{unset}
use Rattle.graph.specs.Graph.{edges, rows_of}
use Rattle.graph.specs.Steps.{GraphRows}
use Rattle.graph.proofs.GraphRowsFacts.{rows_within, row_ends, row_target, target_below}
use Rattle.model.specs.Paths.{edge_target, Labels, is_set}
use Rattle.model.specs.State as model
use Rattle.model.specs.Table.{hold_at, look, move}
use Rattle.workers.specs.declared.Phase.{Phase}
use Rattle.workers.specs.declared.Phase.TheVariants.{Free, Holding, InHand, Marked, Named}
use Rattle.model.specs.Words.{option_of, labels_of}
use Rattle.workers.specs.Shown.{phase_of}
use Rattle.workers.specs.Steps.{EdgeOf, InRows, hold_from, look_at, Advanced}
use Rattle.model.proofs.WordFacts.{label_at, mark_shown, name_shown}

-- what an edge of a vertex needs no test for: each index is in its list and fits 16 bits
pub record EdgeSmall (offsets targets : List ℕ) (n u e : ℕ) : Type 0 where
  pub edge_below : e < length targets
  pub edge_small : e + 1 < 65536
  pub target_below : get_or targets e 0 < n

module _ {offsets targets : List ℕ} {n : ℕ} (ground : GraphRows offsets targets n) where
  -- the engine's phase at edge e of u is the model's
  pub hold_shown : (u e : ℕ) → u < n → get_or offsets u 0 ≤ e
      → phase_of offsets (hold_from offsets u e) ≡ hold_at (rows_of offsets targets) u (e - get_or offsets u 0)
  unfolding phase_of hold_from hold_at
  hold_shown u e h k = go (ltb e (get_or offsets (u + 1) 0)) refl
    where
      start : ℕ
      start = get_or offsets u 0

      size : ℕ
      size = length (edges (rows_of offsets targets) u)

      go : (b : Bool) → ltb e (get_or offsets (u + 1) 0) ≡ b
          → phase_of offsets (cond (ltb e (get_or offsets (u + 1) 0)) (Holding u e (get_or offsets (u + 1) 0)) Free) ≡ cond (ltb (e - start) size) (model.holding u (e - start)) model.free
      go true q = rw (q, lt-ltb (e - start) size (omega (arith, ltb-true e (get_or offsets (u + 1) 0) q, row_ends ground u h)))
      go false q = rw (q, le-ltb (e - start) size (omega (arith, ltb-false e (get_or offsets (u + 1) 0) q, row_ends ground u h)))

  -- and fits
  pub hold_fits : (u e : ℕ) → u < n → get_or offsets u 0 ≤ e → InRows offsets n (hold_from offsets u e)
  unfolding hold_from
  hold_fits u e h k = go (ltb e (get_or offsets (u + 1) 0)) refl
    where
      go : (b : Bool) → ltb e (get_or offsets (u + 1) 0) ≡ b → InRows offsets n (cond b (Holding u e (get_or offsets (u + 1) 0)) Free)
      go true q = record { vertex = h; first = k; last = ltb-true e (get_or offsets (u + 1) 0) q; ends = refl }
      go false q = tt

  -- an edge of a vertex is in the lists
  pub edge_small : {u e f : ℕ} → EdgeOf offsets n u e f → EdgeSmall offsets targets n u e
  edge_small {u} {e} edge =
      let within = rows_within ground u edge.vertex in
      record {
        edge_below = omega (arith, edge.last);
        edge_small = omega (arith, edge.last, ground.few-edges);
        target_below = target_below ground e (omega (arith, edge.last));
      }

-- The phases that the engine makes.

module _ (offsets : List ℕ) (u e : ℕ) (end : ℕ) (at : end ≡ get_or offsets (u + 1) 0) where
  -- before the end of the row it holds
  pub hold_there : e < end → Holding u e end ≡ hold_from offsets u e
  unfolding hold_from
  hold_there h = rw (lt-ltb e (get_or offsets (u + 1) 0) (omega (arith, at))) (ap (λ (f : ℕ). Holding u e f) at)

  -- and there it is free
  pub hold_free : end ≤ e → Free ≡ hold_from offsets u e
  unfolding hold_from
  hold_free h = rw (le-ltb e (get_or offsets (u + 1) 0) (omega (arith, at)))

module _ (offsets targets distances : List ℕ) (u e f t word : ℕ) (target : t ≡ get_or targets e 0) (label : word ≡ get_or distances t 0) where
  -- a target whose distance is unset is in hand
  pub look_unset : f ≡ get_or offsets (u + 1) 0 → word ≡ unset → InHand u e f t ≡ look_at offsets targets distances u e
  unfolding look_at
  look_unset ends q = rw (← target, ← label, q) (ap (λ (k : ℕ). InHand u e k t) ends)

  -- another is passed
  pub look_set : (phase : Phase) → phase ≡ hold_from offsets u (e + 1) → (word ≡ unset → ⊥) → phase ≡ look_at offsets targets distances u e
  unfolding look_at
  look_set phase held apart = rw (← target, ← label, ne_eqb word unset apart) held

-- At an edge of u.

module _ {offsets targets : List ℕ} {n : ℕ} (ground : GraphRows offsets targets n) {u e f : ℕ} (edge : EdgeOf offsets n u e f) where
  -- edge e of all is the model's edge of u
  edge-target : edge_target (rows_of offsets targets) u (e - get_or offsets u 0) ≡ get_or targets e 0
  edge-target =
      let place : get_or offsets u 0 + (e - get_or offsets u 0) ≡ e = omega (arith, edge.first) in
      row_target ground u (e - get_or offsets u 0) edge.vertex (omega (arith, edge.first, edge.last, row_ends ground u edge.vertex))
      ∙ ap (λ (i : ℕ). get_or targets i 0) place

  -- the next edge by both counts
  edge_next : (e + 1) - get_or offsets u 0 ≡ suc (e - get_or offsets u 0)
  edge_next = omega (arith, edge.first)

  -- the phase after edge e is the model's
  pub pass_shown : phase_of offsets (hold_from offsets u (e + 1)) ≡ hold_at (rows_of offsets targets) u (suc (e - get_or offsets u 0))
  pass_shown =
      hold_shown ground u (e + 1) edge.vertex (omega (arith, edge.first))
      ∙ ap (λ (i : ℕ). hold_at (rows_of offsets targets) u i) edge_next

  -- and fits
  pub pass_fits : InRows offsets n (hold_from offsets u (e + 1))
  pass_fits = hold_fits ground u (e + 1) edge.vertex (omega (arith, edge.first))

-- The three moves without a bag.

module _ {offsets targets : List ℕ} (distances : List ℕ) (ground : GraphRows offsets targets (length distances)) {u e f : ℕ}
    (edge : EdgeOf offsets (length distances) u e f) where
  -- the engine looks where the model does
  look_shown : (parents : List ℕ)
      → phase_of offsets (look_at offsets targets distances u e) ≡ look (rows_of offsets targets) (labels_of distances parents) u (e - get_or offsets u 0)
  unfolding phase_of look_at look option_of
  look_shown parents =
      rw (edge-target ground edge, label_at distances parents (get_or targets e 0) (target_below ground e (edge_small ground edge).edge_below))
      (go (eqb (get_or distances (get_or targets e 0) 0) unset))
    where
      i : ℕ
      i = e - get_or offsets u 0

      t : ℕ
      t = get_or targets e 0

      go : (b : Bool) → phase_of offsets (cond b (InHand u e (get_or offsets (u + 1) 0) t) (hold_from offsets u (e + 1)))
          ≡ cond (is_set (cond b none (some (get_or distances t 0)))) (hold_at (rows_of offsets targets) u (suc i)) (model.in_hand u i t)
      go true = refl
      go false = pass_shown ground edge

  -- what it finds fits
  look_fits : InRows offsets (length distances) (look_at offsets targets distances u e)
  unfolding look_at
  look_fits = go (eqb (get_or distances (get_or targets e 0) 0) unset)
    where
      go : (b : Bool) → InRows offsets (length distances) (cond b (InHand u e (get_or offsets (u + 1) 0) (get_or targets e 0)) (hold_from offsets u (e + 1)))
      go true = (
        record { vertex = edge.vertex; first = edge.first; last = edge.last; ends = refl },
        (edge_small ground edge).target_below,
      )
      go false = pass_fits ground edge

  -- look
  pub advance_look : (layer : ℕ) (parents : List ℕ)
      → Advanced (Holding u e f) layer offsets targets distances parents distances parents (look_at offsets targets distances u e)
  unfolding move phase_of
  advance_look layer parents = record {
    made = λ input output. ap (λ (phase : model.Phase). some (model.worker_with input output phase, labels_of distances parents)) (sym (look_shown parents));
    in_rows = look_fits;
    distances_length = refl;
    parents_length = refl;
  }

  -- mark
  pub advance_mark : (layer t : ℕ) (parents : List ℕ) → t < length distances → layer < length distances
      → Advanced (InHand u e f t) layer offsets targets distances parents (set distances t (layer + 1)) parents (Marked u e f t)
  unfolding move phase_of
  advance_mark layer t parents h k = record {
    made = λ input output.
        ap (λ (x : Labels). some (model.worker_with input output (model.marked u (e - get_or offsets u 0) t), x))
        (sym (mark_shown distances parents t layer (omega (arith, ground.few-vertices))));
    in_rows = (edge, h);
    distances_length = length-set distances t (layer + 1);
    parents_length = refl;
  }

  -- name
  pub advance_name : (layer t : ℕ) (parents : List ℕ) → t < length distances
      → Advanced (Marked u e f t) layer offsets targets distances parents distances (set parents t u) (Named u e f t)
  unfolding move phase_of
  advance_name layer t parents h = record {
    made = λ input output.
        ap (λ (x : Labels). some (model.worker_with input output (model.named u (e - get_or offsets u 0) t), x))
        (sym (name_shown distances parents t u (omega (arith, ground.few-vertices, edge.vertex))));
    in_rows = (edge, h);
    distances_length = refl;
    parents_length = length-set parents t u;
  }

-- The same of a phase that is known to be one of the three.

-- a phase that fits, by what it is known to be
pub fits_as : (offsets : List ℕ) (n : ℕ) {phase p : Phase} → phase ≡ p → InRows offsets n phase → InRows offsets n p
fits_as offsets n is fits = subst (InRows offsets n) is fits

module _ {offsets targets : List ℕ} (distances : List ℕ) (ground : GraphRows offsets targets (length distances)) (phase : Phase)
    (fits : InRows offsets (length distances) phase) (layer : ℕ) (parents : List ℕ) where
  -- look
  pub advanced_look : (u e f : ℕ) (phase' : Phase) → phase ≡ Holding u e f → phase' ≡ look_at offsets targets distances u e
      → Advanced phase layer offsets targets distances parents distances parents phase'
  advanced_look u e f phase' is found = rw (is, found) (advance_look distances ground (fits_as offsets (length distances) is fits) layer parents)

  -- mark
  pub advanced_mark : (u e f t : ℕ) (distances' : List ℕ) → layer < length distances → phase ≡ InHand u e f t → distances' ≡ set distances t (layer + 1)
      → Advanced phase layer offsets targets distances parents distances' parents (Marked u e f t)
  advanced_mark u e f t distances' low is put =
      let both = fits_as offsets (length distances) is fits in
      rw (is, put) (advance_mark distances ground both.0 layer t parents both.1 low)

  -- name
  pub advanced_name : (u e f t : ℕ) (parents' : List ℕ) → phase ≡ Marked u e f t → parents' ≡ set parents t u
      → Advanced phase layer offsets targets distances parents distances parents' (Named u e f t)
  advanced_name u e f t parents' is put =
      let both = fits_as offsets (length distances) is fits in
      rw (is, put) (advance_name distances ground both.0 layer t parents both.1)

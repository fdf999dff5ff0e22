-- The counts beside the distances: a move without a bag keeps them a recount of the labels, and they have room for its mark.
use mathlib.Core.Path.{◌≡◌, refl, sym, ap, ◌∙◌}
use mathlib.Core.Bool.{Bool, true, false, cond}
use mathlib.Core.List.{List, [], map}
use mathlib.Core.Option.{Option, none, some}
use Prim.Native.Nat.{ℕ, ◌+◌, ◌≤◌, ◌<◌}
use native.Mathlib.Numerals.{add-one}
use native.Mathlib.Omega.{arith}
use lib.Dec.{eqb}
use lib.ListN.{length, get_or, set, length-map}
use borrow.Author.Tests.{ne_eqb}
use Rattle.numbers.specs.Numbers.{max_vertices, unset}
use Rattle.lists.proofs.Replaced.{map_at}
use Rattle.pennant.specs.Bag.{empty_bag}
use Rattle.graph.specs.Graph.{rows_of}
use Rattle.model.specs.Paths.{Labels}
use Rattle.model.specs.State as model
use Rattle.model.specs.Table.{mark, name, move}
use Rattle.model.specs.Words.{option_of, labels_of}
use Rattle.model.specs.Histogram.{recount}
use Rattle.model.proofs.HistogramFacts.{recount_long, recount_few, recount_set, recount_again}
use Rattle.workers.specs.declared.Phase.{Phase}
use Rattle.workers.specs.declared.Phase.TheVariants.{Free, Holding, InHand, Marked, Named}
use Rattle.workers.specs.Shown.{phase_of}
use Rattle.workers.specs.Steps.{Between, Countable, count_marked, counts_after, Advanced}

-- a phase whose mark keeps a recount: d + 1 is below n, and a target that has a distance has this one
abbrev pub Markable : ℕ → ℕ → List ℕ → Phase → Type 0
Markable layer n distances Free = Unit {0}
Markable layer n distances (Holding u e f) = Unit {0}
Markable layer n distances (InHand u e f t) = (layer + 1 < n) × ((k : ℕ) → get_or (map option_of distances) t none ≡ some k → k ≡ layer + 1)
Markable layer n distances (Marked u e f t) = Unit {0}
Markable layer n distances (Named u e f t) = Unit {0}

-- there is room for one more: no count is more than n
pub countable_now : (layer : ℕ) (distances : List ℕ) (phase : Phase) {histogram : List ℕ} → length distances ≤ max_vertices
    → Markable layer (length distances) distances phase → histogram ≡ recount (map option_of distances) → Countable layer histogram phase
countable_now layer distances Free few can is = tt
countable_now layer distances (Holding u e f) few can is = tt
countable_now layer distances (InHand u e f t) few can is =
    let labels = map option_of distances in
    let long : length labels ≡ length distances = length-map distances option_of in
    rw is (omega (arith, can.0, recount_long labels), omega (arith, recount_few labels (layer + 1)))
countable_now layer distances (Marked u e f t) few can is = tt
countable_now layer distances (Named u e f t) few can is = tt

-- What `mark` and `advance` do to the counts.

module _ (distances histogram : List ℕ) (t place word : ℕ) (label : word ≡ get_or distances t 0) where
  -- a target that is unset is counted
  pub count_unset : {count : ℕ} {histogram' : List ℕ} → word ≡ unset → count ≡ get_or histogram place 0 → histogram' ≡ set histogram place (count + 1)
      → histogram' ≡ count_marked t place distances histogram
  unfolding count_marked
  count_unset q was put = rw (← label, q) (put ∙ ap (λ (k : ℕ). set histogram place (k + 1)) was)

  -- another is not
  pub count_set : (word ≡ unset → ⊥) → histogram ≡ count_marked t place distances histogram
  unfolding count_marked
  count_set apart = rw (← label, ne_eqb word unset apart)

-- the counts after a phase that is known
pub counts_as : (layer : ℕ) (distances histogram : List ℕ) {histogram' : List ℕ} {phase p : Phase} → phase ≡ p
    → histogram' ≡ counts_after p layer distances histogram → histogram' ≡ counts_after phase layer distances histogram
counts_as layer distances histogram is after = rw is after

-- One more at d + 1.

module _ (distances : List ℕ) {histogram : List ℕ} (layer t : ℕ) (below : t < length distances) (low : layer + 1 < length distances)
    (same : (k : ℕ) → get_or (map option_of distances) t none ≡ some k → k ≡ layer + 1) (is : histogram ≡ recount (map option_of distances)) where
  -- the labels that the distances stand for
  abbrev labels : List (Option ℕ)
  labels = map option_of distances

  -- a mark counts what it makes of the labels
  count-marked : count_marked t (layer + 1) distances histogram ≡ recount (set labels t (some (layer + 1)))
  unfolding count_marked option_of
  count-marked = rw is (go (eqb (get_or distances t 0) unset) refl)
    where
      -- the label by its word
      label : {b : Bool} → eqb (get_or distances t 0) unset ≡ b → get_or labels t none ≡ cond b none (some (get_or distances t 0))
      label word = map_at option_of distances t 0 none below ∙ ap (λ (b : Bool). cond b none (some (get_or distances t 0))) word

      go : (b : Bool) → eqb (get_or distances t 0) unset ≡ b
          → cond b (set (recount labels) (layer + 1) (get_or (recount labels) (layer + 1) 0 + 1)) (recount labels)
          ≡ recount (set labels t (some (layer + 1)))
      go true word =
          sym (recount_set labels t (layer + 1) (omega (arith, length-map distances option_of)) (omega (arith, length-map distances option_of)) (label word))
      go false word =
          let old = label word in
          sym (recount_again labels t (layer + 1) (old ∙ ap (λ (k : ℕ). some k) (same (get_or distances t 0) old)))

-- The distances that a move leaves.

-- the distances' labels of what a move gives
abbrev distances_in : Option (model.Worker × Labels) → List (Option ℕ)
distances_in none = []
distances_in (some m) = m.1.distances

-- they are those that stand for the distances after it
after_labels : {offsets targets distances parents distances' parents' : List ℕ} {layer : ℕ} {phase phase' : Phase}
    → Advanced phase layer offsets targets distances parents distances' parents' phase'
    → distances_in (move (rows_of offsets targets) layer (labels_of distances parents) empty_bag empty_bag (phase_of offsets phase)) ≡ map option_of distances'
unfolding labels_of
after_labels advanced = ap distances_in (advanced.made empty_bag empty_bag)

-- a move without a bag keeps the counts a recount
pub counts_recount : {offsets targets distances parents distances' parents' : List ℕ} {layer : ℕ} (phase : Phase) {phase' : Phase}
    {histogram histogram' : List ℕ}
    → Advanced phase layer offsets targets distances parents distances' parents' phase'
    → Between targets (length distances) phase → Markable layer (length distances) distances phase
    → histogram ≡ recount (map option_of distances) → histogram' ≡ counts_after phase layer distances histogram
    → histogram' ≡ recount (map option_of distances')
unfolding move mark name phase_of labels_of
counts_recount Free advanced between can is after = absurd between
counts_recount (Holding u e f) advanced between can is after = after ∙ is ∙ ap recount (after_labels advanced)
counts_recount {distances = distances} {layer = layer} (InHand u e f t) advanced between can is after =
    after
    ∙ count-marked distances layer t between can.0 can.1 is
    ∙ ap (λ (k : ℕ). recount (set (map option_of distances) t (some k))) (add-one layer)
    ∙ ap recount (after_labels advanced)
counts_recount (Marked u e f t) advanced between can is after = after ∙ is ∙ ap recount (after_labels advanced)
counts_recount (Named u e f t) advanced between can is after = absurd between

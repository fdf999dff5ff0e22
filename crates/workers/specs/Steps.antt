-- What the steps of the search take for granted and what they promise: one worker's move, the close. A prime
-- marks what stands there afterwards. Only the contracts of inner steps cite these.
use Rattle.std.specs.Prelude.{◌≡◌, cond, ℕ, ◌+◌, ◌≤◌, ◌<◌, eqb, ltb, length, get_or, replicate, set}
use mathlib.Core.List.{List, [], ◌∷◌, map, foldl}
use Rattle.std.proofs.Math.Option.{some}
use Rattle.numbers.specs.Numbers.{max_workers, unset}
use Rattle.graph.specs.Graph.{rows_of}
use Rattle.pennant.specs.Bag.{Bag, bag_union, taken_number}
use Rattle.bag.specs.declared.Bag as declared
use Rattle.bag.specs.Nodes.{held_by, new_bag}
use Rattle.bag.specs.Promises.{Moved, TakenFrom}
use Rattle.model.specs.State as model
use Rattle.model.specs.Table.{move}
use Rattle.model.specs.Words.{labels_of}
use Rattle.workers.specs.declared.Phase.{Phase}
use Rattle.workers.specs.declared.Phase.TheVariants.{Free, Holding, InHand, Marked, Named}
use Rattle.workers.specs.Shown.{phase_of}

-- Rows.

-- edge e, counted through all rows, is one of vertex u, whose edges end at f
pub record EdgeOf (offsets : List ℕ) (n u e f : ℕ) : Type 0 where
  pub vertex : u < n
  pub first : get_or offsets u 0 ≤ e
  pub last : e < get_or offsets (u + 1) 0
  pub ends : f ≡ get_or offsets (u + 1) 0

-- a phase whose edge is one of its vertex, and whose target is a vertex
abbrev pub InRows : List ℕ → ℕ → Phase → Type 0
InRows offsets n Free = Unit {0}
InRows offsets n (Holding u e f) = EdgeOf offsets n u e f
InRows offsets n (InHand u e f t) = EdgeOf offsets n u e f × (t < n)
InRows offsets n (Marked u e f t) = EdgeOf offsets n u e f × (t < n)
InRows offsets n (Named u e f t) = EdgeOf offsets n u e f × (t < n)

-- One worker's move.

-- `hold`: at edge e of u; "A device whose links are used up frees its worker."
unfoldable pub hold_from : List ℕ → ℕ → ℕ → Phase
hold_from offsets u e = cond (ltb e (get_or offsets (u + 1) 0)) (Holding u e (get_or offsets (u + 1) 0)) Free

-- `look` at edge e of u: "if t's distance is unset it has t in hand, else it passes on"
unfoldable pub look_at : List ℕ → List ℕ → List ℕ → ℕ → ℕ → Phase
look_at offsets targets distances u e =
    cond (eqb (get_or distances (get_or targets e 0) 0) unset)
    (InHand u e (get_or offsets (u + 1) 0) (get_or targets e 0))
    (hold_from offsets u (e + 1))

-- a phase that moves without a bag, with an edge that is in the targets, to a vertex
abbrev pub Between : List ℕ → ℕ → Phase → Type 0
Between targets n Free = ⊥
Between targets n (Holding u e f) = (e < length targets) × (e + 1 < 65536) × (get_or targets e 0 < n)
Between targets n (InHand u e f t) = t < n
Between targets n (Marked u e f t) = t < n
Between targets n (Named u e f t) = ⊥

-- a phase whose mark can be counted: d + 1 has its place, and room for one more
abbrev pub Countable : ℕ → List ℕ → Phase → Type 0
Countable layer histogram Free = Unit {0}
Countable layer histogram (Holding u e f) = Unit {0}
Countable layer histogram (InHand u e f t) =
    (layer + 1 < length histogram) × (get_or histogram (layer + 1) 0 + 1 < 65536)
Countable layer histogram (Marked u e f t) = Unit {0}
Countable layer histogram (Named u e f t) = Unit {0}

-- `mark` of t: one more at this distance, where t is unset
unfoldable pub count_marked : ℕ → ℕ → List ℕ → List ℕ → List ℕ
count_marked t distance distances histogram =
    cond (eqb (get_or distances t 0) unset) (set histogram distance (get_or histogram distance 0 + 1)) histogram

-- the counts after `advance`: a mark counts, nothing else does
abbrev pub counts_after : Phase → ℕ → List ℕ → List ℕ → List ℕ
counts_after Free layer distances histogram = histogram
counts_after (Holding u e f) layer distances histogram = histogram
counts_after (InHand u e f t) layer distances histogram = count_marked t (layer + 1) distances histogram
counts_after (Marked u e f t) layer distances histogram = histogram
counts_after (Named u e f t) layer distances histogram = histogram

-- what `advance` promises: the model's move, and a phase that is in the rows
pub record Advanced (phase : Phase) (layer : ℕ)
    (offsets targets distances parents distances' parents' : List ℕ) (phase' : Phase) : Type 0 where
  pub made : (input output : Bag)
      → move (rows_of offsets targets) layer (labels_of distances parents) input output (phase_of offsets phase)
      ≡ some (model.worker_with input output (phase_of offsets phase'), labels_of distances' parents')
  pub in_rows : InRows offsets (length distances) phase'
  pub distances_length : length distances' ≡ length distances
  pub parents_length : length parents' ≡ length parents

-- at the first edge of u
abbrev pub hold_first : List ℕ → ℕ → Phase
hold_first offsets u = hold_from offsets u (get_or offsets u 0)

-- what `begin` promises: "it takes from its input bag", and holds the vertex at its first edge
pub record BegunFrom (input : declared.Bag) (offsets left right values left' : List ℕ)
    (input' : declared.Bag) (phase' : Phase) : Type 0 where
  pub taken : TakenFrom left right values input left' input' (taken_number (held_by left right values input))
  pub held : phase' ≡ hold_first offsets (taken_number (held_by left right values input))

-- All workers.

-- 1 for a phase that holds a vertex
unfoldable pub held_of : Phase → ℕ
held_of Free = 0
held_of (Holding u e f) = 1
held_of (InHand u e f t) = 1
held_of (Marked u e f t) = 1
held_of (Named u e f t) = 1

-- what `gather` promises: "output bags 0 to P - 1 are united in that order into worker 0's input bag"
pub record Gathered (first : declared.Bag) (bags : List declared.Bag)
    (left right left' right' : List ℕ) (bag : declared.Bag) : Type 0 where
  pub united : (values : List ℕ) → held_by left' right' values bag
      ≡ foldl bag_union (held_by left right values first) (map (held_by left right values) bags)
  pub moved : Moved left right (first ∷ bags) left' right' (bag ∷ [])

-- eight bags: this one first, the others empty
abbrev pub first_of_eight : declared.Bag → List declared.Bag
first_of_eight bag = set (replicate max_workers new_bag) 0 bag

-- eight phases, all of them free
abbrev pub all_free : List Phase
all_free = replicate max_workers Free

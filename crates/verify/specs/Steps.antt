-- What the steps of the checker take for granted, and what the first of them answers.
-- Only the contracts of inner steps cite these.
use Rattle.std.specs.Prelude.{◌≡◌, List, ℕ, ◌+◌, ◌≤◌, ◌<◌, length, take, Some, None}
use Rattle.std.specs.Prelude as code
use Rattle.std.proofs.Math.Option.{Option, none, some}
use Rattle.numbers.specs.Refusals.{first}
use Rattle.graph.specs.File.{vertex_count, edge_count}
use Rattle.graph.specs.Read.{ReadAnswer, answer_with}
use Rattle.graph.specs.Steps.{GraphRows}
use Rattle.verify.specs.declared.Lengths.{Lengths}
use Rattle.verify.specs.Check as check

-- the code's lengths as the definitions'
abbrev pub lengths_in : Lengths → check.CheckLengths
lengths_in x = record {
  distances = x.distances;
  parents = x.parents;
  offsets = x.offsets;
  targets = x.targets;
  marks = x.marks;
}

-- the code's label as the definitions'
abbrev pub label_in : code.Option ℕ → Option ℕ
label_in None = none
label_in (Some x) = some x

-- the number of the tests before the chains, with n and m beside 0
unfoldable pub early_answer : List ℕ → ℕ → check.CheckLengths → ReadAnswer
early_answer file source lengths =
    answer_with (first (check.check_early file source lengths)) (vertex_count file) (edge_count file)

-- rows of a graph of n vertices, and a distance and a parent for each
pub record Checkable (source : ℕ) (offsets targets distances parents : List ℕ) : Type 0 where
  pub rows : GraphRows offsets targets (length distances)
  pub source_below : source < length distances
  pub parents_all : length parents ≡ length distances

-- the same of the first places of longer lists
pub record CheckableIn (n m source : ℕ) (offsets targets distances parents : List ℕ) : Type 0 where
  pub first_places : Checkable source (take (n + 1) offsets) (take m targets) (take n distances) (take n parents)
  pub offsets_there : n + 1 ≤ length offsets
  pub targets_there : m ≤ length targets
  pub distances_there : n ≤ length distances
  pub parents_there : n ≤ length parents

-- What the first step of a search answers: the number of the tests up to 20, by the lengths of the lent lists.
use Rattle.std.specs.Prelude.{ℕ, List}
use Rattle.numbers.specs.Refusals.{first}
use Rattle.graph.specs.File.{vertex_count, edge_count}
use Rattle.graph.specs.Read.{ReadAnswer, answer_with}
use Rattle.model.specs.Call as call
use Rattle.search.specs.declared.Lengths.{Lengths}

-- the code's lengths as the model's
abbrev pub lengths_in : Lengths → call.Lengths
lengths_in x = record {
  offsets = x.offsets;
  targets = x.targets;
  marks = x.marks;
  distances = x.distances;
  parents = x.parents;
  histogram = x.histogram;
  left = x.left;
  right = x.right;
  values = x.values;
}

-- the number of the tests before the chains, with n and m beside 0
unfoldable pub early_answer : List ℕ → ℕ → ℕ → List ℕ → call.Lengths → ReadAnswer
early_answer file source P schedule lengths =
    answer_with (first (call.early_refusals file source P schedule lengths)) (vertex_count file) (edge_count file)

-- Document 01's case A as the page program meets it: its file with the distances and parents of its result; and
-- the same with one parent wrong.
use Rattle.std.specs.Prelude.{List, [], ◌∷◌, ◌++◌, ℕ, length}
use Rattle.graph.specs.BenchFiles.{words_a}
use Rattle.graph.specs.Encode.{bytes_of}
use Rattle.page.specs.Cases.{distances_a, parents_a}

-- an input by its parts
unfoldable pub input_of : ℕ → List ℕ → List ℕ → List ℕ → List ℕ
input_of source distances parents words = bytes_of (source ∷ length distances ∷ distances ++ parents ++ words)

-- A's file, source and result
abbrev pub input_a : List ℕ
input_a = input_of 0 distances_a parents_a words_a

-- the same with one parent wrong
abbrev pub input_wrong : List ℕ
input_wrong = input_of 0 distances_a (0 ∷ 0 ∷ 0 ∷ 0 ∷ []) words_a

-- Document 01's cases A and B as the program meets them: input bytes and output bytes.
use Rattle.std.specs.Prelude.{List, [], ◌∷◌, ◌++◌, ℕ, length}
use Rattle.graph.specs.BenchFiles.{words_a}
use Rattle.graph.specs.Encode.{bytes_of}
use Rattle.model.specs.Bench.{schedule_a}

-- "Standard input: words source, P, sheet length, then sheet, then file to the end."
unfoldable pub input_of : ℕ → ℕ → List ℕ → List ℕ → List ℕ
input_of source P schedule words = bytes_of (source ∷ P ∷ length schedule ∷ []) ++ schedule ++ bytes_of words

-- A: "Source 0, P 2."
abbrev pub input_a : List ℕ
input_a = input_of 0 2 (schedule_a 8 0) words_a

-- "B, A with events 18 and 19 swapped"
abbrev pub input_b : List ℕ
input_b = input_of 0 2 (schedule_a 0 8) words_a

-- all lines but the last: `0 25 25 2`, `0 0 0`, `1 1 0`, `2 1 0`
abbrev pub first_lines : List ℕ
first_lines =
    48 ∷ 32 ∷ 50 ∷ 53 ∷ 32 ∷ 50 ∷ 53 ∷ 32 ∷ 50 ∷ 10 ∷
    48 ∷ 32 ∷ 48 ∷ 32 ∷ 48 ∷ 10 ∷
    49 ∷ 32 ∷ 49 ∷ 32 ∷ 48 ∷ 10 ∷
    50 ∷ 32 ∷ 49 ∷ 32 ∷ 48 ∷ 10 ∷ []

-- "Output, whole": the last line is `3 2 1`
abbrev pub output_a : List ℕ
output_a = first_lines ++ 51 ∷ 32 ∷ 50 ∷ 32 ∷ 49 ∷ 10 ∷ []

-- "as A, but the last line is `3 2 2`"
abbrev pub output_b : List ℕ
output_b = first_lines ++ 51 ∷ 32 ∷ 50 ∷ 32 ∷ 50 ∷ 10 ∷ []

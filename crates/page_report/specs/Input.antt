-- The page program's input split into its parts, and the numbers that it gives before it calls for the pages.
-- The layout (§12.1): words source, count, then that many distances and that many parents,
-- then the file to the end.
use Rattle.std.specs.Prelude.{List, [], ◌∷◌, ℕ, ◌+◌, ◌*◌, ltb, length, drop, replicate}
use Rattle.numbers.specs.Numbers.{max_vertices, max_edges, bad_length, short_list}
use Rattle.numbers.specs.Refusals.{Refusal, ◌gives◌}
use Rattle.graph.specs.File.{word, words_at, file_length}
use Rattle.verify.specs.Check.{CheckLent}
use Rattle.verify.specs.Promise.{lent_lists}

-- the source (§12.1)
unfoldable pub source_in : List ℕ → ℕ
source_in input = word input 0

-- how many distances there are, and how many parents (§12.1)
unfoldable pub count_in : List ℕ → ℕ
count_in input = word input 1

-- the distances (§12.1)
unfoldable pub distances_in : List ℕ → List ℕ
distances_in input = words_at input 2 1 (count_in input)

-- the parents (§12.1)
unfoldable pub parents_in : List ℕ → List ℕ
parents_in input = words_at input (2 + count_in input) 1 (count_in input)

-- the file (§12.1)
unfoldable pub file_in : List ℕ → List ℕ
file_in input = drop (4 + 4 * count_in input) input

-- fewer than two words 1; more distances than the program's lists have places 20; input ending before 4 bytes of
-- file 1. Then the page's own order (§12.3)
unfoldable pub own_refusals : List ℕ → List Refusal
own_refusals input =
    ltb (length input) 4 gives bad_length
    ∷ ltb max_vertices (count_in input) gives short_list
    ∷ ltb (length (file_in input)) 4 gives bad_length
    ∷ []

-- the lists that the program lends, as long as document 01's sizes need (§12.2)
unfoldable pub program_lists : CheckLent
program_lists = lent_lists (replicate (max_vertices + 1) 0) (replicate max_edges 0) (replicate max_edges 0)

-- the longest input that can be accepted: two words, all distances and parents, the largest file (§12.5)
abbrev pub longest_input : ℕ
longest_input = 4 + 4 * max_vertices + file_length max_vertices max_edges

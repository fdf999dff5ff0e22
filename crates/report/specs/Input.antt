-- The program's input split into its parts, its own sizes, and the numbers that it gives before it searches.
use Rattle.std.specs.Prelude.{◌||◌, List, [], ◌∷◌, ℕ, ◌+◌, ltb, length, take, drop, replicate}
use Rattle.numbers.specs.Numbers.{bad_length, bad_size, short_list}
use Rattle.numbers.specs.Refusals.{Refusal, ◌gives◌}
use Rattle.graph.specs.File.{word, vertex_count, edge_count, file_length}
use Rattle.graph.specs.Read.{outside_sizes}
use Rattle.model.specs.Call.{Lent}

-- "Its own sizes: n 512 .." (§11.2)
abbrev pub program_vertices : ℕ
program_vertices = 512

-- ".. m 2,048 .." (§11.2)
abbrev pub program_edges : ℕ
program_edges = 2048

-- ".. sheet 8,192." (§11.2)
abbrev pub program_events : ℕ
program_events = 8192

-- "Its node lists have 4,097 places each." (§11.3)
abbrev pub program_nodes : ℕ
program_nodes = 4097

-- "Standard input: words source, P, sheet length, then sheet, then file to the end.": the source (§11.1)
unfoldable pub source_in : List ℕ → ℕ
source_in input = word input 0

-- P (§11.1)
unfoldable pub workers_in : List ℕ → ℕ
workers_in input = word input 1

-- the sheet length (§11.1)
unfoldable pub events_in : List ℕ → ℕ
events_in input = word input 2

-- the sheet (§11.1)
unfoldable pub schedule_in : List ℕ → List ℕ
schedule_in input = take (events_in input) (drop 6 input)

-- the file (§11.1)
unfoldable pub file_in : List ℕ → List ℕ
file_in input = drop (6 + events_in input) input

-- "n or m outside 01's sizes 2, above its own 20" (§11.3)
unfoldable pub sizes_refusals : ℕ → ℕ → List Refusal
sizes_refusals n m =
    outside_sizes n m gives bad_size
    ∷ (ltb program_vertices n || ltb program_edges m) gives short_list
    ∷ []

-- "Its order: fewer than three words 1; sheet length too large 20; input ending before 4 bytes of file 1; n or m
-- outside 01's sizes 2, above its own 20". The rest of it, "file length 1; then as above", is the search's own
-- order, of which 1 (under 4) and 2 are passed then (§11.3)
unfoldable pub own_refusals : List ℕ → List Refusal
own_refusals input =
    ltb (length input) 6 gives bad_length
    ∷ ltb program_events (events_in input) gives short_list
    ∷ ltb (length (file_in input)) 4 gives bad_length
    ∷ sizes_refusals (vertex_count (file_in input)) (edge_count (file_in input))

-- the lists that the program lends to the search, as long as its own sizes need (§11.3)
unfoldable pub program_lists : Lent
program_lists = record {
  offsets = replicate (program_vertices + 1) 0;
  targets = replicate program_edges 0;
  marks = replicate program_edges 0;
  distances = replicate program_vertices 0;
  parents = replicate program_vertices 0;
  histogram = replicate program_vertices 0;
  left = replicate program_nodes 0;
  right = replicate program_nodes 0;
  values = replicate program_nodes 0;
}

-- the longest input that can be accepted: three words, the largest sheet, the largest file (§11.5)
abbrev pub longest_input : ℕ
longest_input = 6 + program_events + file_length program_vertices program_edges

-- The definitions computed: the files of document 01's cases A, C and E to G, what the reader's refusals give for each, the rows of case A,
-- and case A's file as the writer's encoding of its rows.
use mathlib.Core.Path.{◌≡◌, refl}
use mathlib.Core.List.{List, [], ◌∷◌, map, flatten}
use Prim.Native.Nat.{ℕ}
use lib.ListN.{replicate}
use Rattle.numbers.specs.Refusals.{first}
use Rattle.lists.specs.Lists.{chain_from, numbers_from, sums_from, elem, repeats, lacks, reaches}
use Rattle.graph.specs.BenchFiles.{words_a, words_c, words_e, words_f, words_g}
use Rattle.graph.specs.Graph.{Graph, offsets_of, targets_of}
use Rattle.graph.specs.File.{word, words_at, vertex_count, edge_count, head_index, target, next, heads, record_targets, record_nexts, chain, chains, reached, graph_of}
use Rattle.graph.specs.Read.{outside_sizes, header_refusals, scan_refusals, chain_refusals, rows_short, read_refusals, read_number}
use Rattle.graph.specs.Encode.{head_of, heads_from, row_records, records_from, file_words, bytes_of, encode}

-- the words of the files of A, C, E, F and G
abbrev pub files : List (List ℕ)
files = words_a ∷ words_c ∷ words_e ∷ words_f ∷ words_g ∷ []

-- the reader's number where every list has eight places
unfoldable pub number_of : List ℕ → ℕ
number_of words = read_number (bytes_of words) (replicate 8 0) (replicate 8 0) (replicate 8 0)

-- 0 for A and C, 6 for E, 5 for F, 2 for G
pub case_numbers : map number_of files ≡ 0 ∷ 0 ∷ 6 ∷ 5 ∷ 2 ∷ []
unfolding number_of bytes_of read_number read_refusals header_refusals scan_refusals chain_refusals rows_short outside_sizes first vertex_count edge_count word words_at heads record_targets record_nexts reached chains chain head_index next flatten numbers_from repeats lacks elem reaches chain_from
case_numbers = refl

-- the rows of case A
abbrev pub rows_a : Graph
rows_a = (1 ∷ 2 ∷ []) ∷ (3 ∷ []) ∷ (3 ∷ []) ∷ [] ∷ []

pub case_rows : graph_of (bytes_of words_a) ≡ rows_a
unfolding bytes_of graph_of vertex_count edge_count word chains chain head_index next target numbers_from chain_from
case_rows = refl

pub case_starts : offsets_of rows_a ≡ 0 ∷ 2 ∷ 3 ∷ 4 ∷ 4 ∷ []
unfolding offsets_of sums_from
case_starts = refl

-- and its file
pub case_written : encode rows_a ≡ bytes_of words_a
unfolding encode file_words heads_from head_of records_from row_records bytes_of targets_of flatten
case_written = refl

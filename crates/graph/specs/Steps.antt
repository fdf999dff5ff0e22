-- What the inner steps of reading take for granted of each other: a header that passed, then a scan that
-- passed, then chains whose records are ranked; and what they leave to the steps after them: the rows of a graph.
use Rattle.std.specs.Prelude.{ℕ, ◌+◌, ◌-◌, ◌≤◌, ◌<◌, ◌≡◌, false, cond, List, ◌++◌, length, get_or, replicate}
use Rattle.numbers.specs.Numbers.{max_vertices, max_edges, success}
use Rattle.numbers.specs.Refusals.{Refusal, first}
use Rattle.lists.specs.Lists.{overlay, reaches}
use Rattle.graph.specs.Graph.{offsets_of, targets_of, rows_of}
use Rattle.graph.specs.File.{vertex_count, edge_count, file_length, reached, graph_of}
use Rattle.graph.specs.Read.{header_refusals, scan_refusals, chain_refusals, answer_with, writes_rows}
use Rattle.graph.specs.Read.{ReadAnswer}

-- the tests that reader, search and checker begin with: 1 (under 4), 2, 1 (length), 4, 3
unfoldable pub file_refusals : List ℕ → List Refusal
file_refusals file = header_refusals file ++ scan_refusals file

-- what `examine` answers: the number of these, with n and m beside 0
unfoldable pub file_answer : List ℕ → ReadAnswer
file_answer file = answer_with (first (file_refusals file)) (vertex_count file) (edge_count file)

-- n and m are the file's, within their sizes, and the length is theirs
pub record Sized (file : List ℕ) (n m : ℕ) : Type 0 where
  pub vertices : n ≡ vertex_count file
  pub edges : m ≡ edge_count file
  pub some : 1 ≤ n
  pub few_vertices : n ≤ max_vertices
  pub few_edges : m ≤ max_edges
  pub bytes : length file ≡ file_length n m

-- besides, every head, next and target is in range
pub record Scanned (file : List ℕ) (n m : ℕ) : Type 0 where
  pub sized : Sized file n m
  pub clean : first (scan_refusals file) ≡ success

-- besides, "Each record lies on exactly one chain, once."
pub record Chained (file : List ℕ) (n m : ℕ) : Type 0 where
  pub scanned : Scanned file n m
  pub whole : first (chain_refusals file) ≡ success

-- the marks hold each record's rank: 1 at the first that is reached, 2 at the next, and so on
pub record Ranked (file marks : List ℕ) : Type 0 where
  pub ranks : (j : ℕ) → j < length (reached file) → get_or marks (get_or (reached file) j 0 - 1) 0 ≡ j + 1

-- what `unchain` answers and leaves: 5, 6 or 0; rows are written with 0 alone, and the first m marks are 0
-- in any case
pub record Unchained (file : List ℕ) (m number : ℕ)
    (offsets₀ targets₀ marks₀ offsets targets marks : List ℕ) : Type 0 where
  pub judged : number ≡ first (chain_refusals file)
  pub starts : offsets ≡ cond (writes_rows number) (overlay (offsets_of (graph_of file)) offsets₀) offsets₀
  pub ends : targets ≡ cond (writes_rows number) (overlay (targets_of (graph_of file)) targets₀) targets₀
  pub cleared : marks ≡ overlay (replicate m 0) marks₀

-- offsets and targets of a graph of n vertices, `rows_of offsets targets`, within the sizes: "offsets (n + 1
-- places, first 0, last m) and targets (m places)"
pub record GraphRows (offsets targets : List ℕ) (n : ℕ) : Type 0 where
  pub starts : offsets ≡ offsets_of (rows_of offsets targets)
  pub ends : targets ≡ targets_of (rows_of offsets targets)
  pub count : length (rows_of offsets targets) ≡ n
  pub below : reaches n targets ≡ false
  pub few-vertices : n ≤ max_vertices
  pub few-edges : length targets ≤ max_edges

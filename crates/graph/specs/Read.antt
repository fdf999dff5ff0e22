-- What `read` answers and leaves, for every file and every lent list. The order of refusals is `read_refusals`.
use Rattle.std.specs.Prelude.{ℕ, suc, ◌+◌, Bool, cond, not, ◌||◌, List, [], ◌∷◌, ◌++◌, ltb, eqb, length, replicate}
use Rattle.numbers.specs.Numbers.{max_vertices, max_edges}
use Rattle.numbers.specs.Numbers.{success, bad_length, bad_size, bad_target, bad_index, repeated, unreached, short_list}
use Rattle.numbers.specs.Refusals.{Refusal, ◌gives◌, first}
use Rattle.lists.specs.Lists.{overlay, numbers_from, elem, repeats, lacks, reaches}
use Rattle.graph.specs.Graph.{offsets_of, targets_of}
use Rattle.graph.specs.File.{vertex_count, edge_count, file_length, graph_of}
use Rattle.graph.specs.File.{heads, record_targets, record_nexts, reached}

-- "devices n 1 to 4,096", "links m 0 to 32,768" (§1.3)
unfoldable pub outside_sizes : ℕ → ℕ → Bool
outside_sizes n m = eqb n 0 || ltb max_vertices n || ltb max_edges m

-- "1: under 4 bytes", "2: n or m outside its size", "1: .. length not as above" (§2.6)
unfoldable pub header_refusals : List ℕ → List Refusal
header_refusals file =
    ltb (length file) 4 gives bad_length
    ∷ outside_sizes (vertex_count file) (edge_count file) gives bad_size
    ∷ not (eqb (length file) (file_length (vertex_count file) (edge_count file))) gives bad_length
    ∷ []

-- "4: a head or next above m", "3: a target of n or more": judged over all heads and records, reached or not (§2.6)
unfoldable pub scan_refusals : List ℕ → List Refusal
scan_refusals file =
    reaches (suc (edge_count file)) (heads file ++ record_nexts file) gives bad_index
    ∷ reaches (vertex_count file) (record_targets file) gives bad_target
    ∷ []

-- "5: a record reached a second time", "6: a record never reached" (§2.6)
unfoldable pub chain_refusals : List ℕ → List Refusal
chain_refusals file =
    repeats (reached file) gives repeated
    ∷ lacks (numbers_from 1 (edge_count file)) (reached file) gives unreached
    ∷ []

-- "20: a lent list is shorter than its need", "offsets n + 1, targets and marks m", by the lists' lengths (§10.3)
unfoldable pub rows_short : ℕ → ℕ → ℕ → ℕ → ℕ → Bool
rows_short n m offsets targets marks = ltb offsets (n + 1) || ltb targets m || ltb marks m

-- "Order: 1 (under 4), 2, 1 (length), 4, 3, .., 20, 5, 6": the reader's part of it (§10.2)
unfoldable pub read_refusals : List ℕ → List ℕ → List ℕ → List ℕ → List Refusal
read_refusals file offsets targets marks =
    header_refusals file
    ++ scan_refusals file
    ++ (rows_short (vertex_count file) (edge_count file)
    (length offsets) (length targets) (length marks) gives short_list ∷ [])
    ++ chain_refusals file

-- the reader's number
unfoldable pub read_number : List ℕ → List ℕ → List ℕ → List ℕ → ℕ
read_number file offsets targets marks = first (read_refusals file offsets targets marks)

-- the reader's answer: its number and, with 0, how many vertices and edges there are (§2.7)
pub record ReadAnswer : Type 0 where
  pub number : ℕ
  pub vertices : ℕ
  pub edges : ℕ

-- "A refusal other than 21 gives zeros beside its number." (§10.5)
abbrev pub refusal_answer : ℕ → ReadAnswer
refusal_answer number = record { number = number; vertices = 0; edges = 0 }

-- the answer with this number: n and m beside 0 (§2.7)
unfoldable pub answer_with : ℕ → ℕ → ℕ → ReadAnswer
answer_with number n m =
    cond (eqb number success) (record { number = number; vertices = n; edges = m }) (refusal_answer number)

-- whether rows are written with this number: "Every call that gets past 6 .. writes rows" (§10.4)
unfoldable pub writes_rows : ℕ → Bool
writes_rows number = eqb number success

-- "with 5 and 6 the first m marks become 0. Every call that gets past 6 leaves the first m marks 0" (§10.4)
unfoldable pub clears_marks : ℕ → Bool
clears_marks number = elem number (success ∷ repeated ∷ unreached ∷ [])

-- what a call answers, and what the lent lists hold at exit
pub record ReadOutcome : Type 0 where
  pub answer : ReadAnswer
  pub offsets : List ℕ
  pub targets : List ℕ
  pub marks : List ℕ

-- the outcome that a call has: its answer, and the lists as it leaves them
abbrev pub read_exit : ReadAnswer → List ℕ → List ℕ → List ℕ → ReadOutcome
read_exit answer offsets targets marks = record { answer = answer; offsets = offsets; targets = targets; marks = marks }

-- the outcome with this number (§10.4)
unfoldable pub read_outcome_by : ℕ → List ℕ → List ℕ → List ℕ → List ℕ → ReadOutcome
read_outcome_by number file offsets targets marks = record {
  answer = answer_with number (vertex_count file) (edge_count file);
  offsets = cond (writes_rows number) (overlay (offsets_of (graph_of file)) offsets) offsets;
  targets = cond (writes_rows number) (overlay (targets_of (graph_of file)) targets) targets;
  marks = cond (clears_marks number) (overlay (replicate (edge_count file) 0) marks) marks;
}

-- the outcome of `read` (§2.7)
unfoldable pub outcome_of_read : List ℕ → List ℕ → List ℕ → List ℕ → ReadOutcome
outcome_of_read file offsets targets marks =
    read_outcome_by (read_number file offsets targets marks) file offsets targets marks

-- The adjacency file (document 01: hearing file): its words, its records and chains, and the graph that they
-- hold. Total: every list of bytes has a meaning here, and the refusals of Read.antt say which are accepted.
use Rattle.std.specs.Prelude.{ℕ, zero, suc, ◌+◌, ◌*◌, get_or}
use mathlib.Core.List.{List, [], ◌∷◌, map, flatten}
use Rattle.lists.specs.Lists.{chain_from, numbers_from}
use Rattle.graph.specs.Graph.{Graph}

-- "16-bit words, low byte first": the word at place i (§1.2)
unfoldable pub word : List ℕ → ℕ → ℕ
word file i = get_or file (2 * i) 0 + 256 * get_or file (2 * i + 1) 0

-- the `count` words at `place`, `place + stride`, ..
unfoldable pub words_at : List ℕ → ℕ → ℕ → ℕ → List ℕ
words_at file place stride zero = []
words_at file place stride (suc count) = word file place ∷ words_at file (place + stride) stride count

-- n, the first word (§2.1)
unfoldable pub vertex_count : List ℕ → ℕ
vertex_count file = word file 0

-- m, the second word (§2.1)
unfoldable pub edge_count : List ℕ → ℕ
edge_count file = word file 1

-- "Length is 2 × (2 + n + 2 × m) bytes." (§2.2)
abbrev pub file_length : ℕ → ℕ → ℕ
file_length n m = 2 * (2 + n + 2 * m)

-- "then n heads": the head of vertex u (§2.1)
unfoldable pub head_index : List ℕ → ℕ → ℕ
head_index file u = word file (2 + u)

-- "then m records of two words: target, next. Records are numbered from 1": the target of record r (§2.1)
unfoldable pub target : List ℕ → ℕ → ℕ
target file r = word file (vertex_count file + 2 * r)

-- the next index of record r (§2.1)
unfoldable pub next : List ℕ → ℕ → ℕ
next file r = word file (vertex_count file + 2 * r + 1)

-- all n heads (§2.1)
unfoldable pub heads : List ℕ → List ℕ
heads file = words_at file 2 1 (vertex_count file)

-- the targets of all m records, reached or not (§2.1)
unfoldable pub record_targets : List ℕ → List ℕ
record_targets file = words_at file (vertex_count file + 2) 2 (edge_count file)

-- the next indices of all m records, reached or not (§2.1)
unfoldable pub record_nexts : List ℕ → List ℕ
record_nexts file = words_at file (vertex_count file + 3) 2 (edge_count file)

-- "A head or next index names a record; zero ends the chain": the records met from r on, in at most `steps` steps
-- (§2.3)
unfoldable pub chain : List ℕ → ℕ → ℕ → List ℕ
chain file steps r = chain_from (next file) steps r

-- the chain of each vertex. m + 1 steps are enough: a chain of more than m records meets one of them twice (§2.3)
unfoldable pub chains : List ℕ → List (List ℕ)
chains file =
    map (λ (u : ℕ). chain file (suc (edge_count file)) (head_index file u)) (numbers_from 0 (vertex_count file))

-- the records reached from the heads, vertex by vertex, in chain order (§2.6)
unfoldable pub reached : List ℕ → List ℕ
reached file = flatten (chains file)

-- the graph of the file: "device by device, each in chain order" (§2.5)
unfoldable pub graph_of : List ℕ → Graph
graph_of file = map (λ (records : List ℕ). map (target file) records) (chains file)

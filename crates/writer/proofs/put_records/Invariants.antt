-- `writer::put_records`: the records of the vertices passed are written, and those of this vertex up to k.
use mathlib.Core.List.{List}
use Prim.Native.Nat.{ℕ, ◌+◌, ◌*◌}
use lib.ListN.{get_or}
use Rattle.graph.specs.Graph.{rows_of}
use Rattle.graph.specs.Encode.{file_words}
use Rattle.writer.proofs.Storing.{Begun}
use Rattle.writer.proofs.put_records.Given as goal

-- the file has n, m, the heads and k records
abbrev pub Reached : List ℕ → List ℕ → ℕ → List ℕ → List ℕ → ℕ → Type 0
Reached offsets targets n old file k = Begun (file_words (rows_of offsets targets)) old file (2 + n + 2 * k)

abbrev pub invariant-loop-vertex : goal.invariant-loop-vertex
invariant-loop-vertex l = Reached l.offsets l.targets l.n l.fn.file l.file (get_or l.offsets l.vertex 0)

abbrev pub invariant-loop-k : goal.invariant-loop-k
invariant-loop-k l = Reached l.offsets l.targets l.n l.fn.file l.file l.k

-- `writer::put_heads`: n, m and the heads of the vertices passed are written.
use mathlib.Core.List.{List}
use Prim.Native.Nat.{ℕ, ◌+◌}
use Rattle.graph.specs.Graph.{rows_of}
use Rattle.graph.specs.Encode.{file_words}
use Rattle.writer.proofs.Storing.{Begun}
use Rattle.writer.proofs.put_heads.Given as goal

-- the words of the rows' file
abbrev pub words : List ℕ → List ℕ → List ℕ
words offsets targets = file_words (rows_of offsets targets)

abbrev pub invariant-loop-vertex : goal.invariant-loop-vertex
invariant-loop-vertex l = Begun (words l.offsets l.targets) l.fn.file l.file (2 + l.vertex)

-- `graph::words::largest_word` meets its contract. The invariant is `Passing`.
use Rattle.graph.proofs.WordRuns.{Passing}
use Rattle.graph.proofs.words.largest_word.Given as goal

abbrev pub invariant-loop-i : goal.invariant-loop-i
invariant-loop-i l = Passing l.file l.place 1 l.count 0 l.i l.found

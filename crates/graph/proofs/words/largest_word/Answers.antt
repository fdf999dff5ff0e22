-- `graph::words::largest_word` meets its contract. The invariant is `Passing`.
use borrow.Author.Rules.{rules}
use native.Mathlib.Omega.{arith}
use mathlib.Core.Path.{◌≡◌}
use Prim.Native.Nat.{max}
use Rattle.graph.proofs.WordRuns.{pass_start, pass_word, pass_end}
use Rattle.graph.proofs.words.largest_word.Goals as goal

pub loop-i-init : goal.loop-i-init
loop-i-init c = pass_start c.args.file.now c.args.place 1 c.args.count 0

pub loop-i-preserved : goal.loop-i-preserved
loop-i-preserved c =
    let a = c.args in
    let larger : c.max-found.result ≡ max c.loop-i.found c.word16.result = search rules in
    pass_word a.file.now a.place 1 a.count 0 c.loop-i.invariant (omega arith) c.word16.ensures (omega arith) larger

pub returns : goal.returns
returns c =
    let a = c.args in
    omega (arith, pass_end a.file.now a.place 1 a.count 0 c.loop-i.invariant (omega arith))

-- `graph::steps::scan` meets its contract. The invariant is `Passing`, of the nexts behind the heads and of the targets. Each return is one of the
-- ways through the scan's refusals.
use borrow.Author.Rules.{rules}
use native.Mathlib.Omega.{arith}
use mathlib.Core.Path.{◌≡◌, ap, ◌∙◌}
use Prim.Native.Nat.{ℕ, ◌+◌, max}
use Rattle.lists.specs.Lists.{largest}
use Rattle.graph.specs.File.{words_at}
use Rattle.graph.proofs.WordRuns.{pass_start, pass_word, pass_end}
use Rattle.graph.proofs.ScanFacts.{scan_index, scan_target, scan_passes}
use Rattle.graph.proofs.steps.scan.Goals.{After-loop-i}
use Rattle.graph.proofs.steps.scan.Goals as goal

pub loop-i-init : goal.loop-i-init
loop-i-init c =
    let a = c.args in
    (pass_start a.file.now (a.n + 3) 2 a.m c.largest_word-index.result, pass_start a.file.now (a.n + 2) 2 a.m 0)

pub loop-i-preserved : goal.loop-i-preserved
loop-i-preserved c =
    let a = c.args in
    let index : c.max-index.result ≡ max c.loop-i.index c.word16-in-loop-i.result = search rules in
    let target : c.max-target.result ≡ max c.loop-i.target c.word16.result = search rules in (
      pass_word a.file.now (a.n + 3) 2 a.m c.largest_word-index.result c.loop-i.invariant.0 (omega arith) c.word16-in-loop-i.ensures (omega arith) index,
      pass_word a.file.now (a.n + 2) 2 a.m 0 c.loop-i.invariant.1 (omega arith) c.word16.ensures (omega arith) target,
    )

-- after the loop: the largest index of all
indices : (c : After-loop-i) → let a = c.args in
    c.loop-i.index ≡ max (largest (words_at a.file.now 2 1 a.n)) (largest (words_at a.file.now (a.n + 3) 2 a.m))
indices c =
    let a = c.args in
    pass_end a.file.now (a.n + 3) 2 a.m c.largest_word-index.result c.loop-i.invariant.0 (omega arith)
    ∙ ap (λ (k : ℕ). max k (largest (words_at a.file.now (a.n + 3) 2 a.m))) c.largest_word-index.ensures

-- and the largest target
targets : (c : After-loop-i) → let a = c.args in
    c.loop-i.target ≡ max 0 (largest (words_at a.file.now (a.n + 2) 2 a.m))
targets c =
    let a = c.args in
    pass_end a.file.now (a.n + 2) 2 a.m 0 c.loop-i.invariant.1 (omega arith)

pub returns-then-m-from : goal.returns-then-m-from
returns-then-m-from c = scan_index c.args.file.now c.requires (indices (goal.at.returns-then-m-from c).After-loop-i) (targets (goal.at.returns-then-m-from c).After-loop-i) (omega arith)

pub returns-then-n-from : goal.returns-then-n-from
returns-then-n-from c = scan_target c.args.file.now c.requires (indices (goal.at.returns-then-n-from c).After-loop-i) (targets (goal.at.returns-then-n-from c).After-loop-i) (omega arith) (omega arith)

pub returns : goal.returns
returns c = scan_passes c.args.file.now c.requires (indices (goal.at.returns c).After-loop-i) (targets (goal.at.returns c).After-loop-i) (omega arith) (omega arith)

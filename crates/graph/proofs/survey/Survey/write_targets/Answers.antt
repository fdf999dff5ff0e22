-- `graph::survey::Survey::write_targets` meets its contract. The invariant is `Targets`.
use native.Mathlib.Omega.{arith}
use mathlib.Core.Path.{◌≡◌, ap, ◌∙◌}
use Prim.Native.Nat.{◌+◌, ◌*◌, ◌≤◌}
use lib.ListN.{get_or}
use Rattle.graph.specs.File.{word}
use Rattle.graph.proofs.RowFacts.{rank_within, targets_start, targets_next, targets_done}
use Rattle.graph.proofs.WalkFacts.{target_word}
use Rattle.graph.proofs.survey.Survey.write_targets.Goals.{In-loop-i}
use Rattle.graph.proofs.survey.Survey.write_targets.Goals as goal

pub loop-i-init : goal.loop-i-init
loop-i-init c = targets_start c.requires.chained c.requires.ranked c.args.targets.now

-- the rank is one of 1 to m
ranged : (c : In-loop-i) → (1 ≤ get_or c.args.marks.now c.loop-i.i 0) × (get_or c.args.marks.now c.loop-i.i 0 ≤ c.args.self.now.edges)
ranged c = rank_within c.requires.chained c.requires.ranked c.loop-i.i (omega arith)

pub overflow_sub-place : goal.overflow_sub-place
overflow_sub-place c = omega (arith, ranged (goal.at.overflow_sub-place c).In-loop-i)

pub bounds-targets-place : goal.bounds-targets-place
bounds-targets-place c = omega (arith, ranged (goal.at.bounds-targets-place c).In-loop-i, c.loop-i.invariant.long)

pub loop-i-preserved : goal.loop-i-preserved
loop-i-preserved c =
    let i = c.loop-i.i in
    let place : c.args.self.now.vertices + 2 + 2 * i ≡ c.args.self.now.vertices + 2 * (i + 1) = omega arith in
    targets_next c.requires.chained c.requires.ranked c.loop-i.invariant c.requires.targets_long (omega arith)
    c.element-place.ensures.value
    (c.word16.ensures ∙ ap (word c.args.self.now.file.now) place ∙ target_word c.requires.chained.scanned.sized (i + 1))

pub returns : goal.returns
returns c = targets_done c.requires.chained c.requires.ranked c.loop-i.invariant c.requires.targets_long (omega arith)

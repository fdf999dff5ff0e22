-- `verify::certificate::any_beyond` meets its contract: a turn is a fact about the target that it looks at.
use mathlib.Core.Path.{refl}
use native.Mathlib.Omega.{arith}
use borrow.Author.Tests.{lt-ltb, le-ltb}
use Rattle.verify.specs.Certificate.{beyond}
use Rattle.verify.proofs.CertificateFacts.{target_there, far_here, far_passed, far_end}
use Rattle.verify.proofs.certificate.any_beyond.Goals as goal

pub label-requires : goal.label-requires
label-requires c =
    target_there c.args.distances.now c.args.most c.args.row.now c.loop-target.target-index c.requires (omega arith) c.from.ensures

pub returns-in_default : goal.returns-in_default
unfolding beyond
returns-in_default c =
    far_here c.args.distances.now c.args.most c.args.row.now c.loop-target.target-index c.requires (omega arith)
    c.from.ensures c.in_default.ensures.value c.loop-target.invariant refl

pub returns-then-most-reached : goal.returns-then-most-reached
unfolding beyond
returns-then-most-reached c =
    far_here c.args.distances.now c.args.most c.args.row.now c.loop-target.target-index c.requires (omega arith)
    c.from.ensures c.in-Some.ensures.value c.loop-target.invariant (lt-ltb _ _ c.if-most-reached.true)

pub loop-target-preserved : goal.loop-target-preserved
unfolding beyond
loop-target-preserved c =
    far_passed c.args.distances.now c.args.most c.args.row.now c.loop-target.target-index c.requires (omega arith)
    c.from.ensures c.in-Some.ensures.value c.loop-target.invariant (le-ltb _ _ c.if-most-reached.false)

pub returns : goal.returns
returns c =
    let a = c.args in
    far_end a.distances.now a.most a.row.now c.loop-target.target-index c.loop-target.invariant (omega arith)

-- `verify::certificate::Claim::result_wrong` meets its contract: a turn is a fact about the vertex that it looks at.
use native.Mathlib.Omega.{arith}
use Rattle.verify.proofs.CertificateFacts.{wrong_all, wrong_here, wrong_passed, wrong_end}
use Rattle.verify.proofs.certificate.Claim.result_wrong.Goals as goal

pub loop-vertex-init : goal.loop-vertex-init
loop-vertex-init c =
    let s = c.args.self.now in wrong_all s.source s.offsets.now s.targets.now s.distances.now s.parents.now s.checkable

pub returns-then-vertex_wrong : goal.returns-then-vertex_wrong
returns-then-vertex_wrong c =
    let s = c.args.self.now in
    wrong_here s.source s.offsets.now s.targets.now s.distances.now s.parents.now c.loop-vertex.vertex c.loop-vertex.invariant
    (omega arith) c.vertex_wrong.ensures c.if-vertex_wrong.true

pub loop-vertex-preserved : goal.loop-vertex-preserved
loop-vertex-preserved c =
    let s = c.args.self.now in
    wrong_passed s.source s.offsets.now s.targets.now s.distances.now s.parents.now c.loop-vertex.vertex c.loop-vertex.invariant
    (omega arith) c.vertex_wrong.ensures c.if-vertex_wrong.false

pub returns : goal.returns
returns c =
    let s = c.args.self.now in
    wrong_end s.source s.offsets.now s.targets.now s.distances.now s.parents.now c.loop-vertex.vertex c.loop-vertex.invariant (omega arith)

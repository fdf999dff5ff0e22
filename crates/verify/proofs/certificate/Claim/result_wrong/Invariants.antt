-- `verify::certificate::Claim::result_wrong`: the answer is that for the vertices not yet looked at.
use mathlib.Core.Path.{◌≡◌}
use Rattle.graph.specs.Graph.{rows_of}
use Rattle.model.specs.Words.{labels_of}
use Rattle.verify.specs.Certificate.{result_wrong}
use Rattle.verify.proofs.CertificateFacts.{wrong_from}
use Rattle.verify.proofs.certificate.Claim.result_wrong.Given as goal

abbrev pub invariant-loop-vertex : goal.invariant-loop-vertex
invariant-loop-vertex l =
    result_wrong (rows_of l.self.offsets.now l.self.targets.now) l.self.source (labels_of l.self.distances.now l.self.parents.now) ≡ wrong_from l.self.source l.self.offsets.now l.self.targets.now l.self.distances.now l.self.parents.now l.vertex

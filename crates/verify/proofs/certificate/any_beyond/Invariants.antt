-- `verify::certificate::any_beyond`: the answer is that for the targets not yet looked at.
use mathlib.Core.Path.{◌≡◌}
use lib.ListN.{drop}
use Rattle.verify.proofs.CertificateFacts.{any_far}
use Rattle.verify.proofs.certificate.any_beyond.Given as goal

abbrev pub invariant-loop-target : goal.invariant-loop-target
invariant-loop-target l = any_far l.distances l.most l.row ≡ any_far l.distances l.most (drop l.target-index l.row)

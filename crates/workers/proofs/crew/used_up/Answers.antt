-- `workers::crew::used_up` meets its contract: the phase is the variant Free, or one of the others.
use native.Mathlib.Omega.{arith}
use mathlib.Core.Path.{ap}
use Rattle.workers.specs.Steps.{held_of}
use Rattle.workers.proofs.IdleFacts.{held_one}
use Rattle.workers.proofs.crew.used_up.Goals as goal

pub returns-in-Free : goal.returns-in-Free
unfolding held_of
returns-in-Free c = omega (arith, ap held_of c.in-Free.is)

pub returns-in_default : goal.returns-in_default
returns-in_default c = omega (arith, held_one c.args.next c.in_default.not-Free)

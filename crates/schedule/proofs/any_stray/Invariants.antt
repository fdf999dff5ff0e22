-- `schedule::any_stray`: a byte that was looked at is stray, or one of the others is, exactly where some byte is.
use mathlib.Core.Path.{◌≡◌}
use mathlib.Core.Bool.{◌||◌}
use lib.ListN.{drop}
use Rattle.schedule.specs.Check.{any_stray}
use Rattle.schedule.proofs.any_stray.Given as goal

abbrev pub invariant-loop-byte : goal.invariant-loop-byte
invariant-loop-byte l = any_stray l.workers l.bytes ≡ (l.stray || any_stray l.workers (drop l.byte-index l.bytes))

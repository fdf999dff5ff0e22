-- `schedule::bytes_that_fit`: of the bytes that were looked up, the list says whether they fit.
use mathlib.Core.Path.{◌≡◌}
use mathlib.Core.Bool.{false}
use Prim.Native.Nat.{ℕ, ◌<◌}
use lib.ListN.{length, get_or}
use Rattle.schedule.specs.Events.{event_of, within}
use Rattle.schedule.proofs.bytes_that_fit.Given as goal

abbrev pub invariant-loop-byte : goal.invariant-loop-byte
invariant-loop-byte l = (length l.fits ≡ 256) × ((k : ℕ) → k < l.byte → get_or l.fits k false ≡ within l.workers (event_of k))

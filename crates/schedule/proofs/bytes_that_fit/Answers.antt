-- `schedule::bytes_that_fit` meets its contract: a turn adds the byte that it looks up, and the last one is 255.
use mathlib.Core.Bool.{Bool, false}
use Prim.Native.Nat.{ℕ}
use native.Mathlib.Omega.{arith}
use borrow.Author.Rules.{rules}
use Rattle.lists.proofs.Replaced.{set_next}
use Rattle.schedule.specs.Events.{event_of, within}
use Rattle.schedule.proofs.bytes_that_fit.Goals as goal

pub loop-byte-preserved : goal.loop-byte-preserved
loop-byte-preserved c =
    let event : ℕ → Bool = λ k. within c.args.workers (event_of k) in
    (search rules, rw c.from.ensures (set_next event c.loop-byte.fits c.loop-byte.byte _ false (omega arith) c.byte_fits.ensures c.loop-byte.invariant.1))

pub returns-2 : goal.returns-2
returns-2 c =
    let event : ℕ → Bool = λ k. within c.args.workers (event_of k) in
    rw c.from.ensures
    (λ byte h. set_next event c.loop-byte.fits c.loop-byte.byte _ false (omega arith) c.byte_fits.ensures c.loop-byte.invariant.1 byte (omega arith))

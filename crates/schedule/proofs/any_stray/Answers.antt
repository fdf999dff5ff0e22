-- `schedule::any_stray` meets its contract: a turn takes the byte that it looks at out of those that are left.
use mathlib.Core.Path.{◌≡◌, sym, ap, ◌∙◌}
use mathlib.Core.Bool.{false, not, or_assoc, or-false}
use Prim.Native.Nat.{ℕ}
use native.Mathlib.Omega.{arith}
use lib.ListN.{get_or}
use Rattle.schedule.specs.Events.{event_of, within}
use Rattle.schedule.proofs.CheckFacts.{stray_from, stray_past}
use Rattle.schedule.proofs.any_stray.Goals as goal

pub loop-byte-preserved : goal.loop-byte-preserved
loop-byte-preserved c =
    let a = c.args in
    let i = c.loop-byte.byte-index in
    let fits = c.bytes_that_fit-fits.ensures c.from.result (omega arith) in
    let here : not (get_or c.bytes_that_fit-fits.result c.from.result false) ≡ not (within a.workers (event_of (get_or a.bytes.now i 0))) =
    ap not (fits ∙ ap (λ (byte : ℕ). within a.workers (event_of byte)) c.from.ensures) in
    c.loop-byte.invariant ∙ rw (stray_from a.workers i a.bytes.now (omega arith), ← here) (sym (or_assoc c.loop-byte.stray _ _))

pub returns : goal.returns
returns c =
    let a = c.args in
    let none = stray_past a.workers c.loop-byte.byte-index a.bytes.now (omega arith) in
    sym (c.loop-byte.invariant ∙ rw (none, or-false))

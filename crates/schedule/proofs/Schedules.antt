-- Facts about whole schedules that the crates above cite: what passes the tests 8 and 9, and the bytes of a well-formed schedule.
use mathlib.Core.Path.{◌≡◌, refl}
use mathlib.Core.Bool.{true, false, ◌||◌}
use mathlib.Core.List.{List, [], ◌∷◌}
use Prim.Native.Nat.{ℕ, zero, suc, ◌≤◌, ◌<◌}
use native.Mathlib.Omega.{arith}
use lib.Dec.{eqb, ltb}
use lib.ListN.{length, get_or, take}
use borrow.Author.Tests.{ltb-false, eqb-false}
use Rattle.numbers.specs.Numbers.{max_workers, max_events, bad_workers, bad_schedule}
use Rattle.numbers.specs.Refusals.{◌gives◌, first}
use Rattle.numbers.proofs.First.{Positive, first_passed}
use Rattle.lists.proofs.Or.{or_none}
use Rattle.schedule.specs.Events.{event_of, within}
use Rattle.schedule.specs.Check.{any_stray, schedule_refusals}
use Rattle.schedule.proofs.Bytes.{stray_none}

-- the numbers of a schedule's tests are positive
pub positive_schedule : (schedule : List ℕ) (P : ℕ) → Positive (schedule_refusals schedule P)
unfolding schedule_refusals
positive_schedule schedule P = omega arith

-- a schedule that neither 8 nor 9 refuses
pub record WellFormed (schedule : List ℕ) (P : ℕ) : Type 0 where
  pub some_worker : 1 ≤ P
  pub few_workers : P ≤ max_workers
  pub few_events : length schedule ≤ max_events
  pub formed : any_stray P schedule ≡ false

-- is well-formed
pub schedule_passed : (schedule : List ℕ) (P : ℕ) → first (schedule_refusals schedule P) ≡ 0 → WellFormed schedule P
unfolding schedule_refusals
schedule_passed schedule P e =
    let long = ltb max_events (length schedule) in
    let p = first_passed (eqb P 0 || ltb max_workers P) bad_workers ((long || any_stray P schedule) gives bad_schedule ∷ []) (omega arith) e in
    let q = first_passed (long || any_stray P schedule) bad_schedule [] (omega arith) p.1 in
    let workers = or_none (eqb P 0) (ltb max_workers P) p.0 in
    let bytes = or_none long (any_stray P schedule) q.0 in
    record {
      some_worker = omega (arith, eqb-false P 0 workers.0);
      few_workers = ltb-false max_workers P workers.1;
      few_events = ltb-false max_events (length schedule) bytes.0;
      formed = bytes.1;
    }

-- the first bytes of a well-formed schedule are well-formed
pub stray_take : (P k : ℕ) (schedule : List ℕ) → any_stray P schedule ≡ false → any_stray P (take k schedule) ≡ false
unfolding any_stray
stray_take P zero schedule h = refl
stray_take P (suc k) [] h = refl
stray_take P (suc k) (byte ∷ schedule) h = rw (stray_none P byte schedule h).0 (stray_take P k schedule (stray_none P byte schedule h).1)

-- each of its bytes is
pub stray_at : (P k : ℕ) (schedule : List ℕ) → any_stray P schedule ≡ false → k < length schedule → within P (event_of (get_or schedule k 0)) ≡ true
stray_at P k [] h below = absurd (omega arith)
stray_at P zero (byte ∷ schedule) h below = (stray_none P byte schedule h).0
stray_at P (suc k) (byte ∷ schedule) h below = stray_at P k schedule (stray_none P byte schedule h).1 (omega arith)

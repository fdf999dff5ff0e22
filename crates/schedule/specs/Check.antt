-- Which schedules are refused: numbers 8 and 9, in this order.
use Rattle.std.specs.Prelude.{ℕ, Bool, false, not, ◌||◌, List, [], ◌∷◌, ltb, eqb, length}
use Rattle.numbers.specs.Numbers.{max_workers, max_events, bad_workers, bad_schedule}
use Rattle.numbers.specs.Refusals.{Refusal, ◌gives◌, first}
use Rattle.schedule.specs.Events.{event_of, within}

-- "a byte not of the forms above, or w or v of P or more": some byte of the sheet is such (§5.3)
unfoldable pub any_stray : ℕ → List ℕ → Bool
any_stray P [] = false
any_stray P (byte ∷ bytes) = not (within P (event_of byte)) || any_stray P bytes

-- "8: P outside 1 to 8", "9: sheet over length, or a byte not of the forms above, or w or v of P or more" (§10.2)
unfoldable pub schedule_refusals : List ℕ → ℕ → List Refusal
schedule_refusals bytes P =
    (eqb P 0 || ltb max_workers P) gives bad_workers
    ∷ (ltb max_events (length bytes) || any_stray P bytes) gives bad_schedule
    ∷ []

-- the number of a schedule for P workers (§5.5)
unfoldable pub schedule_number : List ℕ → ℕ → ℕ
schedule_number bytes P = first (schedule_refusals bytes P)

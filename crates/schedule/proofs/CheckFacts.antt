-- Facts about the refusals of a schedule: the test for a stray byte taken one byte at a time, and the number by the tests that lead to it.
use mathlib.Core.Path.{◌≡◌}
use mathlib.Core.Bool.{true, false, not, ◌||◌}
use mathlib.Core.List.{List}
use Prim.Native.Nat.{ℕ, ◌+◌, ◌≤◌, ◌<◌}
use native.Mathlib.Numerals.{add-one}
use lib.Dec.{ltb}
use lib.ListN.{length, drop, get_or, drop_of_length-le}
use lib.Seq.{drop-cons}
use borrow.Author.Tests.{lt-ltb, le-ltb, eq-eqb, ne_eqb}
use Rattle.numbers.specs.Numbers.{max_workers, max_events, success, bad_workers, bad_schedule}
use Rattle.numbers.specs.Refusals.{first}
use Rattle.schedule.specs.Events.{event_of, within}
use Rattle.schedule.specs.Check.{any_stray, schedule_refusals, schedule_number}

-- some byte from place i on is stray: the one at i, or one after it
pub stray_from : (P i : ℕ) (bytes : List ℕ) → i < length bytes
    → any_stray P (drop i bytes) ≡ (not (within P (event_of (get_or bytes i 0))) || any_stray P (drop (i + 1) bytes))
unfolding any_stray
stray_from P i bytes h = rw (add-one, drop-cons bytes i 0 h)

-- past the last byte none is
pub stray_past : (P i : ℕ) (bytes : List ℕ) → length bytes ≤ i → any_stray P (drop i bytes) ≡ false
unfolding any_stray
stray_past P i bytes h = rw (drop_of_length-le bytes h)

module _ (bytes : List ℕ) (P : ℕ) where
  -- no worker at all
  pub no_workers : P ≡ 0 → bad_workers ≡ schedule_number bytes P
  unfolding schedule_number schedule_refusals first
  no_workers h = rw (eq-eqb P 0 h)

  module _ (some : P ≡ 0 → ⊥) where
    -- more workers than are allowed
    pub many_workers : ltb max_workers P ≡ true → bad_workers ≡ schedule_number bytes P
    unfolding schedule_number schedule_refusals first
    many_workers h = rw (ne_eqb P 0 some, h)

    module _ (few : ltb max_workers P ≡ false) where
      -- a sheet over length
      pub long_schedule : max_events < length bytes → bad_schedule ≡ schedule_number bytes P
      unfolding schedule_number schedule_refusals first
      long_schedule h = rw (ne_eqb P 0 some, few, lt-ltb max_events (length bytes) h)

      module _ (short : length bytes ≤ max_events) where
        -- a stray byte
        pub stray_schedule : any_stray P bytes ≡ true → bad_schedule ≡ schedule_number bytes P
        unfolding schedule_number schedule_refusals first
        stray_schedule h = rw (ne_eqb P 0 some, few, le-ltb max_events (length bytes) short, h)

        -- nothing to refuse
        pub taken_schedule : any_stray P bytes ≡ false → success ≡ schedule_number bytes P
        unfolding schedule_number schedule_refusals first
        taken_schedule h = rw (ne_eqb P 0 some, few, le-ltb max_events (length bytes) short, h)

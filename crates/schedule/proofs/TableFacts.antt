-- The table of event bytes: its entry at every byte, and what an entry tells of its event.
use mathlib.Core.Path.{◌≡◌, refl, ap, ◌∙◌}
use mathlib.Core.Bool.{true, false, cond, not, ◌&&◌, and-true}
use mathlib.Core.List.{List, [], map}
use Prim.Native.Nat.{ℕ, zero, suc, ◌+◌, ◌*◌, ◌≤◌, ◌<◌}
use native.Mathlib.Omega.{arith}
use lib.Dec.{eqb, ltb}
use lib.ListN.{length, get_or, length-map}
use borrow.Author.Tests.{lt-ltb}
use Rattle.lists.specs.Lists.{numbers_from, sum_of}
use Rattle.lists.proofs.Chunks.{each_map, each_at}
use Rattle.lists.proofs.Tests.{length_range, map_range_at}
use Rattle.schedule.specs.declared.Event.{Event}
use Rattle.schedule.specs.declared.Event.TheVariants.{Work, Split, Unite, Close, Malformed}
use Rattle.schedule.specs.Events.{form_of, event_of, within}
use Rattle.schedule.specs.Table.{entry_of, byte_table}

-- an entry has three places
entry_length : (e : Event) → length (entry_of e) ≡ 3
unfolding entry_of
entry_length (Work w) = refl
entry_length (Split w v) = refl
entry_length (Unite w v) = refl
entry_length Close = refl
entry_length Malformed = refl

-- the entry of each byte is that of its event
pub table_at : (byte place : ℕ) → byte < 256 → place < 3 → get_or byte_table (3 * byte + place) 0 ≡ get_or (entry_of (event_of byte)) place 0
unfolding byte_table
table_at byte place h k =
    let row : ℕ → List ℕ = λ byte. entry_of (event_of byte) in
    let bytes = numbers_from 0 256 in
    let rows = map row bytes in
    each_at 3 rows byte place 0 (each_map 3 row (λ (byte : ℕ). entry_length (event_of byte)) bytes) (rw (length-map bytes row, length_range 0 256) h) k
    ∙ ap (λ (entry : List ℕ). get_or entry place 0) (map_range_at row 256 byte [] h)

-- 135 of the 256 entries are malformed (§5.6)
pub malformed_entries : sum_of (λ (byte : ℕ). cond (eqb (get_or (entry_of (event_of byte)) 0 0) 4) 1 0) (numbers_from 0 256) ≡ 135
unfolding sum_of numbers_from entry_of event_of form_of
malformed_entries = refl

-- byte 72 is taken with two workers, and stray with one
pub byte_72 : (within 2 (event_of 72) ≡ true) × (within 1 (event_of 72) ≡ false)
unfolding within event_of form_of
byte_72 = (refl, refl)

-- the event of kind, w and v: what an entry says
abbrev pub event_in : ℕ → ℕ → ℕ → Event
event_in zero w v = Work w
event_in (suc zero) w v = Split w v
event_in (suc (suc zero)) w v = Unite w v
event_in (suc (suc (suc zero))) w v = Close
event_in (suc (suc (suc (suc kind)))) w v = Malformed

-- the entry of an event says that event
pub entry_event : (e : Event) {kind w v : ℕ} → kind ≡ get_or (entry_of e) 0 0 → w ≡ get_or (entry_of e) 1 0 → v ≡ get_or (entry_of e) 2 0 → event_in kind w v ≡ e
unfolding entry_of
entry_event (Work w) p q r = rw (p, q)
entry_event (Split w v) p q r = rw (p, q, r)
entry_event (Unite w v) p q r = rw (p, q, r)
entry_event Close p q r = rw p
entry_event Malformed p q r = rw p

-- a kind past the four is malformed
pub past_kinds : (kind w v : ℕ) → 4 ≤ kind → event_in kind w v ≡ Malformed
past_kinds zero w v h = absurd (omega arith)
past_kinds (suc zero) w v h = absurd (omega arith)
past_kinds (suc (suc zero)) w v h = absurd (omega arith)
past_kinds (suc (suc (suc zero))) w v h = absurd (omega arith)
past_kinds (suc (suc (suc (suc kind)))) w v h = refl

-- the three tests of an entry tell whether its event is one of the four kinds and its workers are there
pub entry_within : (P : ℕ) (e : Event) {kind w v : ℕ} → 1 ≤ P → kind ≡ get_or (entry_of e) 0 0 → w ≡ get_or (entry_of e) 1 0 → v ≡ get_or (entry_of e) 2 0
    → ((not (eqb kind 4) && ltb w P) && ltb v P) ≡ within P e
unfolding entry_of within
entry_within P (Work w) some p q r = rw (p, q, r, lt-ltb 0 P some, and-true)
entry_within P (Split w v) some p q r = rw (p, q, r)
entry_within P (Unite w v) some p q r = rw (p, q, r)
entry_within P Close some p q r = rw (p, q, r, lt-ltb 0 P some)
entry_within P Malformed some p q r = rw p

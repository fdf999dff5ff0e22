-- Events, and the byte of each: "An event byte is 64 × kind + 8 × w + v."
use Rattle.std.specs.Prelude.{ℕ, ◌+◌, ◌*◌, ◌/◌, ◌%◌, Bool, true, false, cond, ◌&&◌, eqb, ltb}
use Rattle.schedule.specs.declared.Event.{Event}
use Rattle.schedule.specs.declared.Event.TheVariants.{Work, Split, Unite, Close, Malformed}

-- "Kind 0, v = 0: worker w moves once." "Kind 3, w = v = 0: close."
-- "Kind 1, w and v different: w .. gets the second bag of a split of v's".
-- "Kind 2, w and v different: w's output bag is united into v's". These are all the kinds that a byte has. (§5.2)
unfoldable pub form_of : ℕ → ℕ → ℕ → Event
form_of kind w v =
    cond (eqb kind 0) (cond (eqb v 0) (Work w) Malformed)
    (cond (eqb kind 3) (cond (eqb w 0 && eqb v 0) Close Malformed)
    (cond (eqb w v) Malformed
    (cond (eqb kind 1) (Split w v) (Unite w v))))

-- "64 × kind + 8 × w + v" (§5.1)
unfoldable pub event_of : ℕ → Event
event_of byte = form_of (byte / 64) (byte / 8 % 8) (byte % 8)

-- whether the event is one of the four kinds, and its workers are below P (§5.3)
unfoldable pub within : ℕ → Event → Bool
within P (Work w) = ltb w P
within P (Split w v) = ltb w P && ltb v P
within P (Unite w v) = ltb w P && ltb v P
within P Close = true
within P Malformed = false

-- "An event byte is 64 × kind + 8 × w + v.", and "where an answer is an enum, a definition gives this paper's
-- number and values for each of its cases": the byte of each event. A malformed event has 256, which is past
-- every byte. (§5.1)
unfoldable pub byte_of : Event → ℕ
byte_of (Work w) = 64 * 0 + 8 * w + 0
byte_of (Split w v) = 64 * 1 + 8 * w + v
byte_of (Unite w v) = 64 * 2 + 8 * w + v
byte_of Close = 64 * 3 + 8 * 0 + 0
byte_of Malformed = 256

-- Facts about event bytes that the crates above cite: which event a byte is, and what a byte that is not stray tells of its event.
use mathlib.Core.Path.{◌≡◌, refl, ap, subst, ◌∙◌}
use mathlib.Core.Bool.{Bool, true, false, cond, not, ◌&&◌, and-eq-true_iff}
use mathlib.Core.List.{List, ◌∷◌}
use Prim.Native.Nat.{ℕ, zero, suc, ◌+◌, ◌*◌, ◌/◌, ◌%◌, ◌<◌}
use native.Mathlib.Omega.{arith}
use lib.Dec.{ltb, eqb}
use borrow.Author.Tests.{ltb-true, eqb-true, eqb-false, ne_eqb, not-false}
use Rattle.lists.proofs.Or.{or_none}
use Rattle.schedule.specs.declared.Event.{Event}
use Rattle.schedule.specs.declared.Event.TheVariants.{Work, Split, Unite, Close, Malformed}
use Rattle.schedule.specs.Events.{form_of, event_of, within, byte_of}
use Rattle.schedule.specs.Check.{any_stray}

-- Which event a byte is.

-- "An event byte is 64 × kind + 8 × w + v.": the event of that sum is the event of its three parts
pub event_form : (kind w v : ℕ) → kind < 4 → w < 8 → v < 8 → event_of (64 * kind + 8 * w + v) ≡ form_of kind w v
unfolding event_of
event_form kind w v hk hw hv =
    let byte = 64 * kind + 8 * w + v in
    let first : byte / 64 ≡ kind = omega arith in
    let second : byte / 8 % 8 ≡ w = omega arith in
    let third : byte % 8 ≡ v = omega arith in
    rw (first, second, third)

-- the byte 8 × w: worker w moves once
pub event_work : (w : ℕ) → w < 8 → event_of (8 * w) ≡ Work w
unfolding form_of
event_work w h =
    let sum : 8 * w ≡ 64 * 0 + 8 * w + 0 = omega arith in
    ap event_of sum ∙ event_form 0 w 0 (omega arith) h (omega arith)

-- the byte 64 × 3: close
pub event_close : event_of 192 ≡ Close
unfolding event_of form_of
event_close = refl

-- Two workers of one event.

-- the two workers of a split or of a union are different
Apart : Event → Type 0
Apart (Work w) = Unit {0}
Apart (Split w v) = w ≡ v → ⊥
Apart (Unite w v) = w ≡ v → ⊥
Apart Close = Unit {0}
Apart Malformed = Unit {0}

-- of two events whose workers are different, the one that a test picks
picked : (test : Bool) (x y : Event) → Apart x → Apart y → Apart (cond test x y)
picked true x y p q = p
picked false x y p q = q

-- so it is in the event of every three parts
form_apart : (kind w v : ℕ) → Apart (form_of kind w v)
unfolding form_of Apart
form_apart kind w v =
    picked (eqb kind 0) _ _ (picked (eqb v 0) _ _ tt tt)
    (picked (eqb kind 3) _ _ (picked (eqb w 0 && eqb v 0) _ _ tt tt) (unlike (eqb w v) refl))
  where
    unlike : (same : Bool) → eqb w v ≡ same → Apart (cond same Malformed (cond (eqb kind 1) (Split w v) (Unite w v)))
    unlike true e = tt
    unlike false e = picked (eqb kind 1) (Split w v) (Unite w v) (eqb-false w v e) (eqb-false w v e)

-- and in the event of every byte
event_apart : (byte : ℕ) → Apart (event_of byte)
unfolding event_of
event_apart byte = form_apart (byte / 64) (byte / 8 % 8) (byte % 8)

-- Bytes that are not stray.

-- no byte is stray: not the first, and none of the rest
pub stray_none : (P byte : ℕ) (bytes : List ℕ) → any_stray P (byte ∷ bytes) ≡ false
    → (within P (event_of byte) ≡ true) × (any_stray P bytes ≡ false)
unfolding any_stray
stray_none P byte bytes e =
    let none = or_none (not (within P (event_of byte))) (any_stray P bytes) e in
    (not-false (within P (event_of byte)) none.0, none.1)

-- two workers that are both there
both_there : (P w v : ℕ) → (ltb w P && ltb v P) ≡ true → (w < P) × (v < P)
both_there P w v e = let there = (and-eq-true_iff (ltb w P) (ltb v P)).0 e in (ltb-true w P there.0, ltb-true v P there.1)

-- the event is one of the four kinds, its workers are there, and two of them are two
abbrev pub Staffed : ℕ → Event → Type 0
Staffed P (Work w) = w < P
Staffed P (Split w v) = (w < P) × (v < P) × (w ≡ v → ⊥)
Staffed P (Unite w v) = (w < P) × (v < P) × (w ≡ v → ⊥)
Staffed P Close = Unit {0}
Staffed P Malformed = ⊥

-- so it is for every well-formed byte
pub byte_staffed : (P byte : ℕ) (e : Event) → event_of byte ≡ e → within P e ≡ true → Staffed P e
unfolding within Apart
byte_staffed P byte (Work w) e h = ltb-true w P h
byte_staffed P byte (Split w v) e h = let b = both_there P w v h in (b.0, b.1, subst Apart e (event_apart byte))
byte_staffed P byte (Unite w v) e h = let b = both_there P w v h in (b.0, b.1, subst Apart e (event_apart byte))
byte_staffed P byte Close e h = tt
byte_staffed P byte Malformed e h = let z : ◌≡◌ {A = ℕ} 0 1 = cc in omega arith

-- An event and its byte.

-- the event of an event's byte is that event again, where document 01 allows it: w and v below 8, and different where they are two workers
pub byte_event : (e : Event) → Staffed 8 e → event_of (byte_of e) ≡ e
unfolding byte_of form_of
byte_event (Work w) h = event_form 0 w 0 (omega arith) h (omega arith)
byte_event (Split w v) h = event_form 1 w v (omega arith) h.0 h.1 ∙ rw (ne_eqb w v h.2)
byte_event (Unite w v) h = event_form 2 w v (omega arith) h.0 h.1 ∙ rw (ne_eqb w v h.2)
byte_event Close h = event_close
byte_event Malformed h = absurd h

-- an event that is not malformed has this byte
Coded : ℕ → Event → Type 0
Coded byte e = (e ≡ Malformed → ⊥) → byte_of e ≡ byte

-- so has the event of three parts the byte that they make
form_coded : (kind w v : ℕ) → kind < 4 → Coded (64 * kind + 8 * w + v) (form_of kind w v)
unfolding Coded form_of byte_of
form_coded kind w v h = by_kind kind h
  where
    work : (zero-v : Bool) → eqb v 0 ≡ zero-v → Coded (64 * 0 + 8 * w + v) (cond zero-v (Work w) Malformed)
    work true p n = omega (arith, eqb-true v 0 p)
    work false p n = absurd (n refl)

    pair : (same : Bool) (e : Event) (byte : ℕ) → byte_of e ≡ byte → Coded byte (cond same Malformed e)
    pair true e byte p n = absurd (n refl)
    pair false e byte p n = p

    close : (zero-w zero-v : Bool) → eqb w 0 ≡ zero-w → eqb v 0 ≡ zero-v → Coded (64 * 3 + 8 * w + v) (cond (zero-w && zero-v) Close Malformed)
    close true true p q n = omega (arith, eqb-true w 0 p, eqb-true v 0 q)
    close true false p q n = absurd (n refl)
    close false zero-v p q n = absurd (n refl)

    by_kind : (k : ℕ) → k < 4 → Coded (64 * k + 8 * w + v) (form_of k w v)
    by_kind zero h = work (eqb v 0) refl
    by_kind (suc zero) h = pair (eqb w v) (Split w v) _ refl
    by_kind (suc (suc zero)) h = pair (eqb w v) (Unite w v) _ refl
    by_kind (suc (suc (suc zero))) h = close (eqb w 0) (eqb v 0) refl refl
    by_kind (suc (suc (suc (suc k)))) h = absurd (omega arith)

-- the byte of a byte's event is that byte again, where it has an event
pub event_byte : (byte : ℕ) → byte < 256 → (event_of byte ≡ Malformed → ⊥) → byte_of (event_of byte) ≡ byte
unfolding event_of Coded
event_byte byte h formed = form_coded (byte / 64) (byte / 8 % 8) (byte % 8) (omega arith) formed ∙ omega arith

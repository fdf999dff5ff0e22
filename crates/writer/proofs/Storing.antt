-- Facts about words that are stored in a list of bytes one after the other, from the front.
use mathlib.Core.Path.{◌≡◌, refl, ap, ◌∙◌, subst}
use mathlib.Core.List.{List, [], ◌∷◌}
use Prim.Native.Nat.{ℕ, zero, suc, ◌+◌, ◌*◌, ◌/◌, ◌%◌, ◌≤◌, ◌<◌}
use native.Mathlib.Nat.{le_of_suc-le-suc, not-suc-le-zero}
use native.Mathlib.Numerals.{add-one}
use native.Mathlib.Omega.{arith}
use lib.ListN.{length, get_or, set, take}
use Rattle.lists.specs.Lists.{overlay}
use Rattle.lists.proofs.Overlay.{overlay_suc, overlay_all}
use Rattle.lists.proofs.Rows.{Two, two_later}
use Rattle.graph.specs.Encode.{bytes_of}
use Rattle.graph.proofs.EncodeFacts.{length_bytes}

-- the low byte and the high byte of word i
bytes_at : (words : List ℕ) (i : ℕ) → i < length words → Two (bytes_of words) (2 * i) (get_or words i 0 % 256) (get_or words i 0 / 256)
unfolding bytes_of
bytes_at [] i h = absurd (not-suc-le-zero h)
bytes_at (w ∷ words) zero h = record { fst = refl; snd = refl }
bytes_at (w ∷ words) (suc i) h = two_later i (w % 256) (w / 256) (bytes_at words i (le_of_suc-le-suc h))

-- where the first i words are written, storing word i writes one more
put_word : (words file : List ℕ) (i w : ℕ) → i < length words → 2 * length words ≤ length file → w ≡ get_or words i 0
    → set (set (overlay (take (2 * i) (bytes_of words)) file) (2 * i) (w % 256)) (2 * i + 1) (w / 256) ≡ overlay (take (2 * (i + 1)) (bytes_of words)) file
put_word words file i w h k e =
    let bytes : List ℕ = bytes_of words in
    let size : length bytes ≡ 2 * length words = length_bytes words in
    let place : 2 * i + 1 ≡ suc (2 * i) = add-one (2 * i) in
    let more : 2 * (i + 1) ≡ suc (suc (2 * i)) = omega arith in
    cc (overlay_suc bytes file (2 * i) (omega arith) (omega arith), overlay_suc bytes file (suc (2 * i)) (omega arith) (omega arith), (bytes_at words i h).fst, (bytes_at words i h).snd)

-- the list `old` has become `file`: the first i of the words are written over it, and there is room for all of them
pub record Begun (words old file : List ℕ) (i : ℕ) : Type 0 where
  pub bytes : file ≡ overlay (take (2 * i) (bytes_of words)) old
  pub room : 2 * length words ≤ length old

-- none is written
pub begun_none : (words file : List ℕ) → 2 * length words ≤ length file → Begun words file file 0
unfolding overlay
begun_none words file h = record { bytes = refl; room = h }

module _ {words old file : List ℕ} {i : ℕ} (done : Begun words old file i) where
  -- one word more, by `put`
  pub begun_put : (w : ℕ) {put : List ℕ} → i < length words → w ≡ get_or words i 0 → put ≡ set (set file (2 * i) (w % 256)) (2 * i + 1) (w / 256) → Begun words old put (i + 1)
  begun_put w h e s =
      record {
        bytes = s ∙ ap (λ (l : List ℕ). set (set l (2 * i) (w % 256)) (2 * i + 1) (w / 256)) done.bytes ∙ put_word words old i w h done.room e;
        room = done.room;
      }

  -- as many, counted otherwise
  pub begun_count : {j : ℕ} → i ≡ j → Begun words old file j
  begun_count e = subst (λ (n : ℕ). Begun words old file n) e done

  -- all is written
  pub begun_all : length words ≤ i → file ≡ overlay (bytes_of words) old
  begun_all h = done.bytes ∙ overlay_all (bytes_of words) old (2 * i) (omega (arith, length_bytes words))

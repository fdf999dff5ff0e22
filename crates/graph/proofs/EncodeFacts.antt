-- Facts about the parts of an encoding: how long each is, and that the words of its bytes are its words.
use mathlib.Core.Path.{◌≡◌, refl, ap}
use mathlib.Core.List.{List, [], ◌∷◌, flatten}
use Prim.Native.Nat.{ℕ, zero, suc, ◌+◌, ◌*◌, ◌/◌, ◌%◌}
use native.Mathlib.Omega.{arith}
use lib.ListN.{length, get_or, length-append}
use Rattle.graph.specs.Graph.{Graph, targets_of}
use Rattle.graph.specs.File.{word}
use Rattle.graph.specs.Encode.{heads_from, row_records, records_from, bytes_of}

-- each word is two bytes
pub length_bytes : (words : List ℕ) → length (bytes_of words) ≡ 2 * length words
unfolding bytes_of
length_bytes [] = refl
length_bytes (w ∷ words) = let h = length_bytes words in omega arith

-- low byte first: the two bytes of a word make it up
two_bytes : (w : ℕ) → w % 256 + 256 * (w / 256) ≡ w
two_bytes w = omega arith

-- the words of the bytes are the words
pub word_bytes : (words : List ℕ) (i : ℕ) → word (bytes_of words) i ≡ get_or words i 0
unfolding bytes_of word
word_bytes [] i = refl
word_bytes (w ∷ words) zero = two_bytes w
word_bytes (w ∷ words) (suc i) =
    let low : 2 * suc i ≡ suc (suc (2 * i)) = omega arith in
    let high : 2 * suc i + 1 ≡ suc (suc (2 * i + 1)) = omega arith in
    rw (high, low) (word_bytes words i)

-- a head for each row
pub length_heads : (k : ℕ) (g : Graph) → length (heads_from k g) ≡ length g
unfolding heads_from
length_heads k [] = refl
length_heads k (row ∷ g) = ap suc (length_heads (k + length row) g)

-- two words for each record of a row
pub length_row : (k : ℕ) (row : List ℕ) → length (row_records k row) ≡ 2 * length row
unfolding row_records
length_row k [] = refl
length_row k (t ∷ row) = let h = length_row (suc k) row in omega arith

-- and for each record of all rows
pub length_records : (k : ℕ) (g : Graph) → length (records_from k g) ≡ 2 * length (targets_of g)
unfolding records_from targets_of flatten
length_records k [] = refl
length_records k (row ∷ g) =
    let a = length-append (row_records k row) (records_from (k + length row) g) in
    let b = length-append row (flatten g) in
    omega (arith, length_row k row, length_records (k + length row) g)

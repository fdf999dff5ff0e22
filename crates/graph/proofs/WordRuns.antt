-- Facts about the words of a file: the largest of a run of words taken one at a time, a run as a list and place by place, the words of a list's first
-- bytes, and n.
use mathlib.Core.Path.{◌≡◌, refl, sym, ap, ◌∙◌}
use mathlib.Core.List.{List}
use Prim.Native.Nat.{ℕ, zero, suc, ◌+◌, ◌*◌, ◌-◌, ◌≤◌, ◌<◌, max}
use native.Mathlib.Nat.{add-zero, sub-zero, mul-zero, mul-suc}
use native.Mathlib.Numerals.{add-one}
use native.Mathlib.Omega.{arith}
use lib.ListN.{length, get_or, take, drop}
use Rattle.lists.specs.Lists.{largest}
use Rattle.lists.proofs.Parts.{part_at}
use Rattle.graph.specs.File.{word, words_at, vertex_count}

-- A pass over `count` words at `place`, `place + stride`, .., that keeps the largest.

-- after i words: the largest so far, `found`, and what is left give the largest of all words and of the number that the pass began with
pub record Passing (file : List ℕ) (place stride count start i found : ℕ) : Type 0 where
  pub whole : max start (largest (words_at file place stride count)) ≡ max found (largest (words_at file (place + stride * i) stride (count - i)))

module _ (file : List ℕ) (place stride count start : ℕ) where
  pub pass_start : Passing file place stride count start 0 start
  pass_start = record { whole = rw (mul-zero stride, add-zero place, sub-zero count) }

  -- one word more
  pub pass_word : {i at found w larger : ℕ} → Passing file place stride count start i found → i < count → w ≡ word file at → at ≡ place + stride * i
      → larger ≡ max found w → Passing file place stride count start (i + 1) larger
  unfolding largest words_at
  pass_word {i} p h w e f =
      let left : count - i ≡ suc (count - (i + 1)) = omega arith in
      let behind : place + stride * i + stride ≡ place + stride * (i + 1) = omega (arith, mul-suc stride i, ap (λ (k : ℕ). stride * k) (add-one i)) in
      record { whole = omega (arith, rw (left, behind, ← e) at p.whole) }

  -- none is left
  pub pass_end : {i found : ℕ} → Passing file place stride count start i found → count ≤ i → found ≡ max start (largest (words_at file place stride count))
  unfolding largest words_at
  pass_end {i} {found} p h = let none : count - i ≡ 0 = omega arith in omega (arith, rw none at p.whole)

-- a run of words has so many
pub length_words : (file : List ℕ) (place stride count : ℕ) → length (words_at file place stride count) ≡ count
unfolding words_at
length_words file place stride zero = refl
length_words file place stride (suc count) = ap suc (length_words file (place + stride) stride count)

-- the word at a place of a run of adjacent ones
pub word_run : (file : List ℕ) (place count i : ℕ) → i < count → get_or (words_at file place 1 count) i 0 ≡ word file (place + i)
unfolding words_at
word_run file place zero i h = absurd (omega arith)
word_run file place (suc count) zero h = ap (word file) (sym (add-zero place))
word_run file place (suc count) (suc i) h =
    word_run file (place + 1) count i (omega arith) ∙ ap (word file) (let same : place + 1 + i ≡ place + suc i = omega arith in same)

-- a word of the first k bytes is a word of all
pub part_word : (a k : ℕ) (l : List ℕ) (i : ℕ) → a + (2 * i + 1) < k → word (drop a (take k l)) i ≡ word (drop a l) i
unfolding word
part_word a k l i h = rw (part_at a k l (2 * i) 0 (omega arith), part_at a k l (2 * i + 1) 0 h)

-- the first word of what is the file is n
pub count_as : {file other : List ℕ} {n : ℕ} → file ≡ other → n ≡ word file 0 → n ≡ vertex_count other
unfolding vertex_count
count_as f e = rw (← f) e

-- The texts of labels, and texts in columns: how long they are, and the pieces in which they are printed.
use mathlib.Core.Bool.{Bool, true, false}
use mathlib.Core.Path.{◌≡◌, refl, ap}
use mathlib.Core.List.{List, [], ◌∷◌, ◌++◌}
use Prim.Native.Nat.{ℕ, ◌-◌, ◌^◌, ◌≤◌, ◌<◌, max}
use native.Mathlib.Omega.{arith}
use lib.Dec.{eqb}
use lib.ListN.{length, replicate, length-append, length-replicate}
use borrow.Author.Tests.{eq-eqb, ne_eqb}
use Rattle.numbers.specs.Numbers.{unset}
use Rattle.text.specs.Text.{space, dash, decimal, label_text, right_aligned}
use Rattle.text.proofs.DecimalFacts.{decimal_short}

-- Labels.

-- the fifth power of 10
five : 10 ^ 5 ≡ 100000
five = refl

-- a label of 16 bits has at most 5 digits
pub label_short : (word : ℕ) → word < 65536 → length (label_text word) ≤ 5
unfolding label_text
label_short word h = go (eqb word unset) refl
  where
    go : (b : Bool) → eqb word unset ≡ b → length (label_text word) ≤ 5
    go true e = rw e (omega arith)
    go false e = rw e (decimal_short 5 word (omega (arith, five)) (omega arith))

-- the text of an unset label
pub label_unset : (word : ℕ) → word ≡ unset → label_text word ≡ dash ∷ []
unfolding label_text
label_unset word e = rw (eq-eqb word unset e)

-- the text of a label that is set
pub label_set : (word : ℕ) → (word ≡ unset → ⊥) → label_text word ≡ decimal word
unfolding label_text
label_set word e = rw (ne_eqb word unset e)

-- Columns.

-- as many places as there are columns, or as the text has
pub length_aligned : (width : ℕ) (text : List ℕ) → length (right_aligned width text) ≡ max width (length text)
unfolding right_aligned
length_aligned width text =
    let blanks : List ℕ = replicate (width - length text) space in
    omega (arith, length-append blanks text, length-replicate (width - length text) space)

-- a text that fills its columns has no blank before it
pub aligned_full : (width : ℕ) (text : List ℕ) → width ≤ length text → right_aligned width text ≡ text
unfolding right_aligned
aligned_full width text h =
    let none : width - length text ≡ 0 = omega arith in
    ap (λ (k : ℕ). replicate k space ++ text) none

-- nor has one without columns
pub unaligned : (text : List ℕ) → right_aligned 0 text ≡ text
unaligned text = aligned_full 0 text (omega arith)

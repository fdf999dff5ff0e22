-- Numbers in decimal: the digits that the kit's code makes are those of the specification, and how many there are at most.
use mathlib.Core.Bool.{Bool, true, false, cond}
use mathlib.Core.Path.{◌≡◌, refl, ap, ◌∙◌}
use mathlib.Core.List.{List, [], ◌∷◌, ◌++◌}
use Prim.Native.Nat.{ℕ, zero, suc, ◌+◌, ◌-◌, ◌/◌, ◌%◌, ◌^◌, ◌≤◌, ◌<◌}
use native.Mathlib.Nat.{pow-suc, mod-lt, mod-eq_of_lt, div-lt_iff_lt-mul, le-div_iff_mul-le, one-le-pow, pow-le-pow_right}
use native.Mathlib.Omega.{arith}
use lib.Dec.{ltb}
use lib.ListN.{length, length-append}
use borrow.Author.Tests.{ltb-true, ltb-false, lt-ltb, le-ltb}
use Rattle.io.specs.Digits.{hex_digit_ascii, last_digits, IsDigitCount}
use Rattle.text.specs.Text.{digit, decimal_in, decimal}

-- a number without its last digit is below the next lower power of 10
pub tenth_below : (k x : ℕ) → x < 10 ^ suc k → x / 10 < 10 ^ k
tenth_below k x h = (div-lt_iff_lt-mul {k = 10} {x = x} {y = 10 ^ k} (omega arith)).1 (rw (pow-suc 10 k) at h)

-- and not below a power that is lower still
tenth_above : (k x : ℕ) → 10 ^ suc k ≤ x → 10 ^ k ≤ x / 10
tenth_above k x h = (le-div_iff_mul-le {k = 10} {x = 10 ^ k} {y = x} (omega arith)).1 (rw (pow-suc 10 k) at h)

-- the first power of 10
pow_one : 10 ^ 1 ≡ 10
pow_one = refl

-- a power of 10 past the first
pow_more : (k : ℕ) → 10 ≤ 10 ^ suc k
pow_more k = omega (arith, pow-suc 10 k, one-le-pow k 10 (omega arith))

-- a digit below 10, as the kit writes it
glyph_below : (d : ℕ) → d < 10 → hex_digit_ascii d ≡ digit d
glyph_below d h = rw (lt-ltb d 10 h)

-- one less than two more
sub_two : (k : ℕ) → suc (suc k) - 1 ≡ suc k
sub_two k = omega arith

-- the fewest digits without the last one
fewest_tenth : (x k : ℕ) → IsDigitCount 10 1 x (suc (suc k)) → IsDigitCount 10 1 (x / 10) (suc k)
fewest_tenth x zero h = (omega arith, tenth_below 1 x h.1, λ (l : 1 < 1). absurd (omega arith))
fewest_tenth x (suc k) h =
    let above : 10 ^ suc (suc k) ≤ x = rw (sub_two (suc k)) at (h.2 (omega arith)) in
    (omega arith, tenth_below (suc (suc k)) x h.1, λ (l : 1 < suc (suc k)). rw (sub_two k) (tenth_above (suc k) x above))

-- a number of one digit
one_digit : (k x : ℕ) → x < 10 → last_digits 10 1 x ≡ decimal_in (suc k) x
unfolding decimal_in
one_digit k x h = rw (lt-ltb x 10 h, mod-eq_of_lt h) (ap (λ (g : ℕ). g ∷ []) (glyph_below x h))

-- a number of more digits
more_digits : (k r x : ℕ) → 10 ≤ x → last_digits 10 r (x / 10) ≡ decimal_in k (x / 10) → last_digits 10 (suc r) x ≡ decimal_in (suc k) x
unfolding decimal_in
more_digits k r x h e =
    let last = glyph_below (x % 10) (mod-lt x (omega arith)) in
    rw (le-ltb x 10 h) (ap (λ (g : ℕ). last_digits 10 r (x / 10) ++ (g ∷ [])) last ∙ ap (λ (t : List ℕ). t ++ (digit (x % 10) ∷ [])) e)

-- the fewest digits are the decimal ones
digits_decimal_in : (k r x : ℕ) → IsDigitCount 10 1 x r → r ≤ k → last_digits 10 r x ≡ decimal_in k x
digits_decimal_in zero r x h l = absurd (omega arith)
digits_decimal_in (suc k) zero x h l = absurd (omega arith)
digits_decimal_in (suc k) (suc zero) x h l = one_digit k x (omega (arith, pow_one))
digits_decimal_in (suc k) (suc (suc r)) x h l =
    more_digits k (suc r) x (omega (arith, pow_more r, rw (sub_two r) at (h.2 (omega arith))))
    (digits_decimal_in k (suc r) (x / 10) (fewest_tenth x r h) (omega arith))

-- the digits that the kit makes are the decimal ones
pub digits_decimal : (r x : ℕ) → IsDigitCount 10 1 x r → r ≤ 20 → last_digits 10 r x ≡ decimal x
unfolding decimal
digits_decimal r x h l = digits_decimal_in 20 r x h l

-- a number of 64 bits has at most 20 digits
pub fewest_twenty : (r x : ℕ) → IsDigitCount 10 1 x r → x < 2 ^ 64 → r ≤ 20
fewest_twenty r x h l = go (ltb 20 r) refl
  where
    go : (b : Bool) → ltb 20 r ≡ b → r ≤ 20
    go true e =
        let more : 20 < r = ltb-true 20 r e in
        let least : 10 ^ 20 ≤ 10 ^ (r - 1) = pow-le-pow_right {n = 10} (omega arith) {i = 20} {j = r - 1} (omega arith) in
        absurd (omega (arith, least, h.2 (omega arith)))
    go false e = ltb-false 20 r e

-- one digit, or all but the last and the last
digits_length : (b : Bool) (x k most : ℕ) → 1 ≤ most → (b ≡ false → length (decimal_in k (x / 10)) + 1 ≤ most)
    → length (cond b (digit x ∷ []) (decimal_in k (x / 10) ++ (digit (x % 10) ∷ []))) ≤ most
digits_length true x k most one more = one
digits_length false x k most one more = omega (arith, length-append (decimal_in k (x / 10)) (digit (x % 10) ∷ []), more refl)

-- at most so many digits as asked for
decimal_in_most : (k x : ℕ) → length (decimal_in k x) ≤ k
unfolding decimal_in
decimal_in_most zero x = omega arith
decimal_in_most (suc k) x = digits_length (ltb x 10) x k (suc k) (omega arith) (λ (e : ltb x 10 ≡ false). omega (arith, decimal_in_most k (x / 10)))

-- at most 20 digits
pub decimal_most : (x : ℕ) → length (decimal x) ≤ 20
unfolding decimal
decimal_most x = decimal_in_most 20 x

-- a number below a power of 10 has no more digits than that, whatever is asked for
decimal_in_short : (j k x : ℕ) → x < 10 ^ suc k → length (decimal_in j x) ≤ suc k
unfolding decimal_in
decimal_in_short zero k x h = omega arith
decimal_in_short (suc j) zero x h =
    digits_length (ltb x 10) x j 1 (omega arith) (λ (e : ltb x 10 ≡ false). absurd (omega (arith, ltb-false x 10 e, pow_one)))
decimal_in_short (suc j) (suc k) x h =
    digits_length (ltb x 10) x j (suc (suc k)) (omega arith)
    (λ (e : ltb x 10 ≡ false). omega (arith, decimal_in_short j k (x / 10) (tenth_below (suc k) x h)))

-- a number below a power of 10 has no more digits than that
pub decimal_short : (k x : ℕ) → x < 10 ^ k → 1 ≤ k → length (decimal x) ≤ k
unfolding decimal
decimal_short zero x h l = absurd (omega arith)
decimal_short (suc k) x h l = decimal_in_short 20 k x h

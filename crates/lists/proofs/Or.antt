-- Facts about tests joined by "or": what is known of each of them where the whole is false, and of the whole where one is known.
use mathlib.Core.Bool.{Bool, true, false, ◌||◌, true≢false}
use mathlib.Core.Path.{◌≡◌, refl, sym, ap, ◌∙◌}

-- neither test holds
pub or_none : (a b : Bool) → (a || b) ≡ false → (a ≡ false) × (b ≡ false)
or_none true b e = absurd (true≢false e)
or_none false b e = (refl, e)

-- two tests that both fail
pub none_or : (a b : Bool) → a ≡ false → b ≡ false → (a || b) ≡ false
none_or a b e f = rw (e, f)

-- the second test holds
pub or_second : (a b : Bool) → b ≡ true → (a || b) ≡ true
or_second true b e = refl
or_second false b e = e

-- the first decides
pub or_found : {whole : Bool} (a b : Bool) → whole ≡ a || b → a ≡ true → true ≡ whole
or_found a b e h = sym (e ∙ ap (λ (t : Bool). t || b) h)

-- or leaves it to the second
pub or_passed : {whole : Bool} (a b : Bool) → whole ≡ a || b → a ≡ false → whole ≡ b
or_passed a b e h = e ∙ ap (λ (t : Bool). t || b) h

-- a test fails if it would come to nothing that it holds
pub not_so : (b : Bool) → (b ≡ true → ⊥) → b ≡ false
not_so true h = absurd (h refl)
not_so false h = refl

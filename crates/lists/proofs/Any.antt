-- Tests of lists by the places of their elements: of some element, and of a number that stands in a list.
use mathlib.Core.Path.{◌≡◌, refl, sym, ap, ◌∙◌}
use mathlib.Core.Bool.{Bool, true, false, true≢false}
use mathlib.Core.List.{List, [], ◌∷◌}
use Prim.Native.Nat.{ℕ, zero, suc, ◌<◌}
use native.Mathlib.Omega.{arith}
use lib.ListN.{length, get_or}
use Rattle.lists.specs.Lists.{numbers_from, elem, any_of}
use Rattle.lists.proofs.Or.{or_none, none_or}
use Rattle.lists.proofs.Tests.{elem_first, elem_later, elem_cases, length_range, get_or_range}

-- a test that holds of no element fails at each place
pub any_at_lem : {A : Type 0} (f : A → Bool) (l : List A) (i : ℕ) (d : A) → any_of f l ≡ false → i < length l → f (get_or l i d) ≡ false
unfolding any_of
any_at_lem f [] i d e h = absurd (omega arith)
any_at_lem f (x ∷ l) zero d e h = (or_none (f x) (any_of f l) e).0
any_at_lem f (x ∷ l) (suc i) d e h = any_at_lem f l i d (or_none (f x) (any_of f l) e).1 (omega arith)

-- and the other way
pub at_any : {A : Type 0} (f : A → Bool) (l : List A) (d : A) → ((i : ℕ) → i < length l → f (get_or l i d) ≡ false) → any_of f l ≡ false
unfolding any_of
at_any f [] d h = refl
at_any f (x ∷ l) d h = none_or (f x) (any_of f l) (h 0 (omega arith)) (at_any f l d (λ i k. h (suc i) (omega arith)))

-- a test that holds of none of the first n numbers fails of each
pub any_below : (f : ℕ → Bool) (n : ℕ) → any_of f (numbers_from 0 n) ≡ false → (v : ℕ) → v < n → f v ≡ false
any_below f n e v h =
    let same : get_or (numbers_from 0 n) v 0 ≡ v = omega (arith, get_or_range 0 n v 0 h) in
    ap f (sym same) ∙ any_at_lem f (numbers_from 0 n) v 0 e (omega (arith, length_range 0 n))

-- and the other way
pub below_any : (f : ℕ → Bool) (n : ℕ) → ((v : ℕ) → v < n → f v ≡ false) → any_of f (numbers_from 0 n) ≡ false
below_any f n h = at_any f (numbers_from 0 n) 0 (λ i k. go i (omega (arith, length_range 0 n)))
  where
    go : (i : ℕ) → i < n → f (get_or (numbers_from 0 n) i 0) ≡ false
    go i k = let same : get_or (numbers_from 0 n) i 0 ≡ i = omega (arith, get_or_range 0 n i 0 k) in ap f same ∙ h i k

-- a place of a number in a list
pub record PlaceOf (x : ℕ) (l : List ℕ) : Type 0 where
  pub place : ℕ
  pub there : place < length l
  pub is : get_or l place 0 ≡ x

-- a number that stands in a list has a place there
pub elem_place : (x : ℕ) (l : List ℕ) → elem x l ≡ true → PlaceOf x l
unfolding elem
elem_place x [] e = absurd (true≢false (sym e))
elem_place x (y ∷ l) e = elem_cases x y l e
    (λ (q : x ≡ y). record { place = 0; there = omega arith; is = sym q })
    (λ (f : elem x l ≡ true). let p = elem_place x l f in record { place = suc p.place; there = omega (arith, p.there); is = p.is })

-- and the other way
pub place_elem : (x : ℕ) (l : List ℕ) (i : ℕ) → i < length l → get_or l i 0 ≡ x → elem x l ≡ true
place_elem x [] i h e = absurd (omega arith)
place_elem x (y ∷ l) zero h e = rw e (elem_first x l)
place_elem x (y ∷ l) (suc i) h e = elem_later x y l (place_elem x l i (omega arith) e)

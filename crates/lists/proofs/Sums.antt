-- Sums of a weight over a list: of two lists, with one or two elements replaced, of equal or smaller weights, of elements that weigh nothing,
-- of consecutive numbers.
use Prim.Native.Nat.{ℕ, zero, suc, ◌+◌, ◌*◌, ◌≤◌, ◌<◌}
use native.Mathlib.Nat.{add-zero, suc-add, add-suc}
use native.Mathlib.Omega.{arith}
use native.Mathlib.Decide.{ℕ_discrete}
use mathlib.Core.Path.{◌≡◌, refl, ap}
use mathlib.Core.List.{List, [], ◌∷◌, ◌++◌, map}
use lib.ListN.{length, get_or, set, replicate, length-set}
use lib.Seq.{get_or-set_other}
use Rattle.lists.specs.Lists.{numbers_from, sum_of}

module _ {A : Type 0} (f : A → ℕ) where
  -- lists laid end to end
  pub sum_append : (a b : List A) → sum_of f (a ++ b) ≡ sum_of f a + sum_of f b
  unfolding sum_of
  sum_append [] b = omega arith
  sum_append (x ∷ a) b = omega (arith, sum_append a b)

  -- an element replaced
  pub sum_set : (l : List A) (i : ℕ) (y d : A) → i < length l → sum_of f (set l i y) + f (get_or l i d) ≡ sum_of f l + f y
  unfolding sum_of
  sum_set [] i y d h = absurd (omega arith)
  sum_set (x ∷ l) zero y d h = omega arith
  sum_set (x ∷ l) (suc i) y d h = omega (arith, sum_set l i y d (omega arith))

  -- an element weighs no more than the list, nor does what is read past its end if that weighs nothing
  pub sum_at : (l : List A) (i : ℕ) (d : A) → f d ≡ 0 → f (get_or l i d) ≤ sum_of f l
  unfolding sum_of
  sum_at [] i d h = omega arith
  sum_at (x ∷ l) zero d h = omega arith
  sum_at (x ∷ l) (suc i) d h = omega (arith, sum_at l i d h)

  -- two elements replaced
  pub sum_two : (l : List A) (i j : ℕ) (x y d : A) → i < length l → j < length l → (i ≡ j → ⊥)
      → sum_of f (set (set l j y) i x) + f (get_or l i d) + f (get_or l j d) ≡ sum_of f l + f x + f y
  sum_two l i j x y d h k apart =
      let first = sum_set l j y d k in
      let second = rw (get_or-set_other l j i y d apart) at (sum_set (set l j y) i x d (rw length-set h)) in
      omega arith

  -- a list whose elements weigh nothing
  pub sum_none : (d : A) (l : List A) → ((i : ℕ) → f (get_or l i d) ≡ 0) → sum_of f l ≡ 0
  unfolding sum_of
  sum_none d [] h = refl
  sum_none d (x ∷ l) h = omega (arith, h 0, sum_none d l (λ i. h (suc i)))

  -- .. but for the first, which is replaced
  pub sum_first : (d : A) (l : List A) (y : A) → 1 ≤ length l → ((i : ℕ) → f (get_or l i d) ≡ 0) → sum_of f (set l 0 y) ≡ f y
  sum_first d l y long h = omega (arith, sum_set l 0 y d long, sum_none d l h, h 0)

  -- n times the same element
  pub sum_replicate : (n : ℕ) (x : A) → sum_of f (replicate n x) ≡ n * f x
  unfolding sum_of
  sum_replicate zero x = omega arith
  sum_replicate (suc n) x = omega (arith, sum_replicate n x)

-- a weight that is nowhere more than another one and k
pub sum_most : {A : Type 0} (f h : A → ℕ) (k : ℕ) → ((x : A) → f x ≤ h x + k) → (l : List A) → sum_of f l ≤ sum_of h l + length l * k
unfolding sum_of
sum_most f h k most [] = omega arith
sum_most f h k most (x ∷ l) = omega (arith, most x, sum_most f h k most l)

-- .. or nowhere more than k
pub sum_within : {A : Type 0} (f : A → ℕ) (k : ℕ) → ((x : A) → f x ≤ k) → (l : List A) → sum_of f l ≤ length l * k
unfolding sum_of
sum_within f k most [] = omega arith
sum_within f k most (x ∷ l) = omega (arith, most x, sum_within f k most l)

-- two weights over one list
pub sum_both : {A : Type 0} (f g : A → ℕ) (l : List A) → sum_of (λ (x : A). f x + g x) l ≡ sum_of f l + sum_of g l
unfolding sum_of
sum_both f g [] = refl
sum_both f g (x ∷ l) = omega (arith, sum_both f g l)

-- a function at each element
pub sum_map : {A B : Type 0} (f : B → ℕ) (h : A → B) (l : List A) → sum_of f (map h l) ≡ sum_of (λ (x : A). f (h x)) l
unfolding sum_of
sum_map f h [] = refl
sum_map f h (x ∷ l) = omega (arith, sum_map f h l)

-- consecutive numbers, one more
pub sum_last : (f : ℕ → ℕ) (a k : ℕ) → sum_of f (numbers_from a (suc k)) ≡ sum_of f (numbers_from a k) + f (a + k)
unfolding sum_of numbers_from
sum_last f a zero = rw (add-zero a) (omega arith)
sum_last f a (suc k) = rw (add-suc a k, ← (suc-add a k)) (omega (arith, sum_last f (suc a) k))

-- two weights that agree on the list
pub sum_same : {A : Type 0} (f g : A → ℕ) (d : A) (l : List A) → ((i : ℕ) → i < length l → f (get_or l i d) ≡ g (get_or l i d)) → sum_of f l ≡ sum_of g l
unfolding sum_of
sum_same f g d [] same = refl
sum_same f g d (x ∷ l) same = omega (arith, same 0 (omega arith), sum_same f g d l (λ i h. same (suc i) (omega arith)))

-- a number that alone weighs something, and consecutive numbers
module _ (f : ℕ → ℕ) (x : ℕ) (others : (y : ℕ) → (y ≡ x → ⊥) → f y ≡ 0) where
  -- past it
  sum_past : (a n : ℕ) → x < a → sum_of f (numbers_from a n) ≡ 0
  unfolding sum_of numbers_from
  sum_past a zero h = refl
  sum_past a (suc n) h = omega (arith, others a (omega arith), sum_past (suc a) n (omega arith))

  -- it is one of them
  pub sum_only : (a n : ℕ) → a ≤ x → x < a + n → sum_of f (numbers_from a n) ≡ f x
  unfolding sum_of numbers_from
  sum_only a zero h k = absurd (omega arith)
  sum_only a (suc n) h k = go (ℕ_discrete a x) (sum_only (suc a) n)
    where
      go : Dec (a ≡ x) → (suc a ≤ x → x < suc a + n → sum_of f (numbers_from (suc a) n) ≡ f x) → f a + sum_of f (numbers_from (suc a) n) ≡ f x
      go (yes same) rest = omega (arith, ap f same, sum_past (suc a) n (omega arith))
      go (no apart) rest = omega (arith, others a apart, rest (omega arith) (omega arith))

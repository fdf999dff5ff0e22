-- Membership in lists: in what passes a test, in rows laid end to end, in a range.
use mathlib.Core.Path.{◌≡◌, refl, sym, ap, ◌∙◌, subst}
use mathlib.Core.Bool.{Bool, true, false, cond, not, true≢false}
use mathlib.Core.List.Permᴰ
use mathlib.Core.List.{List, [], ◌∷◌, ◌++◌, map, flatten, Permᴰ}
use mathlib.Core.List.Memᴰ
use mathlib.Core.List.{Memᴰ}
use mathlib.Core.Logic.{◌⊎◌, inl, inr}
use Prim.Native.Nat.{ℕ, ◌<◌}
use native.Mathlib.Omega.{arith}
use Rattle.lists.specs.Lists.{numbers_from, elem}
use Rattle.lists.proofs.Tests.{elem_first, elem_later, elem_cases, elem_range, range_elem}

-- the elements that pass a test, in order (the library's `filter` goes by a decision, and its membership is truncated)
pub keep : {A : Type 0} → (A → Bool) → List A → List A
keep p [] = []
keep p (a ∷ l) = cond (p a) (a ∷ keep p l) (keep p l)

-- those that pass and then those that do not are the list in another order
pub keep_order : {A : Type 0} (p : A → Bool) (l : List A) → Permᴰ (keep p l ++ keep (λ (a : A). not (p a)) l) l
unfolding keep
keep_order p [] = Permᴰ.nil
keep_order {A} p (a ∷ l) = go (p a) (keep_order p l)
  where
    passed : List A
    passed = keep p l

    failed : List A
    failed = keep (λ (b : A). not (p b)) l

    go : (b : Bool) → Permᴰ (passed ++ failed) l → Permᴰ (cond b (a ∷ passed) passed ++ cond (not b) (a ∷ failed) failed) (a ∷ l)
    go true rest = Permᴰ.cons refl rest
    go false rest = Permᴰ.trans (Permᴰ.middle a passed failed) (Permᴰ.cons refl rest)

-- what is kept is in the list and passes
pub kept : {A : Type 0} (p : A → Bool) {e : A} (l : List A) → Memᴰ e (keep p l) → Memᴰ e l × (p e ≡ true)
unfolding keep
kept p [] m = absurd (Memᴰ.not-nil m)
kept p {e} (a ∷ l) m = go (p a) refl m (kept p l)
  where
    go : (b : Bool) → p a ≡ b → Memᴰ e (cond b (a ∷ keep p l) (keep p l)) → (Memᴰ e (keep p l) → Memᴰ e l × (p e ≡ true))
        → Memᴰ e (a ∷ l) × (p e ≡ true)
    go true q (Memᴰ.head s) rest = (Memᴰ.head s, ap p s ∙ q)
    go true q (Memᴰ.tail n) rest = let r = rest n in (Memᴰ.tail r.0, r.1)
    go false q n rest = let r = rest n in (Memᴰ.tail r.0, r.1)

-- what is in the list and passes is kept
pub keeps : {A : Type 0} (p : A → Bool) {e : A} {l : List A} → Memᴰ e l → p e ≡ true → Memᴰ e (keep p l)
unfolding keep
keeps p (Memᴰ.head s) q = rw (sym (ap p s) ∙ q) (Memᴰ.head s)
keeps p {e} (Memᴰ.tail {x = a} {xs = l} m) q = go (p a) (keeps p m q)
  where
    go : (b : Bool) → Memᴰ e (keep p l) → Memᴰ e (cond b (a ∷ keep p l) (keep p l))
    go true n = Memᴰ.tail n
    go false n = n

-- an element of one of a function's rows is in all the rows laid end to end
pub in_rows : {A B : Type 0} (f : A → List B) {u : A} {e : B} {l : List A} → Memᴰ u l → Memᴰ e (f u) → Memᴰ e (flatten (map f l))
unfolding flatten
in_rows {A} f {e = e} (Memᴰ.head {xs = l} s) m = Memᴰ.append_left (flatten (map f l)) (subst (λ (z : A). Memᴰ e (f z)) s m)
in_rows f (Memᴰ.tail {x = a} n) m = Memᴰ.append_right (f a) (in_rows f n m)

-- a row of a function with this element
pub record InRow {A B : Type 0} (f : A → List B) (e : B) : Type 0 where
  pub row : A
  pub inside : Memᴰ e (f row)

-- an element of all the rows is in one of them
pub row_of : {A B : Type 0} (f : A → List B) {e : B} (l : List A) → Memᴰ e (flatten (map f l)) → InRow f e
unfolding flatten
row_of f [] m = absurd (Memᴰ.not-nil m)
row_of f {e} (a ∷ l) m = go (Memᴰ.append_cases (f a) m) (row_of f l)
  where
    go : (Memᴰ e (f a)) ⊎ (Memᴰ e (flatten (map f l))) → (Memᴰ e (flatten (map f l)) → InRow f e) → InRow f e
    go (inl n) rest = record { row = a; inside = n }
    go (inr n) rest = rest n

-- a number that the test finds is in the list
elem_in : (x : ℕ) (l : List ℕ) → elem x l ≡ true → Memᴰ x l
unfolding elem
elem_in x [] e = absurd (true≢false (sym e))
elem_in x (y ∷ l) e = elem_cases x y l e (λ (q : x ≡ y). Memᴰ.head q) (λ (h : elem x l ≡ true). Memᴰ.tail (elem_in x l h))

-- and the other way
in_elem : {x : ℕ} {l : List ℕ} → Memᴰ x l → elem x l ≡ true
in_elem (Memᴰ.head {x = y} {xs = l} s) = rw s (elem_first y l)
in_elem {x} (Memᴰ.tail {x = y} {xs = l} m) = elem_later x y l (in_elem m)

-- a number below n is in the range
pub range_in : {i n : ℕ} → i < n → Memᴰ i (numbers_from 0 n)
range_in {i} {n} h = elem_in i (numbers_from 0 n) (range_elem i 0 n (omega arith) (omega arith))

-- and the other way
pub range_below : {i : ℕ} (n : ℕ) → Memᴰ i (numbers_from 0 n) → i < n
range_below {i} n m = omega (arith, elem_range i 0 n (in_elem m))

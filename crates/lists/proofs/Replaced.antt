-- Lists with elements replaced, and functions at each element.
use Prim.Native.Nat.{ℕ, zero, suc, ◌+◌, ◌<◌}
use native.Mathlib.Omega.{arith}
use mathlib.Core.Path.{◌≡◌, refl, sym, ap, ap₂, ◌∙◌}
use mathlib.Core.Bool.{Bool, true, false}
use mathlib.Core.List.{List, [], ◌∷◌, map}
use lib.ListN.{length, get_or, drop, set, replicate, length-set}
use lib.Dec.{eqb}
use lib.Seq.{set-set, set_comm, get_or-set_same, get_or-set_other}
use borrow.Author.Tests.{eqb-true, eqb-false}

-- a function at each element, one of them replaced
pub map_set : {A B : Type 0} (f : A → B) (l : List A) (i : ℕ) (y : A) → map f (set l i y) ≡ set (map f l) i (f y)
map_set f [] i y = refl
map_set f (x ∷ l) zero y = refl
map_set f (x ∷ l) (suc i) y = rw (map_set f l i y)

-- a function at each element, at one of them
pub map_at : {A B : Type 0} (f : A → B) (l : List A) (i : ℕ) (d : A) (e : B) → i < length l → get_or (map f l) i e ≡ f (get_or l i d)
map_at f [] i d e h = absurd (omega arith)
map_at f (x ∷ l) zero d e h = refl
map_at f (x ∷ l) (suc i) d e h = map_at f l i d e (omega arith)

-- a function over places with the same value
pub map_repeated : {A B : Type 0} (f : A → B) (n : ℕ) (a : A) → map f (replicate n a) ≡ replicate n (f a)
map_repeated f zero a = refl
map_repeated f (suc n) a = rw (map_repeated f n a)

-- a function that is the same at each element
pub map_replicate : {A B : Type 0} (f : A → B) (d : A) (y : B) (l : List A) (n : ℕ) → length l ≡ n → ((i : ℕ) → i < n → f (get_or l i d) ≡ y)
    → map f l ≡ replicate n y
map_replicate f d y [] zero long each = refl
map_replicate f d y [] (suc n) long each = absurd (omega arith)
map_replicate f d y (x ∷ l) zero long each = absurd (omega arith)
map_replicate {B = B} f d y (x ∷ l) (suc n) long each =
    ap₂ (λ (z : B) (r : List B). z ∷ r) (each 0 (omega arith)) (map_replicate f d y l n (omega arith) (λ i h. each (suc i) (omega arith)))

-- two functions that agree on the list
pub map_agree : {A B : Type 0} (f g : A → B) (d : A) (l : List A) → ((i : ℕ) → i < length l → f (get_or l i d) ≡ g (get_or l i d)) → map f l ≡ map g l
map_agree f g d [] same = refl
map_agree f g d (x ∷ l) same = rw (same 0 (omega arith), map_agree f g d l (λ i h. same (suc i) (omega arith)))

-- two elements replaced, and replaced again
pub set_two_again : {A : Type 0} (l : List A) (i j : ℕ) (a b c d : A) → (i ≡ j → ⊥) → set (set (set (set l i a) j b) i c) j d ≡ set (set l i c) j d
set_two_again l i j a b c d h = rw (set_comm l i j a b h, set-set (set l j b) i a c, ← set_comm l i j c b h, set-set (set l i c) j b d)

-- a list with two elements replaced is as long as it was
pub length_two : {A : Type 0} (l : List A) (i j : ℕ) (x y : A) → length (set (set l i x) j y) ≡ length l
length_two l i j x y = length-set (set l i x) j y ∙ length-set l i x

-- from an element that is replaced on
pub drop_set : {A : Type 0} (l : List A) (i : ℕ) (y : A) → i < length l → drop i (set l i y) ≡ y ∷ drop (suc i) l
drop_set [] i y h = absurd (omega arith)
drop_set (x ∷ l) zero y h = refl
drop_set (x ∷ l) (suc i) y h = drop_set l i y (omega arith)

-- what holds of the elements at some places, and of a new one, holds there where the new one replaces one of them
pub set_each : {A : Type 0} (Q : A → Type 0) (There : ℕ → Type 0) (l : List A) (i : ℕ) (y d : A) → Q y → ((j : ℕ) → There j → Q (get_or l j d))
    → (j : ℕ) → There j → Q (get_or (set l i y) j d)
set_each Q There [] i y d new old j h = old j h
set_each Q There (x ∷ l) zero y d new old zero h = new
set_each Q There (x ∷ l) zero y d new old (suc j) h = old (suc j) h
set_each Q There (x ∷ l) (suc i) y d new old zero h = old zero h
set_each Q There (x ∷ l) (suc i) y d new old (suc j) h = set_each Q (λ k. There (suc k)) l i y d new (λ k t. old (suc k) t) j h

-- the same of every place
pub each_set : {A : Type 0} (Q : A → Type 0) (l : List A) (i : ℕ) (y d : A) → Q y → ((j : ℕ) → Q (get_or l j d)) → (j : ℕ) → Q (get_or (set l i y) j d)
each_set Q l i y d new old j = set_each Q (λ k. Unit {0}) l i y d new (λ k there. old k) j tt

-- a list with one element replaced holds at a place the new element, or what it held before
pub set_cases : {A R : Type 0} (l : List A) (i j : ℕ) (y d x : A) → i < length l → get_or (set l i y) j d ≡ x
    → (j ≡ i → y ≡ x → R) → ((j ≡ i → ⊥) → get_or l j d ≡ x → R) → R
set_cases {R = R} l i j y d x h e here there = go (eqb j i) refl
  where
    go : (b : Bool) → eqb j i ≡ b → R
    go true q = let same = eqb-true j i q in here same (sym (get_or-set_same l i y d h) ∙ (rw same at e))
    go false q = there (eqb-false j i q) (sym (get_or-set_other l i j y d (eqb-false j i q)) ∙ e)

-- a list that has f at its first i places has it at one more where f i is put at place i
pub set_next : {A : Type 0} (f : ℕ → A) (l : List A) (i : ℕ) (y d : A) → i < length l → y ≡ f i → ((k : ℕ) → k < i → get_or l k d ≡ f k)
    → (k : ℕ) → k < i + 1 → get_or (set l i y) k d ≡ f k
set_next f l i y d h new old k below =
    set_cases l i k y d (get_or (set l i y) k d) h refl (λ same e. sym e ∙ new ∙ ap f (sym same)) (λ other e. sym e ∙ old k (omega (arith, other)))

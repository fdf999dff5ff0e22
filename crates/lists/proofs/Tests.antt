-- Facts about the tests of specs/Lists.antt and about ranges, sums and rows: what a test tells of the list, what it says of lists laid
-- end to end, and the pigeonhole, which counts distinct numbers by the places that they have.
use mathlib.Core.Path.{◌≡◌, refl, sym, ap, ◌∙◌}
use mathlib.Core.Bool.{Bool, true, false, cond, not, ◌||◌, or_assoc, true≢false}
use mathlib.Core.List.{List, [], ◌∷◌, ◌++◌, map, map-append, flatten, nil≢cons}
use Prim.Native.Nat.{ℕ, zero, suc, ◌+◌, ◌≤◌, ◌<◌, max}
use mathlib.Core.Logic.{◌≢◌}
use native.Mathlib.Nat.{le_of_suc-le-suc, not-suc-le-zero, not-le_of_lt, zero-add, add-zero, suc-add, add-suc}
use native.Mathlib.Omega.{arith}
use lib.Dec.{leb, ltb, eqb}
use lib.ListN.{length, get_or, length-append}
use lib.Seq.{get_or-append-add}
use borrow.Author.Tests.{ltb-false, leb-true, leb-false, eqb-true, eqb-false, not-false, le-ltb, le-leb, lt-leb, eq-eqb, ne_eqb}
use Rattle.lists.specs.Lists.{numbers_from, sums_from, elem, repeats, lacks, reaches, largest, falls_from}
use Rattle.lists.proofs.Or.{or_none, none_or, or_second, not_so}
use Rattle.lists.proofs.Replaced.{map_at}

-- a test, counted as 0 or 1, is at most n, if n is at least 1 where it holds
pub test_within : (b : Bool) (n : ℕ) → (b ≡ true → 1 ≤ n) → cond b 1 0 ≤ n
test_within true n h = h refl
test_within false n h = omega arith

-- A test of lists laid end to end.

pub elem_append : (x : ℕ) (a b : List ℕ) → elem x (a ++ b) ≡ (elem x a || elem x b)
unfolding elem
elem_append x [] b = refl
elem_append x (y ∷ a) b = rw (elem_append x a b) (sym (or_assoc (eqb x y) (elem x a) (elem x b)))

pub reaches_append : (limit : ℕ) (a b : List ℕ) → reaches limit (a ++ b) ≡ (reaches limit a || reaches limit b)
unfolding reaches
reaches_append limit [] b = refl
reaches_append limit (x ∷ a) b = rw (reaches_append limit a b) (sym (or_assoc (leb limit x) (reaches limit a) (reaches limit b)))

-- a row reaches no limit that the rows laid end to end do not reach
pub reaches_row : (limit : ℕ) (rows : List (List ℕ)) (u : ℕ) → reaches limit (flatten rows) ≡ false → reaches limit (get_or rows u []) ≡ false
unfolding reaches flatten
reaches_row limit [] u h = refl
reaches_row limit (row ∷ rows) zero h = (or_none (reaches limit row) (reaches limit (flatten rows)) (rw (reaches_append limit row (flatten rows)) at h)).0
reaches_row limit (row ∷ rows) (suc u) h =
    reaches_row limit rows u (or_none (reaches limit row) (reaches limit (flatten rows)) (rw (reaches_append limit row (flatten rows)) at h)).1

-- Membership.

-- the first number is in the list
pub elem_first : (x : ℕ) (l : List ℕ) → elem x (x ∷ l) ≡ true
unfolding elem
elem_first x l = rw (eq-eqb x x refl)

-- a number of the rest is in the list
pub elem_later : (x y : ℕ) (l : List ℕ) → elem x l ≡ true → elem x (y ∷ l) ≡ true
unfolding elem
elem_later x y l e = or_second (eqb x y) (elem x l) e

-- a number of the list is the first one or in the rest
pub elem_cases : {A : Type 0} (x y : ℕ) (l : List ℕ) → elem x (y ∷ l) ≡ true → (x ≡ y → A) → (elem x l ≡ true → A) → A
unfolding elem
elem_cases {A} x y l e here there = go (eqb x y) refl e
  where
    go : (b : Bool) → eqb x y ≡ b → (b || elem x l) ≡ true → A
    go true q f = here (eqb-true x y q)
    go false q f = there f

-- a number that is not in the list is neither the first one nor in the rest
pub elem_none : (x y : ℕ) (l : List ℕ) → elem x (y ∷ l) ≡ false → (eqb x y ≡ false) × (elem x l ≡ false)
unfolding elem
elem_none x y l e = or_none (eqb x y) (elem x l) e

-- Numbers that stand once.

-- the rest of a list without repeats has none, and the first number is not in it
pub repeats_none : (x : ℕ) (l : List ℕ) → repeats (x ∷ l) ≡ false → (elem x l ≡ false) × (repeats l ≡ false)
unfolding repeats
repeats_none x l e = or_none (elem x l) (repeats l) e

-- a new number in front repeats nothing
pub repeats_cons : (x : ℕ) (l : List ℕ) → elem x l ≡ false → repeats l ≡ false → repeats (x ∷ l) ≡ false
unfolding repeats
repeats_cons x l e f = none_or (elem x l) (repeats l) e f

-- two numbers that differ, the other way round
pub eqb_off_sym : (x y : ℕ) → eqb x y ≡ false → eqb y x ≡ false
eqb_off_sym x y e = ne_eqb y x (λ q. eqb-false x y e (sym q))

-- a new number at the end repeats nothing
pub repeats_append : (a : List ℕ) (x : ℕ) → repeats a ≡ false → elem x a ≡ false → repeats (a ++ x ∷ []) ≡ false
unfolding repeats elem
repeats_append [] x e f = refl
repeats_append (y ∷ a) x e f =
    let p = repeats_none y a e in
    let q = elem_none x y a f in
    let away : elem y (x ∷ []) ≡ false = none_or (eqb y x) false (eqb_off_sym x y q.0) refl in
    repeats_cons y (a ++ x ∷ []) (elem_append y a (x ∷ []) ∙ none_or (elem y a) (elem y (x ∷ [])) p.0 away) (repeats_append a x p.1 q.1)

-- a number that was there before repeats, whatever follows
pub repeats_again : (a : List ℕ) (x : ℕ) (b : List ℕ) → elem x a ≡ true → repeats (a ++ x ∷ b) ≡ true
unfolding repeats elem
repeats_again [] x b e = absurd (true≢false (sym e))
repeats_again (y ∷ a) x b e = elem_cases x y a e
    (λ (q : x ≡ y). rw (elem_append y a (x ∷ b), or_second (elem y a) (elem y (x ∷ b)) (rw q (elem_first y b))))
    (λ (f : elem x a ≡ true). or_second (elem y (a ++ x ∷ b)) (repeats (a ++ x ∷ b)) (repeats_again a x b f))

-- One list's numbers in another.

-- nothing is missing: each number of the first list is in the second
pub lacks_elem : (a b : List ℕ) → lacks a b ≡ false → (x : ℕ) → elem x a ≡ true → elem x b ≡ true
unfolding lacks elem
lacks_elem [] b e x f = absurd (true≢false (sym f))
lacks_elem (y ∷ a) b e x f =
    let p = or_none (not (elem y b)) (lacks a b) e in
    elem_cases x y a f
    (λ (q : x ≡ y). rw q (not-false (elem y b) p.0))
    (λ (g : elem x a ≡ true). lacks_elem a b p.1 x g)

-- each number of the first list is in the second: nothing is missing
pub elem_lacks : (a b : List ℕ) → ((x : ℕ) → elem x a ≡ true → elem x b ≡ true) → lacks a b ≡ false
unfolding lacks
elem_lacks [] b h = refl
elem_lacks (y ∷ a) b h = rw (h y (elem_first y a)) (elem_lacks a b (λ x e. h x (elem_later x y a e)))

-- The list without the first place of a number.
without : ℕ → List ℕ → List ℕ
without x [] = []
without x (y ∷ ys) = cond (eqb x y) ys (y ∷ without x ys)

-- one place is gone
without_length : (x : ℕ) (l : List ℕ) → elem x l ≡ true → suc (length (without x l)) ≡ length l
unfolding without elem
without_length x [] e = absurd (true≢false (sym e))
without_length x (y ∷ l) e = go (eqb x y) e (without_length x l)
  where
    go : (b : Bool) → (b || elem x l) ≡ true → (elem x l ≡ true → suc (length (without x l)) ≡ length l)
        → suc (length (cond b l (y ∷ without x l))) ≡ suc (length l)
    go true f rest = refl
    go false f rest = ap suc (rest f)

-- no other number is gone
without_elem : (x y : ℕ) (l : List ℕ) → eqb y x ≡ false → elem y (without x l) ≡ elem y l
unfolding without elem
without_elem x y [] e = refl
without_elem x y (z ∷ l) e = go (eqb x z) refl (without_elem x y l e)
  where
    go : (b : Bool) → eqb x z ≡ b → elem y (without x l) ≡ elem y l → elem y (cond b l (z ∷ without x l)) ≡ (eqb y z || elem y l)
    go true q rest = rw (← eqb-true x z q, e)
    go false q rest = rw rest

-- a number of the list is not the one that is not there
apart : (l : List ℕ) (x y : ℕ) → elem x l ≡ false → elem y l ≡ true → eqb y x ≡ false
apart l x y e f = ne_eqb y x (λ (q : y ≡ x). true≢false (sym (rw q at f) ∙ e))

-- The pigeonhole: distinct numbers that are all in a list are no more than its places.
pub distinct_within : (a b : List ℕ) → repeats a ≡ false → ((x : ℕ) → elem x a ≡ true → elem x b ≡ true) → length a ≤ length b
distinct_within [] b e h = omega arith
distinct_within (x ∷ a) b e h =
    let p = repeats_none x a e in
    let inside : (y : ℕ) → elem y a ≡ true → elem y (without x b) ≡ true = λ y f. without_elem x y b (apart a x y p.0 f) ∙ h y (elem_later y x a f) in
    let shorter = distinct_within a (without x b) p.1 inside in
    let gone = without_length x b (h x (elem_first x a)) in
    omega arith

-- Ranges.

pub length_range : (a n : ℕ) → length (numbers_from a n) ≡ n
unfolding numbers_from
length_range a zero = refl
length_range a (suc n) = ap suc (length_range (suc a) n)

-- the number at a place
pub get_or_range : (a n i d : ℕ) → i < n → get_or (numbers_from a n) i d ≡ a + i
unfolding numbers_from
get_or_range a zero i d h = absurd (not-suc-le-zero h)
get_or_range a (suc n) zero d h = omega arith
get_or_range a (suc n) (suc i) d h = get_or_range (suc a) n i d (le_of_suc-le-suc h) ∙ omega arith

-- a range in two parts
pub range_append : (a n m : ℕ) → numbers_from a n ++ numbers_from (a + n) m ≡ numbers_from a (n + m)
unfolding numbers_from
range_append a zero m = rw (add-zero, zero-add)
range_append a (suc n) m = rw (suc-add, add-suc, ← suc-add a n, range_append (suc a) n m)

-- a function at each number of a range, and at one more
pub map_range_more : {A : Type 0} (f : ℕ → A) (n : ℕ) → map f (numbers_from 0 n) ++ (f n ∷ []) ≡ map f (numbers_from 0 (n + 1))
unfolding numbers_from
map_range_more {A} f n =
    let last : map f (numbers_from (0 + n) 1) ≡ f n ∷ [] = rw (zero-add n) in
    ap (λ (l : List A). map f (numbers_from 0 n) ++ l) (sym last)
    ∙ sym (map-append f (numbers_from 0 n) (numbers_from (0 + n) 1))
    ∙ ap (map f) (range_append 0 n 1)

-- a function at each number of a range, at one of them
pub map_range_at : {A : Type 0} (f : ℕ → A) (n i : ℕ) (d : A) → i < n → get_or (map f (numbers_from 0 n)) i d ≡ f i
map_range_at f n i d h = map_at f (numbers_from 0 n) i 0 d (rw (length_range 0 n) h) ∙ ap f (get_or_range 0 n i 0 h ∙ zero-add i)

-- a function at each number of the range that starts one further on
pub map_range_next : {A : Type 0} (f : ℕ → A) (a n : ℕ) → map f (numbers_from (suc a) n) ≡ map (λ (x : ℕ). f (suc x)) (numbers_from a n)
unfolding numbers_from
map_range_next f a zero = refl
map_range_next {A} f a (suc n) = ap (λ (l : List A). f (suc a) ∷ l) (map_range_next f (suc a) n)

-- what is in a range
pub elem_range : (x a n : ℕ) → elem x (numbers_from a n) ≡ true → (a ≤ x) × (x < a + n)
unfolding numbers_from elem
elem_range x a zero e = absurd (true≢false (sym e))
elem_range x a (suc n) e = elem_cases x a (numbers_from (suc a) n) e
    (λ (q : x ≡ a). omega arith)
    (λ (f : elem x (numbers_from (suc a) n) ≡ true). let h = elem_range x (suc a) n f in omega arith)

-- and what is between its ends is in it
pub range_elem : (x a n : ℕ) → a ≤ x → x < a + n → elem x (numbers_from a n) ≡ true
unfolding numbers_from elem
range_elem x a zero h k = absurd (omega arith)
range_elem x a (suc n) h k = go (eqb x a) refl (range_elem x (suc a) n)
  where
    go : (b : Bool) → eqb x a ≡ b → (suc a ≤ x → x < suc a + n → elem x (numbers_from (suc a) n) ≡ true) → (b || elem x (numbers_from (suc a) n)) ≡ true
    go true q rest = refl
    go false q rest = let apart : x ≢ a = eqb-false x a q in rest (omega arith) (omega arith)

-- no number stands in a range twice
pub repeats_range : (a n : ℕ) → repeats (numbers_from a n) ≡ false
unfolding numbers_from repeats
repeats_range a zero = refl
repeats_range a (suc n) = none_or (elem a (numbers_from (suc a) n)) (repeats (numbers_from (suc a) n))
    (not_so (elem a (numbers_from (suc a) n)) (λ e. let h = elem_range a (suc a) n e in omega arith))
    (repeats_range (suc a) n)

-- Lists of numbers from 1 to m: the records of a file.

-- each number of the list is one of 1 to m
abbrev pub InRange : ℕ → List ℕ → Type 0
InRange m l = (x : ℕ) → elem x l ≡ true → (1 ≤ x) × (x ≤ m)

-- the empty list, a number more in front, a number more at the end, two lists end to end
pub in_range_nil : (m : ℕ) → InRange m []
unfolding elem
in_range_nil m x e = absurd (true≢false (sym e))

pub in_range_append : (m : ℕ) (a b : List ℕ) → InRange m a → InRange m b → InRange m (a ++ b)
in_range_append m a b h k x e = go (elem x a) refl (sym (elem_append x a b) ∙ e)
  where
    go : (t : Bool) → elem x a ≡ t → (t || elem x b) ≡ true → (1 ≤ x) × (x ≤ m)
    go true q f = h x q
    go false q f = k x f

pub in_range_cons : (m x : ℕ) (l : List ℕ) → 1 ≤ x → x ≤ m → InRange m l → InRange m (x ∷ l)
in_range_cons m x l h k r y e = elem_cases y x l e (λ (q : y ≡ x). omega arith) (r y)

pub in_range_one : (m x : ℕ) → 1 ≤ x → x ≤ m → InRange m (x ∷ [])
in_range_one m x h k = in_range_cons m x [] h k (in_range_nil m)

-- a list in the range has only numbers of it
pub in_range_within : (m : ℕ) (l : List ℕ) → InRange m l → (x : ℕ) → elem x l ≡ true → elem x (numbers_from 1 m) ≡ true
in_range_within m l h x e = let b = h x e in range_elem x 1 m b.0 (omega arith)

-- distinct numbers of 1 to m are at most m
pub distinct_short : (m : ℕ) (l : List ℕ) → repeats l ≡ false → InRange m l → length l ≤ m
distinct_short m l e h = rw (length_range 1 m) at (distinct_within l (numbers_from 1 m) e (in_range_within m l h))

-- a list with all numbers of 1 to m has at least m places
pub covers_long : (m : ℕ) (l : List ℕ) → lacks (numbers_from 1 m) l ≡ false → m ≤ length l
covers_long m l e = rw (length_range 1 m) at (distinct_within (numbers_from 1 m) l (repeats_range 1 m) (lacks_elem (numbers_from 1 m) l e))

-- so a list of fewer places lacks one
pub short_lacks : (m : ℕ) (l : List ℕ) → length l < m → lacks (numbers_from 1 m) l ≡ true
short_lacks m l h = go (lacks (numbers_from 1 m) l) refl
  where
    go : (b : Bool) → lacks (numbers_from 1 m) l ≡ b → b ≡ true
    go true q = refl
    go false q = absurd (not-le_of_lt h (covers_long m l q))

-- m distinct numbers of 1 to m are all of them
pub distinct_full : (m : ℕ) (l : List ℕ) → repeats l ≡ false → InRange m l → length l ≡ m → lacks (numbers_from 1 m) l ≡ false
distinct_full m l e h n = elem_lacks (numbers_from 1 m) l (λ x f. go x (elem_range x 1 m f) (elem x l) refl)
  where
    go : (x : ℕ) → (1 ≤ x) × (x < 1 + m) → (b : Bool) → elem x l ≡ b → b ≡ true
    go x k true q = refl
    go x k false q =
        let long : suc (length l) ≤ m = distinct_short m (x ∷ l) (repeats_cons x l q e) (in_range_cons m x l k.0 (omega arith) h) in
        absurd (omega arith)

-- distinct numbers of 1 to m, all of them: m places
pub full_length : (m : ℕ) (l : List ℕ) → repeats l ≡ false → InRange m l → lacks (numbers_from 1 m) l ≡ false → length l ≡ m
full_length m l e h f =
    let short = distinct_short m l e h in
    let long = covers_long m l f in
    omega arith

-- Numbers under a limit.

-- each number of the list is under the limit
pub reaches_elem : (limit : ℕ) (l : List ℕ) → reaches limit l ≡ false → (x : ℕ) → elem x l ≡ true → x < limit
unfolding reaches elem
reaches_elem limit [] e x f = absurd (true≢false (sym f))
reaches_elem limit (y ∷ l) e x f =
    let p = or_none (leb limit y) (reaches limit l) e in
    let low = leb-false limit y p.0 in
    elem_cases x y l f (λ (q : x ≡ y). omega arith) (reaches_elem limit l p.1 x)

-- and so is the number at each place
pub reaches_at : (limit : ℕ) (l : List ℕ) (i : ℕ) → reaches limit l ≡ false → i < length l → get_or l i 0 < limit
unfolding reaches
reaches_at limit [] i e h = absurd (omega arith)
reaches_at limit (x ∷ l) zero e h = leb-false limit x (or_none (leb limit x) (reaches limit l) e).0
reaches_at limit (x ∷ l) (suc i) e h = reaches_at limit l i (or_none (leb limit x) (reaches limit l) e).1 (omega arith)

-- a list of numbers under the limit
pub elem_reaches : (limit : ℕ) (l : List ℕ) → ((x : ℕ) → elem x l ≡ true → x < limit) → reaches limit l ≡ false
unfolding reaches
elem_reaches limit [] h = refl
elem_reaches limit (y ∷ l) h =
    none_or (leb limit y) (reaches limit l) (lt-leb limit y (h y (elem_first y l))) (elem_reaches limit l (λ x e. h x (elem_later x y l e)))

-- a list under a limit is under each greater one
pub reaches_weaken : (small large : ℕ) (l : List ℕ) → small ≤ large → reaches small l ≡ false → reaches large l ≡ false
reaches_weaken small large l h e = elem_reaches large l (λ x f. let k = reaches_elem small l e x f in omega arith)

-- what a function makes of each number is under the limit
pub map_reaches : (limit : ℕ) (f : ℕ → ℕ) (l : List ℕ) → reaches limit (map f l) ≡ false → (x : ℕ) → elem x l ≡ true → f x < limit
unfolding reaches elem
map_reaches limit f [] e x h = absurd (true≢false (sym h))
map_reaches limit f (y ∷ l) e x h =
    let p = or_none (leb limit (f y)) (reaches limit (map f l)) e in
    elem_cases x y l h (λ (q : x ≡ y). rw q (leb-false limit (f y) p.0)) (map_reaches limit f l p.1 x)

-- and the other way
pub reaches_map : (limit : ℕ) (f : ℕ → ℕ) (l : List ℕ) → ((x : ℕ) → elem x l ≡ true → f x < limit) → reaches limit (map f l) ≡ false
unfolding reaches
reaches_map limit f [] h = refl
reaches_map limit f (y ∷ l) h =
    none_or (leb limit (f y)) (reaches limit (map f l)) (lt-leb limit (f y) (h y (elem_first y l))) (reaches_map limit f l (λ x e. h x (elem_later x y l e)))

-- two tests against one limit that hold of the same numbers
leb_same : (limit x y : ℕ) → (limit ≤ x → limit ≤ y) → (limit ≤ y → limit ≤ x) → leb limit x ≡ leb limit y
leb_same limit x y there back = go (leb limit x) refl
  where
    go : (b : Bool) → leb limit x ≡ b → b ≡ leb limit y
    go true e = sym (le-leb limit y (there (leb-true limit x e)))
    go false e = sym (not_so (leb limit y) (λ f. let h = leb-false limit x e in let k = back (leb-true limit y f) in omega arith))

-- some number is the limit or more where the largest is
pub reaches_largest : (limit : ℕ) (l : List ℕ) → 1 ≤ limit → reaches limit l ≡ leb limit (largest l)
unfolding reaches largest
reaches_largest limit [] h = sym (lt-leb limit 0 h)
reaches_largest limit (x ∷ l) h = go (leb limit x) refl (reaches_largest limit l h)
  where
    go : (b : Bool) → leb limit x ≡ b → reaches limit l ≡ leb limit (largest l) → reaches limit (x ∷ l) ≡ leb limit (max x (largest l))
    go true e rest = rw e (sym (le-leb limit (max x (largest l)) (let k = leb-true limit x e in omega arith)))
    go false e rest =
        let low = leb-false limit x e in
        rw e (rest ∙ leb_same limit (largest l) (max x (largest l)) (λ k. omega arith) (λ k. omega arith))

-- the largest number of lists laid end to end
pub largest_append : (a b : List ℕ) → largest (a ++ b) ≡ max (largest a) (largest b)
unfolding largest
largest_append [] b = omega arith
largest_append (x ∷ a) b = omega (arith, largest_append a b)

-- Numbers that do not fall.

-- the first number, and the rest judged against it
pub falls_none : (x y : ℕ) (l : List ℕ) → falls_from x (y ∷ l) ≡ false → (x ≤ y) × (falls_from y l ≡ false)
unfolding falls_from
falls_none x y l e = let p = or_none (ltb y x) (falls_from y l) e in (ltb-false y x p.0, p.1)

-- Running sums and rows.

pub length_sums : (a : ℕ) (l : List ℕ) → length (sums_from a l) ≡ suc (length l)
unfolding sums_from
length_sums a [] = refl
length_sums a (x ∷ l) = ap suc (length_sums (a + x) l)

-- running sums do not fall
pub falls_sums : (x a : ℕ) (l : List ℕ) → x ≤ a → falls_from x (sums_from a l) ≡ false
unfolding sums_from falls_from
falls_sums x a [] h = none_or (ltb a x) false (le-ltb a x h) refl
falls_sums x a (y ∷ l) h = none_or (ltb a x) (falls_from a (sums_from (a + y) l)) (le-ltb a x h) (falls_sums a (a + y) l (omega arith))

-- they start where they start
pub first_sums : (a d : ℕ) (l : List ℕ) → get_or (sums_from a l) 0 d ≡ a
unfolding sums_from
first_sums a d [] = refl
first_sums a d (x ∷ l) = refl

-- the running sums of the lengths of rows end at the length of all the rows laid end to end
pub last_sums : (a d : ℕ) (rows : List (List ℕ)) → get_or (sums_from a (map length rows)) (length rows) d ≡ a + length (flatten rows)
unfolding sums_from flatten
last_sums a d [] = omega arith
last_sums a d (row ∷ rows) = last_sums (a + length row) d rows ∙ simp length-append (omega arith)

-- the first element of row u, by its place among all rows laid end to end
pub record RowStart (rows : List (List ℕ)) (a u x : ℕ) : Type 0 where
  pub place : ℕ
  pub offset : get_or (sums_from a (map length rows)) u 0 ≡ a + place
  pub below : place < length (flatten rows)
  pub is : get_or (flatten rows) place 0 ≡ x

-- a row with a first element
pub row_start : (rows : List (List ℕ)) (a u x : ℕ) (rest : List ℕ) → get_or rows u [] ≡ x ∷ rest → RowStart rows a u x
unfolding sums_from flatten
row_start [] a u x rest e = absurd (nil≢cons e)
row_start (row ∷ rows) a zero x rest e = rw e (record { place = 0; offset = omega arith; below = omega arith; is = refl })
row_start (row ∷ rows) a (suc u) x rest e =
    let s = row_start rows (a + length row) u x rest e in
    record {
      place = length row + s.place;
      offset = omega (arith, s.offset);
      below = omega (arith, s.below, length-append row (flatten rows));
      is = get_or-append-add row (flatten rows) s.place 0 ∙ s.is;
    }

-- an empty row starts where the next one does
pub row_none : (rows : List (List ℕ)) (a u : ℕ) → u < length rows → get_or rows u [] ≡ []
    → get_or (sums_from a (map length rows)) u 0 ≡ get_or (sums_from a (map length rows)) (suc u) 0
unfolding sums_from
row_none [] a u h e = absurd (omega arith)
row_none (row ∷ rows) a zero h e = rw e (omega (arith, first_sums (a + 0) 0 (map length rows)))
row_none (row ∷ rows) a (suc u) h e = row_none rows (a + length row) u (omega arith) e

-- a function at each number of each row
pub map_flatten : (f : ℕ → ℕ) (rows : List (List ℕ)) → flatten (map (λ (row : List ℕ). map f row) rows) ≡ map f (flatten rows)
unfolding flatten
map_flatten f [] = refl
map_flatten f (row ∷ rows) = rw (map_flatten f rows, map-append f row (flatten rows))

-- a row is no longer than all the rows laid end to end
pub row_short : (rows : List (List ℕ)) (u : ℕ) → length (get_or rows u []) ≤ length (flatten rows)
unfolding flatten
row_short [] u = omega arith
row_short (row ∷ rows) zero = let n = length-append row (flatten rows) in omega arith
row_short (row ∷ rows) (suc u) = let n = length-append row (flatten rows) in omega (arith, row_short rows u)

-- Lists: one laid over another, consecutive numbers, running sums, the largest number, sums of a weight,
-- values counted as 0 or 1, chains, pieces of a list, and tests that compute. Nothing here is about vertices,
-- edges, bytes or nodes: several crates' definitions are made of these.
use Rattle.std.specs.Prelude.{ℕ, zero, suc, ◌+◌, max, Bool, false, not, ◌||◌, leb, ltb, eqb}
use Rattle.std.specs.Prelude.{List, [], ◌∷◌, ◌++◌, length, take, drop}
use Rattle.std.proofs.Math.Option.{Option, none, some}

-- `new`, and then the rest of `old`: "Places past the need keep their contents." (§1.5)
unfoldable pub overlay : List ℕ → List ℕ → List ℕ
overlay new old = new ++ drop (length new) old

-- a, a + 1, .., the `count` numbers from a on
unfoldable pub numbers_from : ℕ → ℕ → List ℕ
numbers_from a zero = []
numbers_from a (suc count) = a ∷ numbers_from (suc a) count

-- a, a + x, a + x + y, ..: the running sums of a list, from a on, one more than the list has places (§2.5)
unfoldable pub sums_from : ℕ → List ℕ → List ℕ
sums_from a [] = a ∷ []
sums_from a (x ∷ xs) = a ∷ sums_from (a + x) xs

-- whether x stands in the list
unfoldable pub elem : ℕ → List ℕ → Bool
elem x [] = false
elem x (y ∷ ys) = eqb x y || elem x ys

-- whether some number stands in the list more than once
unfoldable pub repeats : List ℕ → Bool
repeats [] = false
repeats (x ∷ xs) = elem x xs || repeats xs

-- whether some number of the first list is missing from the second
unfoldable pub lacks : List ℕ → List ℕ → Bool
lacks [] list = false
lacks (x ∷ xs) list = not (elem x list) || lacks xs list

-- whether some number of the list is `limit` or more
unfoldable pub reaches : ℕ → List ℕ → Bool
reaches limit [] = false
reaches limit (x ∷ xs) = leb limit x || reaches limit xs

-- the largest number of the list, 0 where the list is empty
unfoldable pub largest : List ℕ → ℕ
largest [] = 0
largest (x ∷ xs) = max x (largest xs)

-- whether some number of the list is less than the one before it, the first one being judged against x
unfoldable pub falls_from : ℕ → List ℕ → Bool
falls_from x [] = false
falls_from x (y ∷ ys) = ltb y x || falls_from y ys

-- whether f holds of some element of the list
unfoldable pub any_of : {A : Type 0} → (A → Bool) → List A → Bool
any_of f [] = false
any_of f (x ∷ xs) = f x || any_of f xs

-- the sum of f over the list
unfoldable pub sum_of : {A : Type 0} → (A → ℕ) → List A → ℕ
sum_of f [] = 0
sum_of f (x ∷ xs) = f x + sum_of f xs

-- 1 for a value that is there, 0 for none
abbrev pub some_one : {A : Type 0} → Option A → ℕ
some_one none = 0
some_one (some x) = 1

-- "zero ends the chain": x, what is next after it, and so on, at most `steps` numbers (§2.3)
unfoldable pub chain_from : (ℕ → ℕ) → ℕ → ℕ → List ℕ
chain_from next zero x = []
chain_from next (suc steps) zero = []
chain_from next (suc steps) (suc x) = suc x ∷ chain_from next steps (next (suc x))

-- a list cut into pieces of `size` places, the last one with what is left; at most `count` pieces
unfoldable pub chunks_in : {A : Type 0} → ℕ → ℕ → List A → List (List A)
chunks_in size zero l = []
chunks_in size (suc count) [] = []
chunks_in size (suc count) (x ∷ l) = take size (x ∷ l) ∷ chunks_in size count (drop size (x ∷ l))

-- all pieces: at most as many as the list has places (§9.2)
unfoldable pub chunks : {A : Type 0} → ℕ → List A → List (List A)
chunks size l = chunks_in size (length l) l

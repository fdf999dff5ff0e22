-- Facts about `first`: how the number of a list of refusals follows from its parts, so that a proof takes an order of refusals test by test.
use mathlib.Core.Path.{◌≡◌, refl}
use mathlib.Core.Bool.{Bool, true, false, ◌&&◌, and-eq-true_iff}
use mathlib.Core.List.{List, [], ◌∷◌, ◌++◌}
use Prim.Native.Nat.{ℕ, ◌<◌}
use native.Mathlib.Omega.{arith}
use Rattle.numbers.specs.Refusals.{Refusal, ◌gives◌, first}

-- no refusal of the list has the number of success
abbrev pub Positive : List Refusal → Type 0
Positive [] = Unit {0}
Positive (test gives number ∷ rest) = (0 < number) × Positive rest

-- a test that holds gives its number
pub first_stop : (test : Bool) (number : ℕ) (rest : List Refusal) → test ≡ true → first (test gives number ∷ rest) ≡ number
unfolding first
first_stop test number rest e = rw e

-- a test that fails leaves the number to the rest
pub first_skip : (test : Bool) (number : ℕ) (rest : List Refusal) → test ≡ false → first (test gives number ∷ rest) ≡ first rest
unfolding first
first_skip test number rest e = rw e

-- where nothing is refused, each test fails and the rest refuses nothing
pub first_passed : (test : Bool) (number : ℕ) (rest : List Refusal) → 0 < number → first (test gives number ∷ rest) ≡ 0 → (test ≡ false) × (first rest ≡ 0)
unfolding first
first_passed true number rest h e = absurd (omega arith)
first_passed false number rest h e = (refl, e)

-- what the first part does not refuse is left to the second
pub first_append : (a b : List Refusal) → Positive a → first a ≡ 0 → first (a ++ b) ≡ first b
unfolding first
first_append [] b p e = refl
first_append (true gives number ∷ a) b p e = absurd (omega arith)
first_append (false gives number ∷ a) b p e = first_append a b p.1 e

-- what the first part refuses has its number
pub first_append_stop : (a b : List Refusal) → 0 < first a → first (a ++ b) ≡ first a
unfolding first
first_append_stop [] b h = absurd (omega arith)
first_append_stop (true gives number ∷ a) b h = refl
first_append_stop (false gives number ∷ a) b h = first_append_stop a b h

-- where nothing is refused, neither part refuses anything
pub first_split : (a b : List Refusal) → Positive a → first (a ++ b) ≡ 0 → (first a ≡ 0) × (first b ≡ 0)
unfolding first
first_split [] b p e = (refl, e)
first_split (true gives number ∷ a) b p e = absurd (omega arith)
first_split (false gives number ∷ a) b p e = first_split a b p.1 e

-- where neither part refuses anything, nothing is refused
pub first_join : (a b : List Refusal) → Positive a → first a ≡ 0 → first b ≡ 0 → first (a ++ b) ≡ 0
first_join a b p e f = rw (first_append a b p e) f

-- every number of the list is below a limit
abbrev pub Under : ℕ → List Refusal → Type 0
Under limit [] = Unit {0}
Under limit (test gives number ∷ rest) = (number < limit) × Under limit rest

-- so the list's number is, too
pub first_under : (limit : ℕ) → 0 < limit → (l : List Refusal) → Under limit l → first l < limit
unfolding first
first_under limit p [] h = p
first_under limit p (true gives number ∷ rest) h = h.0
first_under limit p (false gives number ∷ rest) h = first_under limit p rest h.1

-- whether a test holds of each number of a list of refusals
abbrev pub each_number : (ℕ → Bool) → List Refusal → Bool
each_number f [] = true
each_number f (test gives number ∷ rest) = f number && each_number f rest

-- then it holds of the list's number, if that is not 0
pub first_each : (f : ℕ → Bool) (l : List Refusal) → each_number f l ≡ true → (first l ≡ 0 → ⊥) → f (first l) ≡ true
unfolding first
first_each f [] e h = absurd (h refl)
first_each f (true gives number ∷ rest) e h = ((and-eq-true_iff (f number) (each_number f rest)).0 e).0
first_each f (false gives number ∷ rest) e h = first_each f rest ((and-eq-true_iff (f number) (each_number f rest)).0 e).1 h

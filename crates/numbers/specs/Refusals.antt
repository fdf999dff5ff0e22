-- An order of refusals as data: a list of tests with their numbers, to be held beside document 01's "Order" line.
use Rattle.std.specs.Prelude.{ℕ, Bool, cond, List, [], ◌∷◌}
use Rattle.numbers.specs.Numbers.{success}

infix 75 ◌gives◌
-- a test, and the number that a call answers where the test holds and none before it does
pub data Refusal : Type 0 where
  ◌gives◌ : Bool → ℕ → Refusal

-- the number of the first test that holds; 0 where none does (§10.2)
unfoldable pub first : List Refusal → ℕ
first [] = success
first (test gives number ∷ rest) = cond test number (first rest)

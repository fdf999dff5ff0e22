-- Chains: where one ends, goes on, and has no more with more steps.
use Prim.Native.Nat.{ℕ, zero, suc, ◌≤◌, ◌<◌}
use native.Mathlib.Omega.{arith}
use mathlib.Core.Path.{◌≡◌, refl, ap}
use mathlib.Core.List.{List, [], ◌∷◌}
use lib.ListN.{length}
use Rattle.lists.specs.Lists.{chain_from}

module _ (next : ℕ → ℕ) where
  -- a chain ends at 0
  pub chain_none : (steps : ℕ) → chain_from next steps 0 ≡ []
  unfolding chain_from
  chain_none zero = refl
  chain_none (suc steps) = refl

  -- and goes on at any other number
  pub chain_some : (steps x : ℕ) → (x ≡ 0 → ⊥) → chain_from next (suc steps) x ≡ x ∷ chain_from next steps (next x)
  unfolding chain_from
  chain_some steps zero h = absurd (h refl)
  chain_some steps (suc x) h = refl

  -- a chain that ends before its steps do is the same with more steps
  pub chain_longer : (steps more x : ℕ) → length (chain_from next steps x) < steps → steps ≤ more → chain_from next more x ≡ chain_from next steps x
  unfolding chain_from
  chain_longer zero more x h k = absurd (omega arith)
  chain_longer (suc steps) zero x h k = absurd (omega arith)
  chain_longer (suc steps) (suc more) zero h k = refl
  chain_longer (suc steps) (suc more) (suc x) h k = ap (λ (l : List ℕ). suc x ∷ l) (chain_longer steps more (next (suc x)) (omega arith) (omega arith))

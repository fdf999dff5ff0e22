-- The condition of a right result with no path in it, link by link: what a checker can test. Certificate.antt shows that it is the same condition.
use mathlib.Core.Path.{◌≡◌}
use mathlib.Core.Bool.{true}
use mathlib.Core.Option.{none, some}
use Prim.Native.Nat.{ℕ, suc, ◌≤◌, ◌<◌}
use lib.ListN.{length}
use Rattle.graph.specs.Graph.{Graph, edges}
use Rattle.model.specs.Paths.{edge_target, Labels, distance_of, parent_of, is_set, Nearer}

-- of `RightResult`, link by link
pub record Certified (g : Graph) (s : ℕ) (x : Labels) : Type 0 where
  pub distances_all : length x.distances ≡ length g
  pub parents_all : length x.parents ≡ length g
  pub source : distance_of x s ≡ some 0
  pub own_parent : parent_of x s ≡ some s
  pub onward : (u d i : ℕ) → u < length g → distance_of x u ≡ some d → i < length (edges g u)
      → (k : ℕ) × (distance_of x (edge_target g u i) ≡ some k) × (k ≤ suc d)
  pub no_parent_lem : (v : ℕ) → v < length g → distance_of x v ≡ none → parent_of x v ≡ none
  pub parent : (v : ℕ) → v < length g → (v ≡ s → ⊥) → is_set (distance_of x v) ≡ true → (p : ℕ) × (parent_of x v ≡ some p) × Nearer g x p v

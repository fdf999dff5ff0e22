-- The link-by-link run, B of demand 3: no workers, and each layer's links in any one order.
use Rattle.std.specs.Prelude.{◌≡◌, Bool, true, false, cond, ◌||◌, ℕ, suc, eqb, length}
use mathlib.Core.List.{List, [], ◌∷◌, map, flatten, foldl, Permᴰ}
use Rattle.std.proofs.Math.Option.{Option, none, some}
use Rattle.lists.specs.Lists.{numbers_from}
use Rattle.graph.specs.Graph.{Graph, edges}
use Rattle.model.specs.Paths.{edge_target, Labels, distance_of, is_set}
use Rattle.model.specs.Table.{mark, name}

-- one occurrence of a link: the vertex it starts at and its place in that row
pub record EdgeAt : Type 0 where
  pub start : ℕ
  pub place : ℕ

-- all links that start at u
unfoldable pub edges_from : Graph → ℕ → List EdgeAt
edges_from g u = map (λ (i : ℕ). record { start = u; place = i }) (numbers_from 0 (length (edges g u)))

-- whether this is distance d
unfoldable pub is_at : ℕ → Option ℕ → Bool
is_at d none = false
is_at d (some k) = eqb k d

-- "every link starting at a device of distance d once", by this run's own distances (§7.7)
unfoldable pub layer_edges : Graph → ℕ → Labels → List EdgeAt
layer_edges g d x =
    flatten (map (λ (u : ℕ). cond (is_at d (distance_of x u)) (edges_from g u) []) (numbers_from 0 (length g)))

-- "each link whose target is unset gives it distance d + 1 and its start as parent, before the next link is looked at"
-- (§7.7)
unfoldable pub follow : Graph → ℕ → Labels → EdgeAt → Labels
follow g d x e =
    let t = edge_target g e.start e.place in
    cond (is_set (distance_of x t)) x (name e.start t (mark d t x))

-- whether some vertex has distance d
unfoldable pub any_at : ℕ → List (Option ℕ) → Bool
any_at d [] = false
any_at d (x ∷ xs) = is_at d x || any_at d xs

-- "takes d from 0 upwards and ends at the first d that no device has. For each d it takes every link .. once, in
-- any one order, which needn't keep a device's links together": from distance d and the labels x on, it ends
-- with the labels y (§7.7)
pub data Serial (g : Graph) : ℕ → Labels → Labels → Type 0 where
  ended : {d : ℕ} {x : Labels} → any_at d x.distances ≡ false → Serial g d x x
  layer : {d : ℕ} {x y : Labels} → any_at d x.distances ≡ true
      → (order : List EdgeAt) → Permᴰ order (layer_edges g d x)
      → Serial g (suc d) (foldl (follow g d) x order) y → Serial g d x y

-- Distances of a graph by its paths alone, and what it takes for distances and parents to be right.
use Rattle.std.specs.Prelude.{◌≡◌, Bool, true, false, List, ℕ, suc, ◌≤◌, ◌<◌, length, get_or}
use Rattle.std.proofs.Math.Option.{Option, none, some}
use Rattle.graph.specs.Graph.{Graph, edges}

-- the target of edge i of u
abbrev pub edge_target : Graph → ℕ → ℕ → ℕ
edge_target g u i = get_or (edges g u) i 0

-- a link from u to t: one occurrence, by its place in u's row ("Repeated links and links to oneself are allowed")
-- (§2.4)
pub record Joins (g : Graph) (u t : ℕ) : Type 0 where
  pub place : ℕ
  pub there : place < length (edges g u)
  pub leads : edge_target g u place ≡ t

-- a path of so many links from s (§7.1)
pub data Walk (g : Graph) (s : ℕ) : ℕ → ℕ → Type 0 where
  stay : Walk g s s 0
  onward : {u t k : ℕ} → Walk g s u k → Joins g u t → Walk g s t (suc k)

-- "shortest path from the source has d links" (§7.1)
pub record Distance (g : Graph) (s t d : ℕ) : Type 0 where
  pub walk : Walk g s t d
  pub least : (k : ℕ) → Walk g s t k → d ≤ k

-- distances and parents of all vertices (document 01's hop map); `none` is document 01's unset (§6.1)
pub record Labels : Type 0 where
  pub distances : List (Option ℕ)
  pub parents : List (Option ℕ)

-- the distance of v
abbrev pub distance_of : Labels → ℕ → Option ℕ
distance_of x v = get_or x.distances v none

-- the parent of v
abbrev pub parent_of : Labels → ℕ → Option ℕ
parent_of x v = get_or x.parents v none

-- whether a label is set
abbrev pub is_set : Option ℕ → Bool
is_set none = false
is_set (some x) = true

-- p is nearer than v by one link: "has a link to its device and a distance one less" (§8.1)
pub record Nearer (g : Graph) (x : Labels) (p v : ℕ) : Type 0 where
  pub edge : Joins g p v
  pub depth : ℕ
  pub here : distance_of x p ≡ some depth
  pub there : distance_of x v ≡ some (suc depth)

-- the checker's condition: "distances are right for every device, the source is its own parent, unreached
-- devices have an unset parent, and each other parent has a link to its device and a distance one less" (§8.1)
pub record RightResult (g : Graph) (s : ℕ) (x : Labels) : Type 0 where
  -- a place for each device in both lists
  pub distances_all : length x.distances ≡ length g
  pub parents_all : length x.parents ≡ length g
  -- "distances are right for every device": a set one is the length of a shortest path ..
  pub shortest : (v d : ℕ) → v < length g → distance_of x v ≡ some d → Distance g s v d
  -- .. and an unset one means that no path leads there
  pub unreached : (v k : ℕ) → v < length g → distance_of x v ≡ none → Walk g s v k → ⊥
  -- "the source is its own parent"
  pub own_parent : parent_of x s ≡ some s
  -- "unreached devices have an unset parent"
  pub no_parent_lem : (v : ℕ) → v < length g → distance_of x v ≡ none → parent_of x v ≡ none
  -- "each other parent has a link to its device and a distance one less"
  pub parent : (v : ℕ) → v < length g → (v ≡ s → ⊥) → is_set (distance_of x v) ≡ true
      → (p : ℕ) × (parent_of x v ≡ some p) × Nearer g x p v

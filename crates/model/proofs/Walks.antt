-- Facts about paths and distances: where they end, that a distance is unique, one link more, the last link of a path, and a vertex of each layer
-- up to a vertex's own.
use mathlib.Core.Path.{◌≡◌, refl}
use Prim.Native.Nat.{ℕ, zero, suc, ◌+◌, ◌-◌, ◌≤◌, ◌<◌}
use native.Mathlib.Nat.{zero-add, suc-add}
use native.Mathlib.Omega.{arith}
use lib.ListN.{length}
use Rattle.lists.proofs.Tests.{reaches_row, reaches_at}
use Rattle.graph.specs.Graph.{Graph, edges, targets_of}
use Rattle.model.specs.Paths.{edge_target, Joins, Walk, stay, onward, Distance}
use Rattle.model.proofs.Sound.{Ground}

module _ {g : Graph} {source : ℕ} (ground : Ground g source) where
  -- every target is a vertex
  pub target_below : (u i : ℕ) → i < length (edges g u) → edge_target g u i < length g
  unfolding targets_of edges
  target_below u i h = reaches_at (length g) (edges g u) i (reaches_row (length g) g u ground.below) h

  -- every path ends at a vertex
  pub walk_below : {v k : ℕ} → Walk g source v k → v < length g
  walk_below stay = ground.starts
  walk_below (onward {u = u} w e) = rw e.leads at (target_below u e.place e.there)

-- the last link of a path of d + 1 links, and the path before it
pub record LastEdge (g : Graph) (source v d : ℕ) : Type 0 where
  pub before : ℕ
  pub walk : Walk g source before d
  pub edge : Joins g before v

module _ {g : Graph} {source : ℕ} where
  -- a path to u and a link of u's row make a path of one link more
  pub walk_more : {u k : ℕ} → Walk g source u k → (i : ℕ) → i < length (edges g u) → Walk g source (edge_target g u i) (suc k)
  walk_more w i there = onward w (record { place = i; there = there; leads = refl })

  -- a path of no link ends at the source
  pub walk_zero : {v k : ℕ} → Walk g source v k → k ≡ 0 → v ≡ source
  walk_zero stay e = refl
  walk_zero (onward w j) e = absurd (omega arith)

  -- a path of one link more than d has a last link
  pub walk_last : {v k : ℕ} → Walk g source v k → (d : ℕ) → k ≡ suc d → LastEdge g source v d
  walk_last stay d e = absurd (omega arith)
  walk_last (onward {u = u} {k = k} w j) d e = let same : k ≡ d = omega arith in record { before = u; walk = rw same at w; edge = j }

  -- a distance is the only one
  pub distance_unique : {v k j : ℕ} → Distance g source v k → Distance g source v j → k ≡ j
  distance_unique {k = k} {j = j} a b = omega (arith, a.least j b.walk, b.least k a.walk)

  -- the source's distance is 0
  pub distance_source : Distance g source source 0
  distance_source = record { walk = stay; least = λ k w. omega arith }

  -- a shortest path is one up to its last link too
  distance_before : {v d : ℕ} → Distance g source v (suc d) → (u : ℕ) × Distance g source u d
  distance_before {d = d} far =
      let last = walk_last far.walk d refl in
      (last.before, record { walk = last.walk; least = λ k w. omega (arith, far.least (suc k) (onward w last.edge)) })

  -- so there is a vertex j links nearer
  distance_nearer : (j d : ℕ) {v : ℕ} → Distance g source v (j + d) → (u : ℕ) × Distance g source u d
  distance_nearer zero d {v} far = (v, rw (zero-add d) at far)
  distance_nearer (suc j) d far = distance_nearer j d (distance_before (rw (suc-add j d) at far)).1

  -- and one of each layer up to a vertex's own
  pub distance_up_to : {v d : ℕ} → Distance g source v d → (h : ℕ) → h ≤ d → (u : ℕ) × Distance g source u h
  distance_up_to {d = d} far h low = let more : d ≡ (d - h) + h = omega arith in distance_nearer (d - h) h (rw more at far)

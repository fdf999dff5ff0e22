-- The rows that offsets and targets stand for, vertex by vertex and edge by edge, with no pass over the lists.
use mathlib.Core.Path.{◌≡◌, sym, ap, ◌∙◌, subst}
use mathlib.Core.List.{List}
use Prim.Native.Nat.{ℕ, suc, ◌+◌, ◌-◌, ◌≤◌, ◌<◌}
use native.Mathlib.Numerals.{add-one}
use native.Mathlib.Omega.{arith}
use lib.ListN.{length, get_or, take, drop}
use lib.Seq.{get_or-take, get_or-drop}
use Rattle.lists.proofs.Tests.{reaches_at}
use Rattle.graph.specs.Graph.{edges, offsets_of, rows_of}
use Rattle.graph.specs.Write.{row_count}
use Rattle.graph.specs.Steps.{GraphRows}
use Rattle.graph.proofs.Bridge.{Rows, graph_rows, offsets_count, length_rows, row_at, offsets_rise, offsets_end, row_between}

module _ {offsets targets : List ℕ} {n : ℕ} (ground : GraphRows offsets targets n) where
  -- the offsets don't fall and end where the targets do
  ground_rows : Rows offsets targets
  ground_rows =
      let g = rows_of offsets targets in
      subst (λ (l : List ℕ). Rows l targets) (sym ground.starts) (subst (λ (l : List ℕ). Rows (offsets_of g) l) (sym ground.ends) (graph_rows g))

  -- a row for each vertex
  ground_count : row_count offsets ≡ n
  ground_count = sym (length_rows offsets targets) ∙ ground.count

  -- a vertex has a row
  has_row : (u : ℕ) → u < n → u < row_count offsets
  has_row u h = omega (arith, ground_count)

  -- one offset more than vertices
  pub offsets_long : length offsets ≡ suc n
  offsets_long = offsets_count offsets ground_rows.some ∙ ap suc ground_count

  -- the edges of u are the targets from its offset up to the next one
  row_is : (u : ℕ) → u < n → edges (rows_of offsets targets) u ≡ take (get_or offsets (u + 1) 0 - get_or offsets u 0) (drop (get_or offsets u 0) targets)
  row_is u h = rw (add-one u) (row_at offsets targets u (has_row u h))

  -- the offsets of a vertex don't fall
  pub rows_rise : (u : ℕ) → u < n → get_or offsets u 0 ≤ get_or offsets (u + 1) 0
  rows_rise u h = rw (add-one u) (offsets_rise offsets targets ground_rows u (has_row u h))

  -- no row passes the end of the targets
  pub rows_within : (u : ℕ) → u < n → get_or offsets (u + 1) 0 ≤ length targets
  rows_within u h = rw (add-one u) (offsets_end offsets targets ground_rows u (has_row u h))

  -- from the offset of a vertex its edges lead to the next offset
  pub row_ends : (u : ℕ) → u < n → get_or offsets u 0 + length (edges (rows_of offsets targets) u) ≡ get_or offsets (u + 1) 0
  row_ends u h =
      ap (λ (l : List ℕ). get_or offsets u 0 + length l) (row_is u h)
      ∙ row_between (get_or offsets u 0) (get_or offsets (u + 1) 0) targets (rows_rise u h) (rows_within u h)

  -- the target of an edge stands so far behind the offset
  pub row_target : (u i : ℕ) → u < n → i < length (edges (rows_of offsets targets) u)
      → get_or (edges (rows_of offsets targets) u) i 0 ≡ get_or targets (get_or offsets u 0 + i) 0
  row_target u i h k =
      ap (λ (l : List ℕ). get_or l i 0) (row_is u h)
      ∙ get_or-take (get_or offsets (u + 1) 0 - get_or offsets u 0) (drop (get_or offsets u 0) targets) i 0 (omega (arith, row_ends u h))
      ∙ get_or-drop (get_or offsets u 0) targets i 0

  -- every target is a vertex
  pub target_below : (e : ℕ) → e < length targets → get_or targets e 0 < n
  target_below e h = reaches_at n targets e ground.below h

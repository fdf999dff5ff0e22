-- The graph of the theory: a row for each vertex (document 01: device), with the targets of its edges (links) in order.
-- Offsets and targets are the same rows laid end to end (compressed sparse rows).
use Rattle.std.specs.Prelude.{ℕ, ◌-◌, length, get_or, take, drop}
use mathlib.Core.List.{List, [], ◌∷◌, map, flatten}
use Rattle.lists.specs.Lists.{sums_from}

-- a row of targets for each vertex (§2.5)
abbrev pub Graph : Type 0
Graph = List (List ℕ)

-- the targets of the edges that start at u, in order (§2.5)
unfoldable pub edges : Graph → ℕ → List ℕ
edges g u = get_or g u []

-- "offsets (n + 1 places, first 0, last m)": where each row starts, and where the last one ends (§2.5)
unfoldable pub offsets_of : Graph → List ℕ
offsets_of g = sums_from 0 (map length g)

-- "targets (m places), device by device" (§2.5)
unfoldable pub targets_of : Graph → List ℕ
targets_of g = flatten g

-- the rows that offsets and targets stand for: row u is the part of the targets from its offset up to the next one
-- (§2.5)
unfoldable pub rows_of : List ℕ → List ℕ → Graph
rows_of [] targets = []
rows_of (a ∷ []) targets = []
rows_of (a ∷ b ∷ offsets) targets = take (b - a) (drop a targets) ∷ rows_of (b ∷ offsets) targets

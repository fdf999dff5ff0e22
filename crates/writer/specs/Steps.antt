-- What the inner steps of writing take for granted of each other: rows that pass the test of 11, and the index
-- that a chain goes on with.
use Rattle.std.specs.Prelude.{ℕ, suc, ◌+◌, ◌≤◌, false, cond, ◌≡◌, List, eqb, length}
use Rattle.numbers.specs.Numbers.{max_vertices, max_edges}
use Rattle.graph.specs.Write.{malformed}

-- "zero ends the chain": the index of the record that stands after k records, or 0 where its row ends there
unfoldable pub index_after : ℕ → ℕ → ℕ
index_after k end = cond (eqb k end) 0 (suc k)

-- rows that pass the test of 11, n of them
pub record WellFormed (offsets targets : List ℕ) (n : ℕ) : Type 0 where
  pub vertices : length offsets ≡ n + 1
  pub few_vertices : n ≤ max_vertices
  pub few_edges : length targets ≤ max_edges
  pub clean : malformed offsets targets ≡ false

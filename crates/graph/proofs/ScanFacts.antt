-- The scan's refusals, one fact for each way through them, by the largest index and the largest target: 4, 3, and what passing them says of heads,
-- nexts and targets.
use mathlib.Core.Path.{◌≡◌}
use mathlib.Core.List.{List, ◌++◌}
use Prim.Native.Nat.{ℕ, suc, ◌+◌, ◌≤◌, ◌<◌, max}
use native.Mathlib.Omega.{arith}
use lib.Dec.{leb}
use borrow.Author.Tests.{le-leb, lt-leb}
use Rattle.numbers.specs.Numbers.{success, bad_target, bad_index}
use Rattle.numbers.specs.Refusals.{first}
use Rattle.lists.specs.Lists.{reaches, largest}
use Rattle.lists.proofs.Tests.{reaches_largest, largest_append}
use Rattle.graph.specs.File.{words_at, vertex_count, edge_count, head_index, next, heads, record_nexts, record_targets}
use Rattle.graph.specs.Read.{scan_refusals}
use Rattle.graph.specs.Steps.{Sized, Scanned}
use Rattle.graph.proofs.WellFormed.{scanned_bounded, head_low, next_low}

module _ (file : List ℕ) {n m : ℕ} (s : Sized file n m) {index target : ℕ}
    (indices : index ≡ max (largest (words_at file 2 1 n)) (largest (words_at file (n + 3) 2 m)))
    (targets : target ≡ max 0 (largest (words_at file (n + 2) 2 m))) where
  -- the test for 4
  index_test : reaches (suc (edge_count file)) (heads file ++ record_nexts file) ≡ leb (suc m) index
  unfolding heads record_nexts
  index_test = rw (
    reaches_largest (suc (edge_count file)) (heads file ++ record_nexts file) (omega arith),
    largest_append (heads file) (record_nexts file),
    ← s.vertices,
    ← s.edges,
    indices,
  )

  -- the test for 3
  target_test : reaches (vertex_count file) (record_targets file) ≡ leb n target
  unfolding record_targets
  target_test =
      let same : target ≡ largest (words_at file (n + 2) 2 m) = omega arith in
      rw (← s.vertices, ← s.edges, reaches_largest n (words_at file (n + 2) 2 m) s.some, same)

  -- 4: a head or next above m
  pub scan_index : m < index → bad_index ≡ first (scan_refusals file)
  unfolding first scan_refusals
  scan_index h = rw (index_test, le-leb (suc m) index h)

  module _ (low : index ≤ m) where
    -- 3: a target of n or more
    pub scan_target : n ≤ target → bad_target ≡ first (scan_refusals file)
    unfolding first scan_refusals
    scan_target h = rw (index_test, lt-leb (suc m) index (omega arith), target_test, le-leb n target h)

    -- the scan passes
    pub scan_passes : target < n → success ≡ first (scan_refusals file)
    unfolding first scan_refusals
    scan_passes h = rw (index_test, lt-leb (suc m) index (omega arith), target_test, lt-leb n target h)

-- What passing the scan says, with the n and m of the header.
module _ (file : List ℕ) {n m : ℕ} (s : Scanned file n m) where
  pub head_within : (u : ℕ) → u < n → head_index file u ≤ m
  head_within u h = rw s.sized.edges (head_low file (scanned_bounded s) u (rw s.sized.vertices at h))

  pub next_within : (r : ℕ) → 1 ≤ r → r ≤ m → next file r ≤ m
  next_within r h k = rw s.sized.edges (next_low file (scanned_bounded s) r h (rw s.sized.edges at k))

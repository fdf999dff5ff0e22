-- The header's refusals, one fact for each way through them: 1 (under 4), 2, 1 (length), and what passing them says of the file.
use mathlib.Core.Path.{◌≡◌}
use mathlib.Core.Bool.{true, false}
use mathlib.Core.List.{List}
use Prim.Native.Nat.{ℕ, ◌≤◌, ◌<◌}
use lib.ListN.{length}
use borrow.Author.Tests.{lt-ltb, le-ltb, eq-eqb, ne_eqb}
use Rattle.numbers.specs.Numbers.{bad_length, bad_size}
use Rattle.numbers.specs.Refusals.{first}
use Rattle.graph.specs.File.{vertex_count, edge_count, file_length}
use Rattle.graph.specs.Read.{header_refusals, outside_sizes}
use Rattle.graph.specs.Steps.{Sized}
use Rattle.graph.proofs.WellFormed.{header_sized}

-- 1: under 4 bytes
pub header_under_four : (file : List ℕ) → length file < 4 → first (header_refusals file) ≡ bad_length
unfolding header_refusals first
header_under_four file h = rw (lt-ltb (length file) 4 h)

module _ (file : List ℕ) {n m : ℕ} (four : 4 ≤ length file) (vertices : n ≡ vertex_count file) (edges : m ≡ edge_count file) where
  -- 2: n or m outside its size
  pub header_outside : outside_sizes n m ≡ true → first (header_refusals file) ≡ bad_size
  unfolding header_refusals first
  header_outside h = rw (← vertices, ← edges, le-ltb (length file) 4 four, h)

  -- 1: the length is not n's and m's
  pub header_length : outside_sizes n m ≡ false → (length file ≡ file_length n m → ⊥) → first (header_refusals file) ≡ bad_length
  unfolding header_refusals first
  header_length h e = rw (← vertices, ← edges, le-ltb (length file) 4 four, h, ne_eqb (length file) (file_length n m) e)

  -- the header passes
  pub header_passes : outside_sizes n m ≡ false → length file ≡ file_length n m → first (header_refusals file) ≡ 0
  unfolding header_refusals first
  header_passes h e = rw (← vertices, ← edges, le-ltb (length file) 4 four, h, eq-eqb (length file) (file_length n m) e)

  -- and n and m are within their sizes
  pub header_fits : first (header_refusals file) ≡ 0 → Sized file n m
  header_fits e = rw (vertices, edges) (header_sized file e)

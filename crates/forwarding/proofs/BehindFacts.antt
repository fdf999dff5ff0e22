-- Bytes that begin with a file: how many are the file, what follows it, that n and m of the file are those that the bytes begin with, and the same of
-- the first bytes of more.
use mathlib.Core.Path.{◌≡◌, sym, ap, ◌∙◌}
use mathlib.Core.List.{List}
use Prim.Native.Nat.{ℕ, ◌+◌, ◌≤◌, min}
use native.Mathlib.Decide.{dec_le}
use native.Mathlib.Omega.{arith}
use lib.ListN.{length, take, drop, length-take, length-drop, drop_of_length-le}
use lib.Seq.{length-take-le, take_all}
use Rattle.lists.proofs.Parts.{part_take}
use Rattle.graph.specs.File.{vertex_count, edge_count}
use Rattle.graph.proofs.WordRuns.{part_word}
use Rattle.forwarding.specs.Behind.{length_in, file_at, sleepers_behind}

module _ (bytes : List ℕ) where
  -- the file's length by its n and m, or all bytes where there are fewer
  pub file_least : length (file_at bytes) ≡ min (length_in bytes) (length bytes)
  unfolding file_at
  file_least = length-take (length_in bytes) bytes

  module _ {size : ℕ} (told : size ≡ length (file_at bytes)) where
    -- so many bytes are the file
    pub file_part : take size bytes ≡ file_at bytes
    unfolding file_at
    file_part = go (dec_le (length_in bytes) (length bytes))
      where
        go : Dec (length_in bytes ≤ length bytes) → take size bytes ≡ take (length_in bytes) bytes
        go (yes whole) = ap (λ (k : ℕ). take k bytes) (told ∙ length-take-le (length_in bytes) bytes whole)
        go (no short) =
            let all = take_all (length_in bytes) bytes (omega arith) in
            take_all size bytes (omega (arith, told, ap length all)) ∙ sym all

    -- and those behind them the sleepers
    pub sleepers_part : drop size bytes ≡ sleepers_behind bytes
    unfolding file_at sleepers_behind
    sleepers_part = go (dec_le (length_in bytes) (length bytes))
      where
        go : Dec (length_in bytes ≤ length bytes) → drop size bytes ≡ drop (length_in bytes) bytes
        go (yes whole) = ap (λ (k : ℕ). drop k bytes) (told ∙ length-take-le (length_in bytes) bytes whole)
        go (no short) =
            let all = take_all (length_in bytes) bytes (omega arith) in
            let far : length bytes ≤ length_in bytes = omega arith in
            let here : length bytes ≤ size = omega (arith, told, ap length all) in
            drop_of_length-le bytes here ∙ sym (drop_of_length-le bytes far)

  module _ (four : 4 ≤ length bytes) where
    -- the file has four bytes too
    pub file_four : 4 ≤ length (file_at bytes)
    unfolding file_at
    file_four = omega (arith, length-take (length_in bytes) bytes)

    -- n
    pub file_vertices : vertex_count (file_at bytes) ≡ vertex_count bytes
    unfolding vertex_count file_at
    file_vertices = part_word 0 (length_in bytes) bytes 0 (omega arith)

    -- and m are those of the bytes
    pub file_edges : edge_count (file_at bytes) ≡ edge_count bytes
    unfolding edge_count file_at
    file_edges = part_word 0 (length_in bytes) bytes 1 (omega arith)

  -- with all of the file: its length, and that of what follows
  pub file_long : length_in bytes ≤ length bytes → length (file_at bytes) ≡ length_in bytes
  unfolding file_at
  file_long h = length-take-le (length_in bytes) bytes h

  pub sleepers_long : length_in bytes ≤ length bytes → length (sleepers_behind bytes) + length_in bytes ≡ length bytes
  unfolding sleepers_behind
  sleepers_long h = omega (arith, length-drop (length_in bytes) bytes)

-- Bytes behind the first a of a list, and behind the first a of its first k places.
module _ (a k : ℕ) (l : List ℕ) (four : a + 4 ≤ k) where
  -- n and m are the same
  pub part_vertices : vertex_count (drop a (take k l)) ≡ vertex_count (drop a l)
  unfolding vertex_count
  part_vertices = part_word a k l 0 (omega arith)

  pub part_edges : edge_count (drop a (take k l)) ≡ edge_count (drop a l)
  unfolding edge_count
  part_edges = part_word a k l 1 (omega arith)

  -- and so is the file, if it ends there
  pub part_file : a + length_in (drop a l) ≤ k → file_at (drop a (take k l)) ≡ file_at (drop a l)
  unfolding file_at
  part_file h =
      let same : length_in (drop a (take k l)) ≡ length_in (drop a l) = omega (arith, part_vertices, part_edges) in
      ap (λ (size : ℕ). take size (drop a (take k l))) same ∙ part_take a k (length_in (drop a l)) l h

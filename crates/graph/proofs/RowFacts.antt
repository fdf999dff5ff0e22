-- Rows written by rank: the targets record by record, the offsets from the last vertex to the first. What holds between two steps, that each step keeps
-- it, and that at the end the rows are those of the file's graph.
use mathlib.Core.Path.{◌≡◌, refl, sym, ap, ◌∙◌}
use mathlib.Core.List.{List, [], ◌∷◌, map}
use Prim.Native.Nat.{ℕ, suc, ◌+◌, ◌-◌, ◌≤◌, ◌<◌}
use native.Mathlib.Omega.{arith}
use lib.ListN.{length, get_or, set, length-map}
use Rattle.lists.specs.Lists.{overlay, sums_from, numbers_from}
use Rattle.lists.proofs.Overlay.{Laid, laid_none, laid_more, laid_all}
use Rattle.lists.proofs.Any.{elem_place, place_elem}
use Rattle.lists.proofs.Replaced.{map_at}
use Rattle.lists.proofs.Tests.{lacks_elem, range_elem, row_start, row_none}
use Rattle.graph.specs.Graph.{offsets_of, targets_of}
use Rattle.graph.specs.File.{vertex_count, edge_count, head_index, target, chain, chains, reached, graph_of}
use Rattle.graph.specs.Steps.{Chained, Ranked}
use Rattle.graph.proofs.Bridge.{length_offsets, last_offset}
use Rattle.graph.proofs.FileLists.{length_chains, length_graph}
use Rattle.graph.proofs.WalkFacts.{chain_end, chain_step}
use Rattle.graph.proofs.WellFormed.{scanned_bounded, chained_partitioned, chain_at, reached_in_range, reached_length, graph_targets, graph_edges}

-- the rows are as long as the chains
row_lengths : (file : List ℕ) (rows : List (List ℕ)) → map length (map (λ (row : List ℕ). map (target file) row) rows) ≡ map length rows
row_lengths file [] = refl
row_lengths file (row ∷ rows) = rw (length-map row (target file), row_lengths file rows)

-- so the offsets are those of the chains
offsets_chains : (file : List ℕ) → offsets_of (graph_of file) ≡ sums_from 0 (map length (chains file))
unfolding offsets_of graph_of
offsets_chains file = ap (sums_from 0) (row_lengths file (chains file))

-- The rows of a file whose records are ranked.

-- after i records: their targets are written
abbrev pub Targets : List ℕ → List ℕ → List ℕ → ℕ → Type 0
Targets file old list i = Laid (targets_of (graph_of file)) old list (λ j. get_or (reached file) j 0 ≤ i)

-- at a vertex: its offset and those behind it are written
abbrev pub Offsets : List ℕ → List ℕ → List ℕ → ℕ → Type 0
Offsets file old list vertex = Laid (offsets_of (graph_of file)) old list (λ j. vertex ≤ j)

module _ {file : List ℕ} {n m : ℕ} {marks : List ℕ} (s : Chained file n m) (r : Ranked file marks) where
  -- all records are reached
  reached_long : length (reached file) ≡ m
  reached_long = reached_length file (scanned_bounded s.scanned) (chained_partitioned s) ∙ sym s.scanned.sized.edges

  -- each is a record of the file
  reached_at : (j : ℕ) → j < m → (1 ≤ get_or (reached file) j 0) × (get_or (reached file) j 0 ≤ m)
  reached_at j h =
      rw s.scanned.sized.edges (reached_in_range file (scanned_bounded s.scanned) (get_or (reached file) j 0)
      (place_elem (get_or (reached file) j 0) (reached file) j (omega (arith, reached_long)) refl))

  -- all m targets
  targets_long : length (targets_of (graph_of file)) ≡ m
  targets_long = graph_edges file (scanned_bounded s.scanned) (chained_partitioned s) ∙ sym s.scanned.sized.edges

  -- the target at a place is that of the record reached there
  target_at : (j : ℕ) → j < m → get_or (targets_of (graph_of file)) j 0 ≡ target file (get_or (reached file) j 0)
  target_at j h = rw (graph_targets file) (map_at (target file) (reached file) j 0 0 (omega (arith, reached_long)))

  -- the rank of record i + 1, and the record's place among those reached
  record RankOf (i : ℕ) : Type 0 where
    place : ℕ
    below : place < m
    is : get_or (reached file) place 0 ≡ i + 1
    rank : get_or marks i 0 ≡ place + 1

  -- each record has one
  rank_of : (i : ℕ) → i < m → RankOf i
  rank_of i h =
      let known = lacks_elem (numbers_from 1 (edge_count file)) (reached file) (chained_partitioned s).each (i + 1)
      (range_elem (i + 1) 1 (edge_count file) (omega arith) (omega (arith, s.scanned.sized.edges))) in
      let p = elem_place (i + 1) (reached file) known in
      let here : get_or (reached file) p.place 0 - 1 ≡ i = omega (arith, p.is) in
      record { place = p.place; below = omega (arith, p.there, reached_long); is = p.is; rank = rw here at (r.ranks p.place p.there) }

  -- each rank is one of 1 to m
  pub rank_within : (i : ℕ) → i < m → (1 ≤ get_or marks i 0) × (get_or marks i 0 ≤ m)
  rank_within i h = let k = rank_of i h in omega (arith, k.rank, k.below)

  -- none is written yet
  pub targets_start : (old : List ℕ) → Targets file old old 0
  targets_start old =
      laid_none (targets_of (graph_of file)) old (λ j. get_or (reached file) j 0 ≤ 0) (λ j h d. omega (arith, reached_at j (omega (arith, targets_long))))

  -- a record that is not at the place of record i + 1 is another one
  apart : (i : ℕ) (h : i < m) (j : ℕ) → j < m → (j ≡ (rank_of i h).place → ⊥) → get_or (reached file) j 0 ≡ i + 1 → ⊥
  apart i h j b other same =
      let k = rank_of i h in
      let here : get_or (reached file) j 0 - 1 ≡ i = omega arith in
      other (omega (arith, k.rank, rw here at (r.ranks j (omega (arith, reached_long)))))

  -- the target of the next record goes where its rank says
  pub targets_next : {old list : List ℕ} {i rank x : ℕ} → Targets file old list i → m ≤ length old → i < m → rank ≡ get_or marks i 0 → x ≡ target file (i + 1)
      → Targets file old (set list (rank - 1) x) (i + 1)
  targets_next {old} {list} {i} {rank} w room h e f =
      let k = rank_of i h in
      let same : k.place ≡ rank - 1 = omega (arith, k.rank) in
      rw same at (laid_more (targets_of (graph_of file)) old list (λ j. get_or (reached file) j 0 ≤ i) (λ j. get_or (reached file) j 0 ≤ i + 1) w
      (omega (arith, targets_long)) (omega (arith, targets_long, k.below)) (f ∙ sym (target_at k.place k.below ∙ ap (target file) k.is))
      (λ j b d other. let c : j < m = omega (arith, targets_long) in let z = apart i h j c other in omega arith))

  -- all are written
  pub targets_done : {old list : List ℕ} {i : ℕ} → Targets file old list i → m ≤ length old → m ≤ i → list ≡ overlay (targets_of (graph_of file)) old
  targets_done {old} {list} {i} w room h =
      laid_all (targets_of (graph_of file)) old list (λ j. get_or (reached file) j 0 ≤ i) w (omega (arith, targets_long))
      (λ j b. omega (arith, reached_at j (omega (arith, targets_long))))

  -- all n rows
  rows_long : length (graph_of file) ≡ n
  rows_long = length_graph file ∙ sym s.scanned.sized.vertices

  -- all n + 1 offsets
  offsets_long : length (offsets_of (graph_of file)) ≡ suc n
  offsets_long = length_offsets (graph_of file) ∙ ap suc rows_long

  -- the last one is m
  pub offset_last : m ≡ get_or (offsets_of (graph_of file)) n 0
  offset_last = sym ((rw rows_long at (last_offset (graph_of file))) ∙ targets_long)

  -- a row starts at the rank of its head
  pub offset_some : (u : ℕ) → u < n → (head_index file u ≡ 0 → ⊥) → get_or marks (head_index file u - 1) 0 ≡ get_or (offsets_of (graph_of file)) u 0 + 1
  unfolding reached
  offset_some u h some =
      let b : u < vertex_count file = omega (arith, s.scanned.sized.vertices) in
      let row = chain_at file u b ∙ chain_step file (edge_count file) (head_index file u) some in
      let p = row_start (chains file) 0 u (head_index file u) _ row in
      let mark = rw p.is at (r.ranks p.place p.below) in
      rw (offsets_chains file) (omega (arith, p.offset))

  -- an empty one where the next row does
  pub offset_none : (u : ℕ) → u < n → head_index file u ≡ 0 → get_or (offsets_of (graph_of file)) u 0 ≡ get_or (offsets_of (graph_of file)) (suc u) 0
  offset_none u h none =
      let b : u < vertex_count file = omega (arith, s.scanned.sized.vertices) in
      let row = chain_at file u b ∙ ap (chain file (suc (edge_count file))) none ∙ chain_end file (suc (edge_count file)) in
      rw (offsets_chains file) (row_none (chains file) 0 u (rw (length_chains file) b) row)

  -- the last one is written first
  pub offsets_start : {x : ℕ} (old : List ℕ) → n + 1 ≤ length old → x ≡ m → Offsets file old (set old n x) n
  offsets_start old room e =
      laid_more (offsets_of (graph_of file)) old old (λ j. n < j) (λ j. n ≤ j)
      (laid_none (offsets_of (graph_of file)) old (λ j. n < j) (λ j h d. omega (arith, offsets_long))) (omega (arith, offsets_long)) (omega (arith, offsets_long))
      (e ∙ offset_last) (λ j b d other. omega arith)

  -- then the one before
  pub offsets_next : {old list : List ℕ} {vertex u x : ℕ} → Offsets file old list vertex → n + 1 ≤ length old → vertex ≡ suc u → u < n
      → x ≡ get_or (offsets_of (graph_of file)) u 0 → Offsets file old (set list u x) u
  offsets_next {old} {list} {vertex} {u} {x} w room behind h e =
      laid_more (offsets_of (graph_of file)) old list (λ j. vertex ≤ j) (λ j. u ≤ j) w (omega (arith, offsets_long)) (omega (arith, offsets_long)) e
      (λ j b d other. omega arith)

  -- at vertex 0 all are written
  pub offsets_done : {old list : List ℕ} {vertex : ℕ} → Offsets file old list vertex → n + 1 ≤ length old → vertex ≡ 0 → list ≡ overlay (offsets_of (graph_of file)) old
  offsets_done {old} {list} {vertex} w room first =
      laid_all (offsets_of (graph_of file)) old list (λ j. vertex ≤ j) w (omega (arith, offsets_long)) (λ j b. omega arith)

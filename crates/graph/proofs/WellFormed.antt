-- What the reader's tests tell of a file that passes them: its sizes, where its indices lead, that the chains end and hold each record
-- once, and that the rows which it gives are rows in order. The other way too where the tests can be met by these facts.
use mathlib.Core.Path.{◌≡◌, refl, sym, ap, ◌∙◌}
use mathlib.Core.Bool.{false, not}
use mathlib.Core.List.{List, [], ◌∷◌, ◌++◌, map, flatten}
use Prim.Native.Nat.{ℕ, zero, suc, ◌+◌, ◌≤◌, ◌<◌}
use native.Mathlib.Nat.{le_of_suc-le-suc}
use native.Mathlib.Omega.{arith}
use lib.Dec.{ltb, eqb}
use lib.ListN.{length, get_or, length-map}
use borrow.Author.Tests.{eqb-true, not-false, le-ltb, eq-eqb}
use Rattle.numbers.specs.Numbers.{bad_length, bad_size, bad_target, bad_index, repeated, unreached, short_list}
use Rattle.numbers.specs.Refusals.{◌gives◌, first}
use Rattle.numbers.proofs.First.{Positive, first_passed, first_skip, first_split, first_join}
use Rattle.lists.specs.Lists.{chain_from, numbers_from, repeats, lacks, reaches}
use Rattle.lists.proofs.Or.{or_none}
use Rattle.lists.proofs.Tests.{reaches_append, range_elem, InRange, in_range_nil, in_range_cons, in_range_append, full_length, map_flatten, map_reaches, reaches_map, row_short, length_range, get_or_range}
use Rattle.lists.proofs.Replaced.{map_at}
use Rattle.lists.proofs.Chains.{chain_longer}
use Rattle.graph.specs.Graph.{offsets_of, targets_of}
use Rattle.graph.specs.File.{vertex_count, edge_count, file_length, head_index, target, next, heads, record_targets, record_nexts, chain, chains, reached, graph_of}
use Rattle.graph.specs.Read.{outside_sizes, header_refusals, scan_refusals, chain_refusals, rows_short, read_refusals, read_number}
use Rattle.graph.specs.Write.{malformed}
use Rattle.graph.specs.Steps.{Sized, Scanned, Chained}
use Rattle.graph.proofs.Bridge.{within_sizes, sizes_within, Fits, fits_accepted, Rows, graph_rows, length_offsets, last_offset}
use Rattle.graph.proofs.FileLists.{heads_map, targets_map, nexts_map, length_graph}

-- The header.

-- a header that passes
pub header_sized : (file : List ℕ) → first (header_refusals file) ≡ 0 → Sized file (vertex_count file) (edge_count file)
unfolding header_refusals
header_sized file e =
    let n = vertex_count file in
    let m = edge_count file in
    let right = eqb (length file) (file_length n m) in
    let lengthTest = not right gives bad_length ∷ [] in
    let p = first_passed (ltb (length file) 4) bad_length (outside_sizes n m gives bad_size ∷ lengthTest) (omega arith) e in
    let q = first_passed (outside_sizes n m) bad_size lengthTest (omega arith) p.1 in
    let r = first_passed (not right) bad_length [] (omega arith) q.1 in
    let s = within_sizes n m q.0 in
    record {
      vertices = refl;
      edges = refl;
      some = s.some;
      few_vertices = s.few_vertices;
      few_edges = s.few_edges;
      bytes = eqb-true (length file) (file_length n m) (not-false right r.0);
    }

-- and the other way
pub sized_header : (file : List ℕ) (n m : ℕ) → Sized file n m → first (header_refusals file) ≡ 0
unfolding header_refusals first
sized_header file n m s = rw (
  le-ltb (length file) 4 (omega arith),
  ← s.vertices,
  ← s.edges,
  sizes_within n m (record { some = s.some; few_vertices = s.few_vertices; few_edges = s.few_edges }),
  eq-eqb (length file) (file_length n m) s.bytes,
)

-- The scan.

-- no index is above m and no target is n or more
pub record Bounded (file : List ℕ) : Type 0 where
  pub indices : reaches (suc (edge_count file)) (heads file ++ record_nexts file) ≡ false
  pub targets : reaches (vertex_count file) (record_targets file) ≡ false

pub scan_bounded : (file : List ℕ) → first (scan_refusals file) ≡ 0 → Bounded file
unfolding scan_refusals
scan_bounded file e =
    let targetTest = reaches (vertex_count file) (record_targets file) in
    let indexTest = reaches (suc (edge_count file)) (heads file ++ record_nexts file) in
    let p = first_passed indexTest bad_index (targetTest gives bad_target ∷ []) (omega arith) e in
    record { indices = p.0; targets = (first_passed targetTest bad_target [] (omega arith) p.1).0 }

pub bounded_scan : (file : List ℕ) → Bounded file → first (scan_refusals file) ≡ 0
unfolding scan_refusals first
bounded_scan file b = rw (b.indices, b.targets)

-- so are heads and next indices by themselves
indices_low : (file : List ℕ) → Bounded file → (reaches (suc (edge_count file)) (heads file) ≡ false) × (reaches (suc (edge_count file)) (record_nexts file) ≡ false)
indices_low file b =
    let m = edge_count file in
    or_none (reaches (suc m) (heads file)) (reaches (suc m) (record_nexts file)) (sym (reaches_append (suc m) (heads file) (record_nexts file)) ∙ b.indices)

-- so each head is a record or 0
pub head_low : (file : List ℕ) → Bounded file → (u : ℕ) → u < vertex_count file → head_index file u ≤ edge_count file
head_low file b u h =
    le_of_suc-le-suc (map_reaches (suc (edge_count file)) (head_index file) (numbers_from 0 (vertex_count file)) (rw (heads_map file) at (indices_low file b).0) u
    (range_elem u 0 (vertex_count file) (omega arith) (omega arith)))

-- so is each next index
pub next_low : (file : List ℕ) → Bounded file → (r : ℕ) → 1 ≤ r → r ≤ edge_count file → next file r ≤ edge_count file
next_low file b r h k =
    le_of_suc-le-suc (map_reaches (suc (edge_count file)) (next file) (numbers_from 1 (edge_count file)) (rw (nexts_map file) at (indices_low file b).1) r
    (range_elem r 1 (edge_count file) h (omega arith)))

-- and each target is a vertex
pub target_low : (file : List ℕ) → Bounded file → (r : ℕ) → 1 ≤ r → r ≤ edge_count file → target file r < vertex_count file
target_low file b r h k =
    map_reaches (vertex_count file) (target file) (numbers_from 1 (edge_count file)) (rw (targets_map file) at b.targets) r
    (range_elem r 1 (edge_count file) h (omega arith))

-- The chains.

-- no record is reached twice and none is missed
pub record Partitioned (file : List ℕ) : Type 0 where
  pub once : repeats (reached file) ≡ false
  pub each : lacks (numbers_from 1 (edge_count file)) (reached file) ≡ false

pub chains_partitioned : (file : List ℕ) → first (chain_refusals file) ≡ 0 → Partitioned file
unfolding chain_refusals
chains_partitioned file e =
    let missed = lacks (numbers_from 1 (edge_count file)) (reached file) in
    let p = first_passed (repeats (reached file)) repeated (missed gives unreached ∷ []) (omega arith) e in
    record { once = p.0; each = (first_passed missed unreached [] (omega arith) p.1).0 }

pub partitioned_chains : (file : List ℕ) → Partitioned file → first (chain_refusals file) ≡ 0
unfolding chain_refusals first
partitioned_chains file p = rw (p.once, p.each)

-- a chain that ends before its steps do has no more records with more steps
pub chain_more : (file : List ℕ) (steps more r : ℕ) → length (chain file steps r) < steps → steps ≤ more → chain file more r ≡ chain file steps r
unfolding chain
chain_more file steps more r h k = chain_longer (next file) steps more r h k

-- the records of a chain are records of the file
pub chain_in_range : (file : List ℕ) → Bounded file → (steps r : ℕ) → r ≤ edge_count file → InRange (edge_count file) (chain file steps r)
unfolding chain chain_from
chain_in_range file b zero r h = in_range_nil (edge_count file)
chain_in_range file b (suc steps) zero h = in_range_nil (edge_count file)
chain_in_range file b (suc steps) (suc r) h =
    in_range_cons (edge_count file) (suc r) (chain file steps (next file (suc r))) (omega arith) h
    (chain_in_range file b steps (next file (suc r)) (next_low file b (suc r) (omega arith) h))

chains_in_range : (file : List ℕ) → Bounded file → (a count : ℕ) → a + count ≤ vertex_count file
    → InRange (edge_count file) (flatten (map (λ (u : ℕ). chain file (suc (edge_count file)) (head_index file u)) (numbers_from a count)))
unfolding flatten numbers_from
chains_in_range file b a zero h = in_range_nil (edge_count file)
chains_in_range file b a (suc count) h =
    in_range_append (edge_count file) (chain file (suc (edge_count file)) (head_index file a))
    (flatten (map (λ (u : ℕ). chain file (suc (edge_count file)) (head_index file u)) (numbers_from (suc a) count)))
    (chain_in_range file b (suc (edge_count file)) (head_index file a) (head_low file b a (omega arith)))
    (chains_in_range file b (suc a) count (omega arith))

pub reached_in_range : (file : List ℕ) → Bounded file → InRange (edge_count file) (reached file)
unfolding reached chains
reached_in_range file b = chains_in_range file b 0 (vertex_count file) (omega arith)

-- so m records are reached
pub reached_length : (file : List ℕ) → Bounded file → Partitioned file → length (reached file) ≡ edge_count file
reached_length file b p = full_length (edge_count file) (reached file) p.once (reached_in_range file b) p.each

-- and each chain ends before its steps do
pub chain_short : (file : List ℕ) → Bounded file → Partitioned file → (u : ℕ) → length (get_or (chains file) u []) ≤ edge_count file
unfolding reached
chain_short file b p u = omega (arith, row_short (chains file) u, reached_length file b p)

-- the chain of a vertex, by its place in the chains
pub chain_at : (file : List ℕ) (u : ℕ) → u < vertex_count file → get_or (chains file) u [] ≡ chain file (suc (edge_count file)) (head_index file u)
unfolding chains
chain_at file u h =
    map_at (λ (v : ℕ). chain file (suc (edge_count file)) (head_index file v)) (numbers_from 0 (vertex_count file)) u 0 [] (rw (length_range 0 (vertex_count file)) h)
    ∙ ap (λ (v : ℕ). chain file (suc (edge_count file)) (head_index file v)) (get_or_range 0 (vertex_count file) u 0 h ∙ omega arith)

pub chain_ends : (file : List ℕ) → Bounded file → Partitioned file → (u : ℕ) → u < vertex_count file
    → length (chain file (suc (edge_count file)) (head_index file u)) ≤ edge_count file
chain_ends file b p u h = rw (chain_at file u h) at (chain_short file b p u)

-- The same from the steps of reading.

pub scanned_bounded : {file : List ℕ} {n m : ℕ} → Scanned file n m → Bounded file
scanned_bounded {file} s = scan_bounded file s.clean

pub chained_partitioned : {file : List ℕ} {n m : ℕ} → Chained file n m → Partitioned file
chained_partitioned {file} c = chains_partitioned file c.whole

-- The rows that are read.

-- the targets, in the order in which their records are reached
pub graph_targets : (file : List ℕ) → targets_of (graph_of file) ≡ map (target file) (reached file)
unfolding targets_of graph_of reached
graph_targets file = map_flatten (target file) (chains file)

-- m of them
pub graph_edges : (file : List ℕ) → Bounded file → Partitioned file → length (targets_of (graph_of file)) ≡ edge_count file
graph_edges file b p = rw (graph_targets file, length-map (reached file) (target file)) (reached_length file b p)

-- each a vertex
pub graph_below : (file : List ℕ) → Bounded file → reaches (vertex_count file) (targets_of (graph_of file)) ≡ false
graph_below file b =
    rw (graph_targets file) (reaches_map (vertex_count file) (target file) (reached file)
    (λ r e. let h = reached_in_range file b r e in target_low file b r h.0 h.1))

-- A file that the reader takes.
module _ (file : List ℕ) (s : first (header_refusals file) ≡ 0) (t : first (scan_refusals file) ≡ 0) (w : first (chain_refusals file) ≡ 0) where
  -- its graph is within the sizes
  pub taken_fits : Fits (graph_of file)
  taken_fits =
      let z = header_sized file s in
      let b = scan_bounded file t in
      let n = length_graph file in
      let m = graph_edges file b (chains_partitioned file w) in
      record { some = rw n z.some; few_vertices = rw n z.few_vertices; few_edges = rw m z.few_edges; below = rw n (graph_below file b) }

-- lists long enough for what is read
pub needs_met : (file offsets targets marks : List ℕ) → vertex_count file < length offsets → edge_count file ≤ length targets → edge_count file ≤ length marks
    → rows_short (vertex_count file) (edge_count file) (length offsets) (length targets) (length marks) ≡ false
unfolding rows_short
needs_met file offsets targets marks a b c = rw (
  le-ltb (length offsets) (vertex_count file + 1) (omega arith),
  le-ltb (length targets) (edge_count file) b,
  le-ltb (length marks) (edge_count file) c,
)

-- with number 0 each part of the reader's tests is passed
pub record Taken (file offsets targets marks : List ℕ) : Type 0 where
  pub header : first (header_refusals file) ≡ 0
  pub scan : first (scan_refusals file) ≡ 0
  pub needs : rows_short (vertex_count file) (edge_count file) (length offsets) (length targets) (length marks) ≡ false
  pub whole : first (chain_refusals file) ≡ 0

pub positive_header : (file : List ℕ) → Positive (header_refusals file)
unfolding header_refusals
positive_header file = omega arith

pub positive_scan : (file : List ℕ) → Positive (scan_refusals file)
unfolding scan_refusals
positive_scan file = omega arith

pub read_taken : (file offsets targets marks : List ℕ) → read_number file offsets targets marks ≡ 0 → Taken file offsets targets marks
unfolding read_number read_refusals header_refusals scan_refusals
read_taken file offsets targets marks e =
    let needs = rows_short (vertex_count file) (edge_count file) (length offsets) (length targets) (length marks) gives short_list ∷ chain_refusals file in
    let p = first_split (header_refusals file) (scan_refusals file ++ needs) (positive_header file) e in
    let q = first_split (scan_refusals file) needs (positive_scan file) p.1 in
    let r = first_passed (rows_short (vertex_count file) (edge_count file) (length offsets) (length targets) (length marks)) short_list (chain_refusals file) (omega arith) q.1 in
    record { header = p.0; scan = q.0; needs = r.0; whole = r.1 }

-- and the other way
pub taken_read : (file offsets targets marks : List ℕ) → Taken file offsets targets marks → read_number file offsets targets marks ≡ 0
unfolding read_number read_refusals header_refusals scan_refusals
taken_read file offsets targets marks k =
    let needs = rows_short (vertex_count file) (edge_count file) (length offsets) (length targets) (length marks) gives short_list ∷ chain_refusals file in
    first_join (header_refusals file) (scan_refusals file ++ needs) (positive_header file) k.header
    (first_join (scan_refusals file) needs (positive_scan file) k.scan
    (first_skip (rows_short (vertex_count file) (edge_count file) (length offsets) (length targets) (length marks)) short_list (chain_refusals file) k.needs ∙ k.whole))

-- What `read` gives with number 0: rows in order, which the writer accepts.
module _ (file offsets targets marks : List ℕ) (e : read_number file offsets targets marks ≡ 0) where
  pub read_fits : Fits (graph_of file)
  read_fits = let k = read_taken file offsets targets marks e in taken_fits file k.header k.scan k.whole

  pub read_accepted : malformed (offsets_of (graph_of file)) (targets_of (graph_of file)) ≡ false
  read_accepted = fits_accepted (graph_of file) read_fits

  pub read_vertices : length (graph_of file) ≡ vertex_count file
  read_vertices = length_graph file

  pub read_edges : length (targets_of (graph_of file)) ≡ edge_count file
  read_edges = let k = read_taken file offsets targets marks e in graph_edges file (scan_bounded file k.scan) (chains_partitioned file k.whole)

  pub read_below : reaches (vertex_count file) (targets_of (graph_of file)) ≡ false
  read_below = graph_below file (scan_bounded file (read_taken file offsets targets marks e).scan)

  -- n + 1 offsets, from 0 up to m
  pub read_rows : Rows (offsets_of (graph_of file)) (targets_of (graph_of file))
  read_rows = graph_rows (graph_of file)

  pub read_offsets : length (offsets_of (graph_of file)) ≡ suc (vertex_count file)
  read_offsets = length_offsets (graph_of file) ∙ ap suc (length_graph file)

  pub read_last : get_or (offsets_of (graph_of file)) (vertex_count file) 0 ≡ edge_count file
  read_last = rw (← length_graph file) (last_offset (graph_of file)) ∙ read_edges

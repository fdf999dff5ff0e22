-- The heads, targets and next indices of a file as lists, number by number: what a scan of the words meets.
use mathlib.Core.Path.{◌≡◌, refl, ap, ◌∙◌}
use mathlib.Core.List.{List, ◌∷◌, map}
use Prim.Native.Nat.{ℕ, zero, suc, ◌+◌, ◌*◌}
use native.Mathlib.Omega.{arith}
use lib.ListN.{length, length-map}
use Rattle.lists.specs.Lists.{numbers_from}
use Rattle.lists.proofs.Tests.{length_range}
use Rattle.graph.specs.File.{word, words_at, vertex_count, edge_count, head_index, target, next, heads, record_targets, record_nexts, chain, chains, graph_of}

-- words at places that step by the stride
words_map : (file : List ℕ) (place : ℕ → ℕ) (stride : ℕ) → ((r : ℕ) → place r + stride ≡ place (suc r)) → (a count : ℕ)
    → words_at file (place a) stride count ≡ map (λ (r : ℕ). word file (place r)) (numbers_from a count)
unfolding words_at numbers_from
words_map file place stride step a zero = refl
words_map file place stride step a (suc count) =
    ap (λ (l : List ℕ). word file (place a) ∷ l) (rw (step a) (words_map file place stride step (suc a) count))

-- the heads of vertices 0 to n - 1
pub heads_map : (file : List ℕ) → heads file ≡ map (head_index file) (numbers_from 0 (vertex_count file))
unfolding heads head_index
heads_map file = words_map file (λ (u : ℕ). 2 + u) 1 (λ u. omega arith) 0 (vertex_count file)

-- the targets of records 1 to m
pub targets_map : (file : List ℕ) → record_targets file ≡ map (target file) (numbers_from 1 (edge_count file))
unfolding record_targets target
targets_map file = words_map file (λ (r : ℕ). vertex_count file + 2 * r) 2 (λ r. omega arith) 1 (edge_count file)

-- the next indices of records 1 to m
pub nexts_map : (file : List ℕ) → record_nexts file ≡ map (next file) (numbers_from 1 (edge_count file))
unfolding record_nexts next
nexts_map file =
    let start : vertex_count file + 3 ≡ vertex_count file + 2 * 1 + 1 = omega arith in
    rw start (words_map file (λ (r : ℕ). vertex_count file + 2 * r + 1) 2 (λ r. omega arith) 1 (edge_count file))

-- a chain for each vertex
pub length_chains : (file : List ℕ) → length (chains file) ≡ vertex_count file
unfolding chains
length_chains file = length-map (numbers_from 0 (vertex_count file)) (λ (u : ℕ). chain file (suc (edge_count file)) (head_index file u)) ∙ length_range 0 (vertex_count file)

-- a row for each vertex
pub length_graph : (file : List ℕ) → length (graph_of file) ≡ vertex_count file
unfolding graph_of
length_graph file = length-map (chains file) (λ (records : List ℕ). map (target file) records) ∙ length_chains file

-- What `unchain` leaves of a file that was scanned: zeros in the first m marks; rows with 0 alone, and then the first n + 1 offsets and the first m
-- targets are those of the file's graph.
use mathlib.Core.Path.{◌≡◌, sym, ap, ◌∙◌}
use mathlib.Core.List.{List}
use Prim.Native.Nat.{ℕ, ◌+◌, ◌≤◌}
use native.Mathlib.Omega.{arith}
use lib.ListN.{length, take, replicate}
use borrow.Author.Tests.{ne_eqb}
use Rattle.lists.specs.Lists.{overlay}
use Rattle.lists.proofs.Overlay.{overlay_long, overlay_front}
use Rattle.graph.specs.Graph.{offsets_of, targets_of, rows_of}
use Rattle.graph.specs.File.{edge_count, graph_of}
use Rattle.graph.specs.Read.{writes_rows}
use Rattle.graph.specs.Steps.{Scanned, Unchained, GraphRows}
use Rattle.graph.proofs.FileLists.{length_graph}
use Rattle.graph.proofs.Bridge.{graph_again, length_offsets}
use Rattle.graph.proofs.WellFormed.{scanned_bounded, chains_partitioned, graph_edges, graph_below}

module _ {file : List ℕ} {n m k : ℕ} {offsets targets marks offsets' targets' marks' : List ℕ} (scanned : Scanned file n m)
    (walked : Unchained file m k offsets targets marks offsets' targets' marks') where
  -- the marks are cleared
  pub marks_clear : marks' ≡ overlay (replicate (edge_count file) 0) marks
  marks_clear = walked.cleared ∙ ap (λ (count : ℕ). overlay (replicate count 0) marks) scanned.sized.edges

  -- with 5 and 6 the offsets are as they were
  pub starts_kept : (k ≡ 0 → ⊥) → offsets' ≡ offsets
  unfolding writes_rows
  starts_kept h = rw (ne_eqb k 0 h) at walked.starts

  -- and the targets
  pub ends_kept : (k ≡ 0 → ⊥) → targets' ≡ targets
  unfolding writes_rows
  ends_kept h = rw (ne_eqb k 0 h) at walked.ends

  module _ (whole : k ≡ 0) where
    -- the offsets are written
    pub starts_written : offsets' ≡ overlay (offsets_of (graph_of file)) offsets
    unfolding writes_rows
    starts_written = rw whole at walked.starts

    -- the targets are written
    pub ends_written : targets' ≡ overlay (targets_of (graph_of file)) targets
    unfolding writes_rows
    ends_written = rw whole at walked.ends

    -- n of the graph
    size_vertices : length (graph_of file) ≡ n
    size_vertices = length_graph file ∙ sym scanned.sized.vertices

    -- and m
    size_edges : length (targets_of (graph_of file)) ≡ m
    size_edges = graph_edges file (scanned_bounded scanned) (chains_partitioned file (sym walked.judged ∙ whole)) ∙ sym scanned.sized.edges

    -- the first n + 1 places are the offsets of the graph
    first_starts : take (n + 1) offsets' ≡ offsets_of (graph_of file)
    first_starts =
        let long = length_offsets (graph_of file) in
        ap (λ (l : List ℕ). take (n + 1) l) starts_written
        ∙ overlay_front (offsets_of (graph_of file)) offsets (n + 1) (omega (arith, size_vertices))

    -- the first m places are the targets of the graph
    first_ends : take m targets' ≡ targets_of (graph_of file)
    first_ends = ap (λ (l : List ℕ). take m l) ends_written ∙ overlay_front (targets_of (graph_of file)) targets m size_edges

    -- so these places hold the rows of the file's graph
    pub rows_graph : rows_of (take (n + 1) offsets') (take m targets') ≡ graph_of file
    rows_graph = rw (first_starts, first_ends) (graph_again (graph_of file))

    -- each of its targets is a vertex, and it is within the sizes
    pub rows_ground : GraphRows (take (n + 1) offsets') (take m targets') n
    rows_ground = record {
      starts = first_starts ∙ ap offsets_of (sym rows_graph);
      ends = first_ends ∙ ap targets_of (sym rows_graph);
      count = ap length rows_graph ∙ size_vertices;
      below = rw (first_ends, scanned.sized.vertices) (graph_below file (scanned_bounded scanned));
      few-vertices = scanned.sized.few_vertices;
      few-edges = rw (first_ends, size_edges) scanned.sized.few_edges;
    }

    -- there are that many offsets
    pub starts_there : n + 1 ≤ length offsets'
    starts_there =
        let g = graph_of file in rw starts_written (omega (arith, overlay_long (offsets_of g) offsets, length_offsets g, size_vertices))

    -- and targets
    pub ends_there : m ≤ length targets'
    ends_there = rw ends_written (omega (arith, overlay_long (targets_of (graph_of file)) targets, size_edges))

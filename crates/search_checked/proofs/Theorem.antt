-- The result of every search that answered 0 passes the checker: its input passed the checker's tests, and its result is right. So it can be laid out
-- for paper.
use mathlib.Core.Path.{◌≡◌, refl, sym, ap, ◌∙◌, subst}
use mathlib.Core.List.{List, map}
use mathlib.Core.Bool.{true, false}
use Prim.Native.Nat.{ℕ, ◌≤◌}
use native.Mathlib.Nat.{min-le_right}
use native.Mathlib.Omega.{arith}
use lib.ListN.{length, take, replicate, length-take, length-map, length-replicate}
use borrow.Author.Tests.{leb-false}
use Rattle.numbers.specs.Numbers.{success}
use Rattle.lists.specs.Lists.{overlay, elem}
use Rattle.lists.proofs.Overlay.{overlay_here, overlay_long}
use Rattle.graph.specs.Graph.{offsets_of, targets_of}
use Rattle.graph.specs.File.{vertex_count, edge_count, graph_of}
use Rattle.graph.specs.Read.{rows_short}
use Rattle.graph.proofs.FileLists.{length_graph}
use Rattle.graph.proofs.WellFormed.{needs_met}
use Rattle.graph.proofs.Bridge.{length_offsets}
use Rattle.model.specs.Paths.{Labels, RightResult}
use Rattle.model.specs.Words.{option_of, labels_of, labels_in}
use Rattle.model.specs.Call as call
use Rattle.model.proofs.Calls.{call_passed, call_parts, call_sizes, call_played}
use Rattle.model.specs.Call.{Answer}
use Rattle.search.specs.Promise.{search_exit}
use Rattle.search.proofs.KeptFacts.{call_keeps, played, success_plays}
use Rattle.verify.specs.Check.{CheckLent, CheckOutcome, lent_after_check, check_number, outcome_of_check, judges}
use Rattle.verify.specs.Promise.{RightLists}
use Rattle.verify.proofs.Judging.{parts_passed, number_right}
use Rattle.page.specs.Layout.{page_text, page_need}
use Rattle.page.specs.Page.{PageOutcome, outcome_of_page}
use Rattle.page.specs.Promise.{page_exit}
use Rattle.page.proofs.CallFacts.{number_long}
use Rattle.search_checked.specs.Checked.{row_lists, Accepts, LaidOut}

-- a list whose first n places stand for n labels has n places
places_there : (n k : ℕ) (l : List ℕ) → length (map option_of (take n l)) ≡ k → n ≡ k → n ≤ length l
places_there n k l e h = omega (arith, length-map (take n l) option_of, length-take n l, min-le_right n (length l))

module _ (file : List ℕ) (source P : ℕ) (schedule : List ℕ) (lent : call.Lent) {r : Answer} {after : call.Lent}
    (e : search_exit r after ≡ call.outcome_of_search file source P schedule lent) (z : r.number ≡ success) where
  -- the search played its schedule
  has_played : call.plays (call.search_number file source P schedule lent) ≡ true
  has_played = played file source P schedule lent e (success_plays file source P schedule lent e z)

  -- its result is right
  right : RightLists file source after.distances after.parents
  right = (call_keeps file source P schedule lent e).right_result z

  -- The check of lists with the same labels.
  module _ (distances parents : List ℕ)
      (same : labels_in (vertex_count file) distances parents ≡ labels_in (vertex_count file) after.distances after.parents) where
    -- they are right too
    same_right : RightLists file source distances parents
    same_right = subst (λ (x : Labels). RightResult (graph_of file) source x) (sym same) right

    -- there is a distance for each vertex
    distances_there : vertex_count file ≤ length distances
    unfolding labels_in labels_of
    distances_there = places_there (vertex_count file) (length (graph_of file)) distances same_right.distances_all (sym (length_graph file))

    -- and a parent
    parents_there : vertex_count file ≤ length parents
    unfolding labels_in labels_of
    parents_there = places_there (vertex_count file) (length (graph_of file)) parents same_right.parents_all (sym (length_graph file))

    -- lent lists that are not short, it answers 0
    number_zero : (other : CheckLent)
        → rows_short (vertex_count file) (edge_count file) (length other.offsets) (length other.targets) (length other.marks) ≡ false
        → check_number file source distances parents other ≡ success
    number_zero other long =
        let tests = call_parts file source P schedule lent (call_passed file source P schedule lent has_played) in
        let passed = parts_passed file source distances parents other (record {
          header = tests.header;
          scan = tests.scan;
          source_below = leb-false (vertex_count file) source tests.source_test;
          rows_there = long;
          distances_there = distances_there;
          parents_there = parents_there;
          whole = tests.whole;
        }) in
        number_right file source distances parents other passed same_right

  -- The search's own lists.

  -- the offsets are written
  starts : after.offsets ≡ overlay (offsets_of (graph_of file)) lent.offsets
  starts = ap (λ (o : call.Outcome). o.lent.offsets) (e ∙ call_played file source P schedule lent has_played)

  -- the targets are
  ends : after.targets ≡ overlay (targets_of (graph_of file)) lent.targets
  ends = ap (λ (o : call.Outcome). o.lent.targets) (e ∙ call_played file source P schedule lent has_played)

  -- the marks are cleared
  cleared : after.marks ≡ overlay (replicate (edge_count file) 0) lent.marks
  cleared = ap (λ (o : call.Outcome). o.lent.marks) (e ∙ call_played file source P schedule lent has_played)

  -- so none of them is short
  own_long : rows_short (vertex_count file) (edge_count file) (length after.offsets) (length after.targets) (length after.marks) ≡ false
  own_long =
      let g = graph_of file in
      let zeros : List ℕ = replicate (edge_count file) 0 in
      let sizes = call_sizes file source P schedule lent (call_passed file source P schedule lent has_played) in
      needs_met file after.offsets after.targets after.marks
      (rw starts (omega (arith, overlay_long (offsets_of g) lent.offsets, length_offsets g, sizes.0)))
      (rw ends (omega (arith, overlay_long (targets_of g) lent.targets, sizes.1)))
      (rw cleared (omega (arith, overlay_long zeros lent.marks, length-replicate {A = ℕ} (edge_count file) 0)))

  -- and a check that answers 0 writes what is there
  own_kept : lent_after_check success file (row_lists after) ≡ row_lists after
  unfolding lent_after_check judges elem
  own_kept =
      let g = graph_of file in
      sym (λ i. record {
        offsets = overlay_here (offsets_of g) lent.offsets starts i;
        targets = overlay_here (targets_of g) lent.targets ends i;
        marks = overlay_here (replicate (edge_count file) 0) lent.marks cleared i;
      })

  -- the theorem
  pub search_checked : Accepts file source after
  unfolding outcome_of_check
  search_checked = record {
    any_lists = λ distances parents same other long answered.
        ap (λ (o : CheckOutcome). o.number) answered ∙ number_zero distances parents same other long;
    own_lists = λ answered.
        let zeroth = number_zero after.distances after.parents refl (row_lists after) own_long in (
          ap (λ (o : CheckOutcome). o.number) answered ∙ zeroth,
          ap (λ (o : CheckOutcome). o.lent) answered ∙ ap (λ (k : ℕ). lent_after_check k file (row_lists after)) zeroth ∙ own_kept,
        );
  }

  -- The pages.

  -- a call that is lent long lists gives 0 and lays them out
  laid_out : (distances parents : List ℕ) (other : CheckLent) (bytes : List ℕ) {left : CheckLent} {written : List ℕ} {number : ℕ}
      → check_number file source distances parents other ≡ success → page_need (vertex_count file) ≤ length bytes
      → page_exit number left written ≡ outcome_of_page file source distances parents other bytes
      → (number ≡ success) × (written ≡ overlay (page_text (vertex_count file) distances parents) bytes)
  unfolding outcome_of_page
  laid_out distances parents other bytes zeroth room answered =
      let all = number_long file source distances parents other (length bytes) zeroth room in
      (ap (λ (o : PageOutcome). o.number) answered ∙ all, ap (λ (o : PageOutcome). o.bytes) answered ∙ rw all)

  -- the theorem
  pub search_laid_out : LaidOut file source after
  unfolding outcome_of_page outcome_of_check
  search_laid_out = record {
    any_lists = λ distances parents same other bytes long room answered.
        laid_out distances parents other bytes (number_zero distances parents same other long) room answered;
    own_lists = λ bytes room answered.
        let zeroth = number_zero after.distances after.parents refl (row_lists after) own_long in
        let both = laid_out after.distances after.parents (row_lists after) bytes zeroth room answered in (
          both.0,
          ap (λ (o : PageOutcome). o.lent) answered ∙ ap (λ (k : ℕ). lent_after_check k file (row_lists after)) zeroth ∙ own_kept,
          both.1,
        );
  }

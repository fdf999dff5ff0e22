-- Playing a schedule on the first places of longer lists: what a run takes for granted of those parts, and the whole lists after it.
use mathlib.Core.Path.{◌≡◌, sym, ap, ◌∙◌}
use mathlib.Core.List.{List, ◌++◌}
use Prim.Native.Nat.{ℕ, ◌+◌}
use native.Mathlib.Omega.{arith}
use lib.ListN.{length, take, drop, replicate}
use lib.Seq.{length-take-le}
use Rattle.lists.specs.Lists.{overlay}
use Rattle.lists.proofs.Overlay.{part_laid, part_cleared}
use Rattle.graph.specs.Graph.{rows_of}
use Rattle.model.specs.Play.{play}
use Rattle.model.specs.Call.{node_places}
use Rattle.model.specs.Call.{Answer}
use Rattle.engine.specs.Runs.{Runnable, Ran}
use Rattle.search.specs.Played.{Playable, PlayedOut}

module _ {n m source P : ℕ} {schedule offsets targets distances parents histogram left right values : List ℕ}
    (p : Playable n m source P schedule offsets targets distances parents histogram left right values) where
  -- what a run takes for granted of the parts
  pub play_runnable : Runnable source P schedule (take (n + 1) offsets) (take m targets) (take n distances) (take n parents) (take n histogram)
      (take (node_places n P) left) (take (node_places n P) right) (take (node_places n P) values)
  play_runnable =
      let some-distances = length-take-le n distances p.distances_there in
      let some-parents = length-take-le n parents p.parents_there in
      let some-counts = length-take-le n histogram p.histogram_there in
      let some_left = length-take-le (node_places n P) left p.left_there in
      let some_right = length-take-le (node_places n P) right p.right_there in
      let some-values = length-take-le (node_places n P) values p.values_there in
      record {
        rows = rw some-distances p.rows;
        accepted = p.accepted;
        few_events = p.few_events;
        sized = record {
          few-vertices = rw some-distances p.rows.few-vertices;
          some_worker = p.accepted.some_worker;
          few_workers = p.accepted.few_workers;
          parents_all = some-parents ∙ sym some-distances;
          histogram_all = some-counts ∙ sym some-distances;
          nodes = some_left ∙ ap (λ (k : ℕ). node_places k P) (sym some-distances);
          wide = omega arith;
          numbered = omega arith;
        };
      }

  -- the whole lists after the run and the clearing
  pub play-done : (left' right' values' : List ℕ) {answer : Answer} {distances' parents' histogram' left'' right'' values'' : List ℕ}
      → Ran (play (rows_of (take (n + 1) offsets) (take m targets)) source P schedule) distances' parents' histogram' answer
      → length distances' ≡ length (take n distances) → length parents' ≡ length (take n parents) → length histogram' ≡ length (take n histogram)
      → length left' ≡ length (take (node_places n P) left) → length right' ≡ length (take (node_places n P) right) → length values' ≡ length (take (node_places n P) values)
      → left'' ≡ overlay (replicate (node_places n P) 0) (left' ++ drop (node_places n P) left)
      → right'' ≡ overlay (replicate (node_places n P) 0) (right' ++ drop (node_places n P) right)
      → values'' ≡ overlay (replicate (node_places n P) 0) (values' ++ drop (node_places n P) values)
      → PlayedOut (play (rows_of (take (n + 1) offsets) (take m targets)) source P schedule) (node_places n P) distances parents histogram left right values
      (distances' ++ drop n distances) (parents' ++ drop n parents) (histogram' ++ drop n histogram) left'' right'' values'' answer
  play-done left' right' values' ran d q h l r k clear-left clear-right clear-values = record {
    told = ran.told;
    labelled = part_laid n distances p.distances_there d ran.distances;
    named = part_laid n parents p.parents_there q ran.parents;
    counted = part_laid n histogram p.histogram_there h ran.histogram;
    left_clear = part_cleared (node_places n P) left left' p.left_there l clear-left;
    right_clear = part_cleared (node_places n P) right right' p.right_there r clear-right;
    values_clear = part_cleared (node_places n P) values values' p.values_there k clear-values;
  }

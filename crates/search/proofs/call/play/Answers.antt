-- `search::call::play` meets its contract: the run on the first places of the lists, and zeros laid over the nodes' afterwards.
use native.Mathlib.Omega.{arith}
use Prim.Native.Nat.{◌+◌}
use Rattle.model.specs.Call.{node_places}
use Rattle.lists.proofs.Overlay.{part_length}
use Rattle.search.proofs.PlayFacts.{play_runnable, play-done}
use Rattle.search.proofs.call.play.Goals as goal

pub slice_bounds-run-end : goal.slice_bounds-run-end
slice_bounds-run-end c = part_length (c.args.n + 1) c.args.offsets.now c.requires.offsets_there

pub slice_bounds-run-end-2 : goal.slice_bounds-run-end-2
slice_bounds-run-end-2 c = part_length c.args.m c.args.targets.now c.requires.targets_there

pub slice_bounds-run-end-4 : goal.slice_bounds-run-end-4
slice_bounds-run-end-4 c = part_length c.args.n c.args.distances.now c.requires.distances_there

pub slice_bounds-run-end-6 : goal.slice_bounds-run-end-6
slice_bounds-run-end-6 c = part_length c.args.n c.args.parents.now c.requires.parents_there

pub slice_bounds-run-end-8 : goal.slice_bounds-run-end-8
slice_bounds-run-end-8 c = part_length c.args.n c.args.histogram.now c.requires.histogram_there

pub slice_bounds-run-end-10 : goal.slice_bounds-run-end-10
slice_bounds-run-end-10 c = part_length (node_places c.args.n c.args.workers) c.args.left.now c.requires.left_there

pub slice_bounds-run-end-12 : goal.slice_bounds-run-end-12
slice_bounds-run-end-12 c = part_length (node_places c.args.n c.args.workers) c.args.right.now c.requires.right_there

pub slice_bounds-run-end-14 : goal.slice_bounds-run-end-14
slice_bounds-run-end-14 c = part_length (node_places c.args.n c.args.workers) c.args.values.now c.requires.values_there

pub run-answer-requires : goal.run-answer-requires
run-answer-requires c = play_runnable c.requires

pub sweep-requires : goal.sweep-requires
sweep-requires c =
    let p = c.requires in
    record {
      places_in_bounds = omega (arith, p.left_there, p.right_there, p.values_there);
      places_in_bounds_2 = omega (arith, p.left_there, p.right_there, p.values_there);
      places_in_bounds_3 = omega (arith, p.left_there, p.right_there, p.values_there);
    }

pub returns : goal.returns
returns c =
    play-done c.requires c.run-answer.new.left c.run-answer.new.right c.run-answer.new.values c.run-answer.ensures c.run-answer.auto.distances c.run-answer.auto.parents c.run-answer.auto.histogram c.run-answer.auto.left
    c.run-answer.auto.right c.run-answer.auto.values c.sweep.ensures.left_after c.sweep.ensures.right_after c.sweep.ensures.values_after

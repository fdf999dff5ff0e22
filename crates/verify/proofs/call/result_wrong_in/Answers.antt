-- `verify::call::result_wrong_in` meets its contract: the certificate on the first places of the lists.
use Prim.Native.Nat.{◌+◌}
use Rattle.lists.proofs.Overlay.{part_length}
use Rattle.model.specs.Words.{labels_in}
use Rattle.verify.proofs.call.result_wrong_in.Goals as goal

pub slice_bounds-claim-end : goal.slice_bounds-claim-end
slice_bounds-claim-end c = part_length (c.args.n + 1) c.args.offsets.now c.requires.offsets_there

pub slice_bounds-claim-end-2 : goal.slice_bounds-claim-end-2
slice_bounds-claim-end-2 c = part_length c.args.m c.args.targets.now c.requires.targets_there

pub slice_bounds-claim-end-3 : goal.slice_bounds-claim-end-3
slice_bounds-claim-end-3 c = part_length c.args.n c.args.distances.now c.requires.distances_there

pub slice_bounds-claim-end-4 : goal.slice_bounds-claim-end-4
slice_bounds-claim-end-4 c = part_length c.args.n c.args.parents.now c.requires.parents_there

pub invariant_of-claim : goal.invariant_of-claim
invariant_of-claim c = record { checkable = c.requires.first_places }

pub returns : goal.returns
unfolding labels_in
returns c = c.result_wrong.ensures

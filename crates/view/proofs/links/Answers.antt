-- `view::links` meets its contract: where the two offsets fall, or there are none, the part is empty and at the front, and otherwise it goes
-- from one to the other.
use mathlib.Core.Path.{ap}
use native.Mathlib.Omega.{arith}
use Prim.Native.Nat.{◌<◌, ◌≤◌}
use Rattle.graph.specs.Links.{word_place}
use Rattle.view.proofs.InView.{no_start, no_part, none_start, none_part, part_start, part_between}
use Rattle.view.proofs.links.Goals.{in_default-via-in-Some+else-bounds, in_default-via-in_default}
use Rattle.view.proofs.links.Goals as goal

pub returns-in-Some : goal.returns-in-Some
returns-in-Some c =
    let row = c.in-Some.ensures in
    let rises : c.in-Some.row.start ≤ c.in-Some.row.end = omega arith in
    record {
      ref_ptr_value = ap (word_place c.args.targets.ref_ptr) (part_start _ _ _ _ _ row.0 rises row.1);
      result_value = part_between _ _ _ _ _ row.0 rises row.1 row.2;
    }

pub returns-in_default : goal.returns-in_default
returns-in_default c =
    elim c.in_default.branch [
      | in_default-via-in-Some+else-bounds w ↦
          let test = w.in-Some.ensures.0 in
          let falls : w.in-Some.row.end < w.in-Some.row.start = omega arith in
          record {
            ref_ptr_value = ap (word_place c.args.targets.ref_ptr) (no_start _ _ _ _ _ test falls);
            result_value = no_part _ _ _ _ _ test falls;
          }
      | in_default-via-in_default w ↦
          let out = rw w.in_default.is at c.bounds.ensures in
          record {
            ref_ptr_value = ap (word_place c.args.targets.ref_ptr) (none_start _ _ _ out);
            result_value = none_part _ _ _ out;
          }
    ]

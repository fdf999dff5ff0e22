-- `writer::put_heads` meets its contract: n, m and then one head a turn are stored as the file has them.
use mathlib.Core.Path.{◌∙◌}
use Prim.Native.Nat.{◌<◌}
use native.Mathlib.Omega.{arith}
use lib.ListN.{length}
use Rattle.graph.specs.Encode.{encode}
use Rattle.writer.proofs.Encoding.{Written, same_index}
use Rattle.writer.proofs.Storing.{begun_none, begun_put, begun_count}
use Rattle.writer.proofs.WellFormedRows.{written_rows}
use Rattle.writer.proofs.put_heads.Invariants.{words}
use Rattle.writer.proofs.put_heads.Goals.{Start}
use Rattle.writer.proofs.put_heads.Goals as goal

-- what is known of the rows
rows : (c : Start) → Written c.args.offsets.now c.args.targets.now c.args.n
rows c = written_rows c.requires.well_formed

pub loop-vertex-init : goal.loop-vertex-init
loop-vertex-init c =
    let known = rows (goal.at.loop-vertex-init c).Start in
    let none = begun_none (words c.args.offsets.now c.args.targets.now) c.args.file.now (omega (arith, known.size)) in
    let one = begun_put none c.args.n (omega (arith, known.size)) known.vertices c.put.ensures in
    begun_put one (length c.args.targets.now) (omega (arith, known.size)) known.edges c.put-2.ensures

pub index_after-head-requires : goal.index_after-head-requires
index_after-head-requires c =
    omega (arith, c.requires.well_formed, c.element.ensures.value, (rows (goal.at.index_after-head-requires c).Start).below c.loop-vertex.vertex)

pub loop-vertex-preserved : goal.loop-vertex-preserved
loop-vertex-preserved c =
    let known = rows (goal.at.loop-vertex-preserved c).Start in
    let below : c.loop-vertex.vertex < c.args.n = omega arith in
    let head =
    c.index_after-head.ensures.value ∙ same_index c.element.ensures.value c.element-in-loop-vertex.ensures.value ∙ known.head c.loop-vertex.vertex below in
    begun_count (begun_put c.loop-vertex.invariant _ (omega (arith, known.size)) head c.put-in-loop-vertex.ensures) (omega arith)

pub returns : goal.returns
unfolding encode
returns c = (begun_count c.loop-vertex.invariant (omega arith)).bytes

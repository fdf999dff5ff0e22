-- `graph::survey::Survey::write_offsets` meets its contract. The invariant is `Offsets`, and that `offset` is the vertex's own.
use native.Mathlib.Omega.{arith}
use mathlib.Core.Path.{◌≡◌, refl, sym, ◌∙◌}
use Prim.Native.Nat.{suc, ◌+◌, ◌-◌, ◌<◌}
use lib.ListN.{get_or}
use Rattle.graph.specs.Graph.{offsets_of}
use Rattle.graph.specs.File.{head_index, graph_of}
use Rattle.graph.proofs.ScanFacts.{head_within}
use Rattle.graph.proofs.RowFacts.{offset_last, offset_some, offset_none, offsets_start, offsets_next, offsets_done}
use Rattle.graph.proofs.survey.Survey.write_offsets.Goals.{After-word-head, then-head-ne0, else-head-ne0}
use Rattle.graph.proofs.survey.Survey.write_offsets.Goals as goal

pub loop-vertex-init : goal.loop-vertex-init
loop-vertex-init c =
    let chained = c.requires.chained in
    let last = offset_last chained c.requires.ranked in
    (last, omega (arith, chained.scanned.sized.few_edges), offsets_start chained c.requires.ranked c.args.offsets.now c.requires.offsets_long refl)

-- the mark of the vertex's head is one more than its offset
some : (c : After-word-head) → (c.word-head.result ≡ 0 → ⊥) → get_or c.args.marks.now (c.word-head.result - 1) 0 ≡ get_or (offsets_of (graph_of c.args.self.now.file.now)) (c.loop-vertex.vertex - 1) 0 + 1
unfolding head_index
some c h =
    let u = c.loop-vertex.vertex - 1 in
    rw c.word-head.ensures.value (offset_some c.requires.chained c.requires.ranked u (omega arith) (rw c.word-head.ensures.value at h))

pub element-offset-requires : goal.element-offset-requires
unfolding head_index
element-offset-requires c =
    omega (arith, head_within c.args.self.now.file.now c.requires.chained.scanned (c.loop-vertex.vertex - 1) (omega arith), c.requires.marks_long, c.word-head.ensures.value)

pub overflow_sub-offset : goal.overflow_sub-offset
overflow_sub-offset c = omega (arith, some (goal.at.overflow_sub-offset c).After-word-head c.if-head-ne0.true)

pub loop-vertex-preserved : goal.loop-vertex-preserved
unfolding head_index
loop-vertex-preserved c =
    let u = c.loop-vertex.vertex - 1 in
    let behind : suc u ≡ c.loop-vertex.vertex = omega arith in
    let own : (c.if-head-ne0.offset ≡ get_or (offsets_of (graph_of c.args.self.now.file.now)) u 0) × (c.if-head-ne0.offset < 65536) =
    elim c.if-head-ne0.branch [
      | then-head-ne0 w ↦ (omega (arith, some (goal.at.loop-vertex-preserved c).After-word-head w.if-head-ne0.true), omega arith)
      | else-head-ne0 w ↦ (
        w.offset-is ∙ c.loop-vertex.invariant.0
            ∙ sym (rw behind at (offset_none c.requires.chained c.requires.ranked u (omega arith) (sym c.word-head.ensures.value ∙ w.if-head-ne0.false))),
        omega arith,
      )
    ] in
    (own.0, own.1, offsets_next c.requires.chained c.requires.ranked c.loop-vertex.invariant.2 c.requires.offsets_long (omega arith) (omega arith) own.0)

pub returns : goal.returns
returns c = offsets_done c.requires.chained c.requires.ranked c.loop-vertex.invariant.2 c.requires.offsets_long (omega arith)

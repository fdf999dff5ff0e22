-- `verify::certificate::Claim::vertex_wrong` meets its contract: each way out is a fact about the labels that are read.
use mathlib.Core.Path.{◌∙◌}
use Rattle.verify.proofs.CertificateFacts.{view_below, unreached_source, unreached_other, reached_far, source_far, source_near, other_by}
use Rattle.verify.proofs.certificate.Claim.vertex_wrong.Goals as goal

pub returns-then-vertex-self : goal.returns-then-vertex-self
returns-then-vertex-self c =
    let s = c.args.self.now in
    unreached_source s.source s.offsets.now s.targets.now s.distances.now s.parents.now s.checkable c.args.vertex c.requires
    c.label.result c.label-parent.result c.label.ensures.value c.label-parent.ensures.value c.in_default.is c.if-vertex-self.true

pub returns-else-vertex-self : goal.returns-else-vertex-self
returns-else-vertex-self c =
    let s = c.args.self.now in
    c.is_some.ensures
    ∙ unreached_other s.source s.offsets.now s.targets.now s.distances.now s.parents.now s.checkable c.args.vertex c.requires
    c.label.result c.label-parent.result c.label.ensures.value c.label-parent.ensures.value c.in_default.is c.if-vertex-self.false

pub any_beyond-requires : goal.any_beyond-requires
any_beyond-requires c = view_below c.args.self.now.checkable.rows c.args.vertex c.requires c.links-row.ensures.result_value

pub returns-then-any_beyond : goal.returns-then-any_beyond
returns-then-any_beyond c =
    let s = c.args.self.now in
    reached_far s.source s.offsets.now s.targets.now s.distances.now s.parents.now s.checkable c.args.vertex c.requires
    c.label.result c.label-parent.result c.label.ensures.value c.label-parent.ensures.value c.in-Some.is
    c.any_beyond.ensures c.links-row.ensures.result_value c.if-any_beyond.true

pub returns-then-distance-ne0 : goal.returns-then-distance-ne0
returns-then-distance-ne0 c =
    let s = c.args.self.now in
    source_far s.source s.offsets.now s.targets.now s.distances.now s.parents.now s.checkable c.args.vertex c.requires
    c.label.result c.label-parent.result c.label.ensures.value c.label-parent.ensures.value c.in-Some.is
    c.any_beyond.ensures c.links-row.ensures.result_value c.if-any_beyond.false c.if-vertex-self-2.true c.if-distance-ne0.true

pub returns-else-distance-ne0 : goal.returns-else-distance-ne0
returns-else-distance-ne0 c =
    let s = c.args.self.now in
    c.ne.ensures
    ∙ source_near s.source s.offsets.now s.targets.now s.distances.now s.parents.now s.checkable c.args.vertex c.requires
    c.label.result c.label-parent.result c.label.ensures.value c.label-parent.ensures.value c.in-Some.is
    c.any_beyond.ensures c.links-row.ensures.result_value c.if-any_beyond.false c.if-vertex-self-2.true c.if-distance-ne0.false

pub returns : goal.returns
returns c =
    let s = c.args.self.now in
    c.parent_wrong.ensures
    ∙ other_by s.source s.offsets.now s.targets.now s.distances.now s.parents.now s.checkable c.args.vertex c.requires
    c.label.result c.label-parent.result c.label.ensures.value c.label-parent.ensures.value c.in-Some.is
    c.any_beyond.ensures c.links-row.ensures.result_value c.if-any_beyond.false c.if-vertex-self-2.false

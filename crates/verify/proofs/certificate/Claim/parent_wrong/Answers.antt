-- `verify::certificate::Claim::parent_wrong` meets its contract: each way out is a fact about the labels that are read.
use mathlib.Core.Path.{refl, sym, ap, ◌∙◌}
use mathlib.Core.Bool.{not}
use native.Mathlib.Numerals.{add-one}
use borrow.Author.Tests.{eq-eqb, ne_eqb}
use Rattle.verify.specs.Certificate.{parent_wrong, not_before}
use Rattle.verify.proofs.CertificateFacts.{parent_outside, parent_apart, parent_edge}
use Rattle.verify.proofs.certificate.Claim.parent_wrong.Goals as goal

pub returns-in_default : goal.returns-in_default
unfolding parent_wrong
returns-in_default c = rw c.in_default.is refl

pub returns-then-self-parent : goal.returns-then-self-parent
returns-then-self-parent c =
    let a = c.args in
    let s = a.self.now in
    rw c.in-Some.is (parent_outside s.offsets.now s.targets.now s.distances.now a.vertex a.distance c.in-Some.parent c.if-self-parent.true)

pub returns-in_default-label : goal.returns-in_default-label
unfolding not_before
returns-in_default-label c =
    let a = c.args in
    let s = a.self.now in
    rw c.in-Some.is (parent_apart s.offsets.now s.targets.now s.distances.now a.vertex a.distance c.in-Some.parent c.if-self-parent.false
    c.in_default-label.ensures.value refl)

pub returns-then-before-distance : goal.returns-then-before-distance
unfolding not_before
returns-then-before-distance c =
    let a = c.args in
    let s = a.self.now in
    rw c.in-Some.is (parent_apart s.offsets.now s.targets.now s.distances.now a.vertex a.distance c.in-Some.parent c.if-self-parent.false
    c.in-Some-label.ensures.value (ap not (ne_eqb _ _ (λ e. c.if-before-distance.true (add-one _ ∙ e)))))

pub returns : goal.returns
unfolding not_before
returns c =
    let a = c.args in
    let s = a.self.now in
    rw c.in-Some.is (parent_edge s.offsets.now s.targets.now s.distances.now a.vertex a.distance c.in-Some.parent c.if-self-parent.false
    c.in-Some-label.ensures.value s.checkable.rows (ap not (eq-eqb _ _ (sym (add-one _) ∙ c.if-before-distance.false)))
    c.has_edge.ensures c.links.ensures.result_value)

-- `graph::steps::examine` meets its contract: each return is one of the ways through the file's tests.
use mathlib.Core.Path.{◌≡◌, refl, sym, ◌∙◌}
use native.Mathlib.Omega.{arith}
use Rattle.numbers.proofs.Numbering.{number_some, left_by}
use Rattle.numbers.specs.Refusals.{first}
use Rattle.graph.specs.File.{vertex_count, edge_count}
use Rattle.graph.specs.Read.{header_refusals}
use Rattle.graph.proofs.HeaderFacts.{header_under_four, header_outside, header_length, header_passes, header_fits}
use Rattle.graph.proofs.ReadFacts.{by_header, by_scan, by_none}
use Rattle.graph.proofs.steps.examine.Goals.{Else-file-n}
use Rattle.graph.proofs.steps.examine.Goals as goal

pub returns-then-file-lt-HEADER_BYTES-clause-value : goal.returns-then-file-lt-HEADER_BYTES-clause-value
returns-then-file-lt-HEADER_BYTES-clause-value c =
    let file = c.args.file.now in
    by_header file (header_under_four file c.if-file-lt-HEADER_BYTES.true) (λ z. omega arith)

pub returns-then-outside_sizes-clause-value : goal.returns-then-outside_sizes-clause-value
unfolding vertex_count edge_count
returns-then-outside_sizes-clause-value c =
    let file = c.args.file.now in
    by_header file
    (header_outside file c.if-file-lt-HEADER_BYTES.false c.word-n.ensures.value c.word-m.ensures.value (sym c.outside_sizes.ensures ∙ c.if-outside_sizes.true))
    (λ z. omega arith)

pub returns-then-file-n-clause-value : goal.returns-then-file-n-clause-value
unfolding vertex_count edge_count
returns-then-file-n-clause-value c =
    let file = c.args.file.now in
    by_header file
    (header_length file c.if-file-lt-HEADER_BYTES.false c.word-n.ensures.value c.word-m.ensures.value (sym c.outside_sizes.ensures ∙ c.if-outside_sizes.false)
    c.if-file-n.true)
    (λ z. omega arith)

-- the header passes
passed : (c : Else-file-n) → first (header_refusals c.args.file.now) ≡ 0
unfolding vertex_count edge_count
passed c =
    header_passes c.args.file.now c.if-file-lt-HEADER_BYTES.false c.word-n.ensures.value c.word-m.ensures.value
    (sym c.outside_sizes.ensures ∙ c.if-outside_sizes.false) c.if-file-n.false

pub scan-requires : goal.scan-requires
unfolding vertex_count edge_count
scan-requires c = header_fits c.args.file.now c.if-file-lt-HEADER_BYTES.false c.word-n.ensures.value c.word-m.ensures.value (passed c)

pub returns-in_err-scan-clause-value : goal.returns-in_err-scan-clause-value
returns-in_err-scan-clause-value c =
    let refused = c.in_err-scan.field-0.0 in
    rw (left_by refused c.from_residual.result c.from_residual.ensures.1)
    (by_scan _ (passed (goal.at.returns-in_err-scan-clause-value c).Else-file-n) c.in_err-scan.ensures (number_some refused))

pub invariant_of-result : goal.invariant_of-result
unfolding vertex_count edge_count
invariant_of-result c = record { scanned = record { sized = header_fits c.args.file.now c.if-file-lt-HEADER_BYTES.false c.word-n.ensures.value c.word-m.ensures.value (passed (goal.at.invariant_of-result c).Else-file-n); clean = sym c.in_ok-scan.ensures } }

pub returns-clause-value : goal.returns-clause-value
unfolding vertex_count edge_count
returns-clause-value c = by_none _ (passed (goal.at.returns-clause-value c).Else-file-n) c.in_ok-scan.ensures refl c.word-n.ensures.value c.word-m.ensures.value

-- `graph::reader::read` meets its contract: each return is one of the ways through the reader's steps.
use mathlib.Core.Path.{◌≡◌, refl, sym, ◌∙◌}
use mathlib.Core.Bool.{Bool, false}
use Prim.Native.Nat.{◌+◌, ◌≤◌}
use lib.ListN.{length}
use Rattle.numbers.specs.Refusals.{first}
use Rattle.numbers.proofs.Numbering.{number_some, left_by}
use Rattle.graph.specs.Read.{rows_short}
use Rattle.graph.specs.Steps.{file_refusals, Scanned}
use Rattle.graph.specs.File.{vertex_count, edge_count}
use Rattle.graph.proofs.ReadFacts.{file_number, file_scanned, file_whole, long_enough, short_as, read_file, read_short, read_chains, read_whole}
use Rattle.graph.proofs.reader.read.Goals.{In_ok-survey, After-rows_short}
use Rattle.graph.proofs.reader.read.Goals as goal

pub returns-in_err-survey : goal.returns-in_err-survey
returns-in_err-survey c =
    let a = c.args in
    rw (left_by c.in_err-survey.field-0.0 c.from_residual.result c.from_residual.ensures.1)
    (read_file a.file.now a.offsets.now a.targets.now a.marks.now c.in_err-survey.ensures.value (number_some c.in_err-survey.field-0.0))

-- Past the file's tests: n and m are the file's.
scanned : (c : In_ok-survey) → Scanned c.args.file.now c.in_ok-survey.survey.vertices c.in_ok-survey.survey.edges
scanned c = file_scanned c.args.file.now c.in_ok-survey.ensures.value refl

none_refused : (c : In_ok-survey) → first (file_refusals c.args.file.now) ≡ 0
none_refused c = sym (file_number c.args.file.now c.in_ok-survey.ensures.value)

-- The test of the lists, and that they are long enough where it fails.
module _ (c : After-rows_short) where
  abbrev short : {found : Bool} → c.rows_short.result ≡ found → let a = c.args in
      rows_short (vertex_count a.file.now) (edge_count a.file.now) (length a.offsets.now) (length a.targets.now) (length a.marks.now) ≡ found
  short h =
      let a = c.args in
      short_as (length a.offsets.now) (length a.targets.now) (length a.marks.now) (file_scanned a.file.now c.in_ok-survey.ensures.value refl).sized c.rows_short.ensures h

  abbrev long : c.rows_short.result ≡ false → let a = c.args in let survey = c.in_ok-survey.survey in
      (survey.vertices + 1 ≤ length a.offsets.now) × (survey.edges ≤ length a.targets.now) × (survey.edges ≤ length a.marks.now)
  long h =
      let a = c.args in
      long_enough c.in_ok-survey.survey.vertices c.in_ok-survey.survey.edges (length a.offsets.now) (length a.targets.now) (length a.marks.now) (sym c.rows_short.ensures ∙ h)

pub returns-then-rows_short : goal.returns-then-rows_short
returns-then-rows_short c =
    let a = c.args in
    read_short a.file.now a.offsets.now a.targets.now a.marks.now (none_refused (goal.at.returns-then-rows_short c).In_ok-survey)
    (short (goal.at.returns-then-rows_short c).After-rows_short c.if-rows_short.true)

pub unchain-requires-clause-offsets_long : goal.unchain-requires-clause-offsets_long
unchain-requires-clause-offsets_long c = (long (goal.at.unchain-requires-clause-offsets_long c).After-rows_short c.if-rows_short.false).0

pub unchain-requires-clause-targets_long : goal.unchain-requires-clause-targets_long
unchain-requires-clause-targets_long c = (long (goal.at.unchain-requires-clause-targets_long c).After-rows_short c.if-rows_short.false).1

pub unchain-requires-clause-marks_long : goal.unchain-requires-clause-marks_long
unchain-requires-clause-marks_long c = (long (goal.at.unchain-requires-clause-marks_long c).After-rows_short c.if-rows_short.false).2

pub returns-in_err-unchain : goal.returns-in_err-unchain
returns-in_err-unchain c =
    let a = c.args in
    let refused = c.in_err-unchain.field-0.0 in
    let at = (goal.at.returns-in_err-unchain c).After-rows_short in
    rw (left_by refused c.from_residual-in_err-unchain.result c.from_residual-in_err-unchain.ensures.1)
    (read_chains a.file.now a.offsets.now a.targets.now a.marks.now (none_refused (goal.at.returns-in_err-unchain c).In_ok-survey) (short at c.if-rows_short.false)
    (rw (c.in_ok-survey.ensures.same_file, (scanned (goal.at.returns-in_err-unchain c).In_ok-survey).sized.edges) at c.in_err-unchain.ensures) (number_some refused))

pub returns : goal.returns
returns c =
    let a = c.args in
    let at = (goal.at.returns c).After-rows_short in
    read_whole a.file.now a.offsets.now a.targets.now a.marks.now (none_refused (goal.at.returns c).In_ok-survey) (short at c.if-rows_short.false)
    (rw (c.in_ok-survey.ensures.same_file, (scanned (goal.at.returns c).In_ok-survey).sized.edges) at c.in_ok-unchain.ensures) refl
    (file_whole a.file.now c.in_ok-survey.ensures.value refl)

-- `search::call::judge` meets its contract: each return is one of the ways through the tests.
use mathlib.Core.Path.{refl, sym}
use Rattle.numbers.proofs.Numbering.{number_some, left_by}
use Rattle.schedule.proofs.Schedules.{schedule_passed}
use Rattle.schedule.specs.Check.{schedule_number}
use Rattle.search.proofs.JudgeFacts.{judged_file, judged_source, judged_schedule, judged_short, judged_whole}
use Rattle.search.specs.Input.{lengths_in}
use Rattle.search.proofs.call.judge.Goals as goal

pub returns-in_err-survey-clause-value : goal.returns-in_err-survey-clause-value
returns-in_err-survey-clause-value c =
    let a = c.args in
    let refused = c.in_err-survey.field-0.0 in
    rw (left_by refused c.from_residual.result c.from_residual.ensures.1)
    (judged_file a.file.now a.source a.workers a.schedule.now (lengths_in a.lengths) c.in_err-survey.ensures.value (number_some refused))

pub returns-then-survey-source-clause-value : goal.returns-then-survey-source-clause-value
returns-then-survey-source-clause-value c =
    let a = c.args in
    judged_source a.file.now a.source a.workers a.schedule.now (lengths_in a.lengths) c.in_ok-survey.ensures.value refl c.if-survey-source.true

pub returns-in_err-check_schedule-clause-value : goal.returns-in_err-check_schedule-clause-value
returns-in_err-check_schedule-clause-value c =
    let a = c.args in
    let refused = c.in_err-check_schedule.field-0.0 in
    rw (left_by refused c.from_residual-in_err-check_schedule.result c.from_residual-in_err-check_schedule.ensures.1)
    (judged_schedule a.file.now a.source a.workers a.schedule.now (lengths_in a.lengths) c.in_ok-survey.ensures.value refl
    c.if-survey-source.false c.in_err-check_schedule.ensures (number_some refused))

pub lengths_short-requires : goal.lengths_short-requires
unfolding schedule_number
lengths_short-requires c =
    let a = c.args in (schedule_passed a.schedule.now a.workers (sym c.in_ok-check_schedule.ensures)).few_workers

pub returns-then-lengths_short-clause-value : goal.returns-then-lengths_short-clause-value
returns-then-lengths_short-clause-value c =
    let a = c.args in
    judged_short a.file.now a.source a.workers a.schedule.now (lengths_in a.lengths) c.in_ok-survey.ensures.value refl
    c.if-survey-source.false c.in_ok-check_schedule.ensures refl c.lengths_short.ensures c.if-lengths_short.true

pub returns-clause-value : goal.returns-clause-value
returns-clause-value c =
    let a = c.args in
    judged_whole a.file.now a.source a.workers a.schedule.now (lengths_in a.lengths) c.in_ok-survey.ensures.value refl
    c.if-survey-source.false c.in_ok-check_schedule.ensures refl c.lengths_short.ensures c.if-lengths_short.false

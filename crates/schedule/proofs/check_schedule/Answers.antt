-- `schedule::check_schedule` meets its contract: each way out has the number that the tests which led there give.
use borrow.Author.Tests.{lt-ltb, le-ltb}
use mathlib.Core.Path.{sym, ◌∙◌}
use Rattle.schedule.proofs.CheckFacts.{no_workers, many_workers, long_schedule, stray_schedule, taken_schedule}
use Rattle.schedule.proofs.check_schedule.Goals.{then-workers-eq0-via-then-workers-eq0, then-workers-eq0-via-else-workers-eq0+then-many}
use Rattle.schedule.proofs.check_schedule.Goals.{then-long-via-then-long, then-long-via-else-long+then-any_stray}
use Rattle.schedule.proofs.check_schedule.Goals as goal

pub returns-then-workers-eq0 : goal.returns-then-workers-eq0
returns-then-workers-eq0 c =
    let a = c.args in
    elim c.then-workers-eq0.branch [
      | then-workers-eq0-via-then-workers-eq0 w ↦ no_workers a.bytes.now a.workers w.if-workers-eq0.true
      | then-workers-eq0-via-else-workers-eq0+then-many w ↦
          many_workers a.bytes.now a.workers w.if-workers-eq0.false (lt-ltb _ _ w.if-many.true)
    ]

pub returns-then-long : goal.returns-then-long
returns-then-long c =
    let a = c.args in
    let few = le-ltb _ _ c.if-many.false in
    elim c.then-long.branch [
      | then-long-via-then-long w ↦
          long_schedule a.bytes.now a.workers c.if-workers-eq0.false few w.if-long.true
      | then-long-via-else-long+then-any_stray w ↦
          stray_schedule a.bytes.now a.workers c.if-workers-eq0.false few w.if-long.false (sym w.any_stray.ensures ∙ w.if-any_stray.true)
    ]

pub returns : goal.returns
returns c =
    let a = c.args in
    taken_schedule a.bytes.now a.workers c.if-workers-eq0.false (le-ltb _ _ c.if-many.false)
    c.if-long.false (sym c.any_stray.ensures ∙ c.if-any_stray.false)

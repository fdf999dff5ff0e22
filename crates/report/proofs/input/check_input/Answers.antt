-- `report::input::check_input` meets its contract: what passes its own tests is judged by its sizes.
use Prim.Native.Nat.{◌+◌}
use borrow.Author.Rules.{part_to_end}
use Rattle.report.proofs.InputFacts.{own_sizes}
use Rattle.report.proofs.input.check_input.Goals as goal

pub returns : goal.returns
returns c =
    own_sizes c.args.input.now c.if-input-lt6.false c.word-events.ensures.value c.if-long.false
    (part_to_end c.args.input.now (6 + c.word-events.result)) c.if-input-start.false c.word.ensures.value
    c.word-2.ensures.value c.check_sizes.ensures

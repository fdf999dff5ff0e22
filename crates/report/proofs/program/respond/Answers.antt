-- `report::program::respond` meets its contract: an output that is too short, a refusal of the program's own, or the search's lines.
use mathlib.Core.Path.{refl}
use Rattle.numbers.proofs.Numbering.{number_some}
use Rattle.text.proofs.OutputFacts.{respond_short}
use Rattle.report.specs.Respond.{response, output_places}
use Rattle.report.proofs.RespondFacts.{respond_refused, respond_lines}
use Rattle.report.proofs.program.respond.Goals as goal

pub returns-then-output-lt-OUTPUT_PLACES : goal.returns-then-output-lt-OUTPUT_PLACES
returns-then-output-lt-OUTPUT_PLACES c =
    let a = c.args in
    let facts = respond_short output_places (response a.input.now) a.output.now c.if-output-lt-OUTPUT_PLACES.true in
    record { output_after = facts.0; upper_bound = facts.1 }

pub returns-in-Err : goal.returns-in-Err
returns-in-Err c =
    let a = c.args in
    let facts = respond_refused a.input.now a.output.now c.if-output-lt-OUTPUT_PLACES.false c.in-Err.ensures (number_some c.in-Err.refused)
    c.put_first_line.ensures.prints in
    record { output_after = facts.0; upper_bound = facts.1 }

pub returns-in-Ok : goal.returns-in-Ok
returns-in-Ok c =
    let a = c.args in
    let facts = respond_lines a.input.now a.output.now c.if-output-lt-OUTPUT_PLACES.false c.in-Ok.ensures refl c.search_and_print.ensures in
    record { output_after = facts.0; upper_bound = facts.1 }

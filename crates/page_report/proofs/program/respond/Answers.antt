-- `page_report::program::respond` meets its contract: an output that is too short, a refusal of the program's own, or what the call for the pages gave.
use Rattle.numbers.proofs.Numbering.{number_some}
use Rattle.text.proofs.OutputFacts.{respond_short, respond_printed}
use Rattle.page_report.specs.Respond.{response, output_places}
use Rattle.page_report.proofs.RespondFacts.{own_printed}
use Rattle.page_report.proofs.program.respond.Goals as goal

pub returns-then-output-lt-OUTPUT_PLACES : goal.returns-then-output-lt-OUTPUT_PLACES
returns-then-output-lt-OUTPUT_PLACES c =
    let a = c.args in
    let facts = respond_short output_places (response a.input.now) a.output.now c.if-output-lt-OUTPUT_PLACES.true in
    record { output_after = facts.0; upper_bound = facts.1 }

pub returns-in-Err : goal.returns-in-Err
returns-in-Err c =
    let a = c.args in
    let facts = own_printed a.input.now a.output.now c.if-output-lt-OUTPUT_PLACES.false c.in-Err.ensures (number_some c.in-Err.refused)
    (rw c.number.ensures at c.put_number_line.ensures) in
    record { output_after = facts.0; upper_bound = facts.1 }

pub returns-in-Ok : goal.returns-in-Ok
returns-in-Ok c =
    let a = c.args in
    let facts = respond_printed output_places (response a.input.now) a.output.now c.if-output-lt-OUTPUT_PLACES.false c.page_and_print.ensures in
    record { output_after = facts.0; upper_bound = facts.1 }

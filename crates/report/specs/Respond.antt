-- Every byte that the program writes, for any input.
use Rattle.std.specs.Prelude.{cond, List, [], ◌++◌, ℕ, ◌+◌, ◌*◌, eqb}
use Rattle.numbers.specs.Numbers.{success}
use Rattle.numbers.specs.Refusals.{first}
use Rattle.text.specs.Output.{RespondOutcome, respond_by}
use Rattle.graph.specs.File.{vertex_count}
use Rattle.model.specs.Call.{Answer, Outcome, plays, outcome_of_search}
use Rattle.report.specs.Input.{source_in, workers_in, schedule_in, file_in}
use Rattle.report.specs.Input.{program_vertices, own_refusals, program_lists}
use Rattle.report.specs.Lines.{first_line, vertex_lines}

-- "then as above": the search, with the program's lists
unfoldable pub searched : List ℕ → Outcome
searched input =
    outcome_of_search (file_in input) (source_in input) (workers_in input) (schedule_in input) program_lists

-- "With 0 or 21, a line for each device ..; otherwise line one is all." (§11.4)
unfoldable pub lines : ℕ → Outcome → List ℕ
lines n o =
    first_line o.answer ++ cond (plays o.answer.number) (vertex_lines n o.lent.distances o.lent.parents) []

-- "A refusal other than 21 gives zeros beside its number." (§10.5)
abbrev pub refused_with : ℕ → Answer
refused_with number = record { number = number; used = 0; effective = 0; layer = 0 }

-- the program's output: its own refusals first, then the search's answer (§11.4)
unfoldable pub response : List ℕ → List ℕ
response input =
    let number = first (own_refusals input) in
    cond (eqb number success) (lines (vertex_count (file_in input)) (searched input)) (first_line (refused_with number))

-- room for any output: four numbers of at most 20 digits in line one, a vertex of 3 and two labels of 5 digits
-- in each other line
abbrev pub output_places : ℕ
output_places = 84 + 16 * program_vertices

-- the outcome of a call: a list of fewer than `output_places` places is left as it was, with the answer 0
abbrev pub outcome_of_respond : List ℕ → List ℕ → RespondOutcome
outcome_of_respond input output = respond_by output_places (response input) output

-- Every byte that the page program writes, for any input.
use Rattle.std.specs.Prelude.{cond, List, [], ◌∷◌, ◌++◌, ℕ, eqb}
use Rattle.numbers.specs.Numbers.{max_vertices, success}
use Rattle.numbers.specs.Refusals.{Refusal, first}
use Rattle.text.specs.Text.{line_feed, decimal}
use Rattle.text.specs.Output.{RespondOutcome, respond_by}
use Rattle.graph.specs.File.{vertex_count}
use Rattle.page.specs.Layout.{page_text, page_need}
use Rattle.page.specs.Page.{page_refusals}
use Rattle.page_report.specs.Input.{source_in, distances_in, parents_in, file_in, own_refusals, program_lists}

-- room for any output: the pages of the most vertices
abbrev pub output_places : ℕ
output_places = page_need max_vertices

-- the program's order: its own, then the page's, with the program's lists and room for any pages (§12.3)
unfoldable pub respond_refusals : List ℕ → List Refusal
respond_refusals input =
    own_refusals input
    ++ page_refusals (file_in input) (source_in input) (distances_in input) (parents_in input) program_lists
    output_places

-- a refusal is a line with its number (§12.4; docs/DECISIONS.md, 80)
unfoldable pub number_line : ℕ → List ℕ
number_line number = decimal number ++ (line_feed ∷ [])

-- the program's output: the pages and nothing else, or the line of a refusal (§12.4)
unfoldable pub response : List ℕ → List ℕ
response input =
    let number = first (respond_refusals input) in
    cond (eqb number success) (page_text (vertex_count (file_in input)) (distances_in input) (parents_in input))
    (number_line number)

-- the outcome of a call: a list of fewer than `output_places` places is left as it was, with the answer 0
abbrev pub outcome_of_respond : List ℕ → List ℕ → RespondOutcome
outcome_of_respond input output = respond_by output_places (response input) output

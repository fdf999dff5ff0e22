-- `page::layout::put_head_line` meets its contract: ten characters, and a number of at most four digits in ten columns.
use mathlib.Core.List.{[], ◌∷◌, ◌++◌}
use Rattle.text.specs.Text.{line_feed, decimal, right_aligned}
use Rattle.text.proofs.PrintFacts.{prints_then, prints_same}
use Rattle.page.specs.Layout.{title}
use Rattle.page.proofs.LineFacts.{head_line_columns}
use Rattle.page.proofs.layout.put_head_line.Goals as goal

pub returns-clause-prints : goal.returns-clause-prints
returns-clause-prints c =
    let number = c.args.number in
    let column = right_aligned 10 (decimal number) ++ (line_feed ∷ []) in
    prints_same (prints_then title column c.put_text-next.ensures.prints c.put_field.ensures.prints) (head_line_columns number)

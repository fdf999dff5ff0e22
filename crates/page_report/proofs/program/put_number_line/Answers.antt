-- `page_report::program::put_number_line` meets its contract: a number of at most 20 digits, and a line feed.
use mathlib.Core.Path.{ap}
use mathlib.Core.List.{List, [], ◌∷◌, ◌++◌}
use Prim.Native.Nat.{ℕ}
use Rattle.text.specs.Text.{line_feed, decimal}
use Rattle.text.proofs.PrintFacts.{prints_same}
use Rattle.text.proofs.TextFacts.{unaligned}
use Rattle.page_report.specs.Respond.{number_line}
use Rattle.page_report.proofs.program.put_number_line.Goals as goal

pub returns : goal.returns
unfolding number_line
returns c =
    let a = c.args in
    prints_same c.put_field.ensures.prints (ap (λ (t : List ℕ). t ++ (line_feed ∷ [])) (unaligned (decimal a.number)))

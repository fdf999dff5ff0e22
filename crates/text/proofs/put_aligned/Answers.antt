-- `text::put_aligned` meets its contract: as many blanks as the text leaves of its columns, the text, and one byte behind it.
use Rattle.std.proofs.Common.{ℕ, ◌-◌, ◌++◌, ◌∷◌, [], List, ap, ◌∙◌, length, replicate, rules, arith}
use lib.ListN.{length-replicate}
use Rattle.text.specs.Text.{space, right_aligned}
use Rattle.text.proofs.PrintFacts.{prints_part, prints_then}
use Rattle.text.proofs.put_aligned.Goals as goal

pub returns-clause-prints : goal.returns-clause-prints
unfolding right_aligned
returns-clause-prints c =
    let a = c.args in
    let text : List ℕ = a.text.now in
    let blanks : List ℕ = replicate (a.width - length text) space in
    let filled = c.fill.ensures.after (search rules) in
    let first = prints_part blanks a.output.now a.at
    (filled ∙ ap (λ (n : ℕ). replicate n space) (search rules)) (search (rules, length-replicate))
    (omega arith) (omega arith) in
    prints_then (blanks ++ text) (a.delimiter ∷ []) (prints_then blanks text first c.put_text-next.ensures.prints) c.put_text.ensures.prints

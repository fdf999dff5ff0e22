-- `report::lines::put_numbers` meets its contract: four fields, one behind the other.
use mathlib.Core.List.{List, [], ◌∷◌, ◌++◌}
use Prim.Native.Nat.{ℕ}
use Rattle.text.specs.Text.{space, line_feed, decimal, right_aligned}
use Rattle.text.proofs.PrintFacts.{prints_then, prints_same}
use Rattle.report.proofs.LineFacts.{first_line_fields}
use Rattle.report.proofs.lines.put_numbers.Goals as goal

pub returns-clause-prints : goal.returns-clause-prints
returns-clause-prints c =
    let a = c.args in
    let number : List ℕ = right_aligned 0 (decimal a.number) ++ (space ∷ []) in
    let used : List ℕ = right_aligned 0 (decimal a.used) ++ (space ∷ []) in
    let effective : List ℕ = right_aligned 0 (decimal a.effective) ++ (space ∷ []) in
    let layer : List ℕ = right_aligned 0 (decimal a.layer) ++ (line_feed ∷ []) in
    let two = prints_then number used c.put_field-first.ensures.prints c.put_field-second.ensures.prints in
    let three = prints_then (number ++ used) effective two c.put_field-third.ensures.prints in
    prints_same (prints_then (number ++ used ++ effective) layer three c.put_field.ensures.prints)
    (first_line_fields a.number a.used a.effective a.layer)

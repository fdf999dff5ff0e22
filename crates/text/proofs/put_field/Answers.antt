-- `text::put_field` meets its contract: the digits that the kit makes are those of the number in decimal.
use Rattle.std.proofs.Common.{◌≡◌, ◌∙◌, take, rules}
use Rattle.text.specs.Text.{decimal}
use Rattle.text.proofs.DecimalFacts.{digits_decimal, fewest_twenty}
use Rattle.text.proofs.put_field.Goals.{After-decimal-count}
use Rattle.text.proofs.put_field.Goals as goal

-- the digits that the kit made are the number in decimal
made : (c : After-decimal-count) → take c.decimal-count.result c.decimal-count.new.out ≡ decimal c.args.x
made c =
    let count = c.decimal-count.result in
    let fewest = c.decimal-count.ensures.len in
    c.decimal-count.ensures.digits ∙ digits_decimal count c.args.x fewest (fewest_twenty count c.args.x fewest (search rules))

pub put_aligned-requires : goal.put_aligned-requires
put_aligned-requires c = rw (made (goal.at.put_aligned-requires c).After-decimal-count) c.requires

pub returns : goal.returns
returns c = rw (made (goal.at.returns c).After-decimal-count) at c.put_aligned.ensures

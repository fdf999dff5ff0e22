-- `text::put_text` meets its contract: the text lies behind what is printed.
use native.Mathlib.Omega.{arith}
use Rattle.text.proofs.PrintFacts.{prints_part}
use Rattle.text.proofs.put_text.Goals as goal

pub returns-clause-prints : goal.returns-clause-prints
returns-clause-prints c =
    prints_part c.args.text.now c.args.output.now c.args.at c.copy_from_slice.ensures.after (omega arith) (omega arith) (omega arith)

-- `view::check_links` meets its contract: its own test is the view's, by what `bounds` ensures.
use borrow.Author.Tests.{lt-ltb, le-ltb}
use native.Mathlib.Omega.{arith}
use Rattle.numbers.specs.Refusals.{first}
use Rattle.graph.specs.Links.{links_number}
use Rattle.view.proofs.check_links.Goals as goal

pub returns-in-Some : goal.returns-in-Some
unfolding links_number first
returns-in-Some c = let row = c.in-Some.row in simp (← c.in-Some.ensures.0, le-ltb row.end row.start (omega arith))

pub returns-in_default : goal.returns-in_default
unfolding links_number first
returns-in_default c = let row = c.in-Some.row in simp (← c.in-Some.ensures.0, lt-ltb row.end row.start (omega arith))

pub returns-in_default-2 : goal.returns-in_default-2
unfolding links_number first
returns-in_default-2 c = simp (rw c.in_default.is at c.bounds.ensures)

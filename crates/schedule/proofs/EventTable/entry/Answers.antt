-- `schedule::EventTable::entry` meets its contract: the table's entry at a byte is that of the byte's event.
use mathlib.Core.Path.{◌∙◌}
use native.Mathlib.Omega.{arith}
use Rattle.schedule.proofs.TableFacts.{table_at}
use Rattle.schedule.proofs.EventTable.entry.Goals as goal

pub returns : goal.returns
returns c =
    let a = c.args in
    let ranged = c.ranges.byte.fits in
    c.from-2.ensures ∙ rw (c.from.ensures, a.self.now.whole) (table_at a.byte a.place (omega arith) c.requires)

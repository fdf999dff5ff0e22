-- `schedule::EventTable::look_up` meets its contract: the entry of a byte says the byte's event, and each arm has the event of its kind.
use mathlib.Core.Path.{◌≡◌, sym, ◌∙◌}
use native.Mathlib.Omega.{arith}
use Rattle.schedule.specs.Events.{event_of}
use Rattle.schedule.proofs.TableFacts.{event_in, entry_event, past_kinds}
use Rattle.schedule.proofs.EventTable.look_up.Goals.{After-entry-v}
use Rattle.schedule.proofs.EventTable.look_up.Goals as goal

-- the entry's three parts say the byte's event
says : (c : After-entry-v) → event_in c.entry-kind.result c.entry-w.result c.entry-v.result ≡ event_of c.args.byte
says c = entry_event (event_of c.args.byte) c.entry-kind.ensures c.entry-w.ensures c.entry-v.ensures

pub returns-in-0 : goal.returns-in-0
returns-in-0 c = rw c.in-0.is at (says (goal.at.returns-in-0 c).After-entry-v)

pub returns-in-1 : goal.returns-in-1
returns-in-1 c = rw c.in-1.is at (says (goal.at.returns-in-1 c).After-entry-v)

pub returns-in-2 : goal.returns-in-2
returns-in-2 c = rw c.in-2.is at (says (goal.at.returns-in-2 c).After-entry-v)

pub returns-in-3 : goal.returns-in-3
returns-in-3 c = rw c.in-3.is at (says (goal.at.returns-in-3 c).After-entry-v)

pub returns-in_default : goal.returns-in_default
returns-in_default c = sym (past_kinds _ _ _ (omega arith)) ∙ says (goal.at.returns-in_default c).After-entry-v

-- `schedule::EventTable::byte_fits` meets its contract: the three tests of the entry tell whether its event is within P.
use Rattle.schedule.specs.Events.{event_of}
use Rattle.schedule.proofs.TableFacts.{entry_within}
use Rattle.schedule.proofs.EventTable.byte_fits.Goals as goal

pub returns : goal.returns
returns c = entry_within c.args.workers (event_of c.args.byte) c.requires c.entry-kind.ensures c.entry-w.ensures c.entry-v.ensures

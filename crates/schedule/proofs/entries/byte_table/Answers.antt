-- `schedule::entries::byte_table` meets its contract: the checker computes the entries of all 256 bytes and compares them with the constant's.
use mathlib.Core.Path.{refl}
use Rattle.schedule.specs.Table.{byte_table, entry_of}
use Rattle.schedule.specs.Events.{event_of, form_of}
use Rattle.lists.specs.Lists.{numbers_from}
use mathlib.Core.List.{flatten}
use Rattle.schedule.proofs.entries.byte_table.Goals as goal

pub returns : goal.returns
unfolding byte_table entry_of event_of form_of numbers_from flatten
returns c = refl

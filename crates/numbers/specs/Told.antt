-- Document 01's number for each case of an answer that is an enum: "a definition gives this paper's number and
-- values for each of its cases, and the promises use that definition".
use Rattle.std.specs.Prelude.{ℕ, Result, Ok, Err}
use Rattle.numbers.specs.Numbers.{success, bad_length, bad_size, bad_target, bad_index, repeated, unreached}
use Rattle.numbers.specs.Numbers.{bad_source, bad_workers, bad_schedule, bad_result, bad_rows, bad_sleepers, short_list}
use Rattle.numbers.specs.declared.refused.Refused.{Refused}
use Rattle.numbers.specs.declared.refused.Refused.TheVariants.{BadLength, BadSize, BadTarget, BadIndex}
use Rattle.numbers.specs.declared.refused.Refused.TheVariants.{Repeated, Unreached, BadSource, BadWorkers}
use Rattle.numbers.specs.declared.refused.Refused.TheVariants.{BadSchedule, BadResult, BadRows, BadSleepers}
use Rattle.numbers.specs.declared.refused.Refused.TheVariants.{ShortList}

-- the numbers of "Turned down by the input" and "Turned down by the state" (§10.1)
abbrev pub number_of : Refused → ℕ
number_of BadLength = bad_length
number_of BadSize = bad_size
number_of BadTarget = bad_target
number_of BadIndex = bad_index
number_of Repeated = repeated
number_of Unreached = unreached
number_of BadSource = bad_source
number_of BadWorkers = bad_workers
number_of BadSchedule = bad_schedule
number_of BadResult = bad_result
number_of BadRows = bad_rows
number_of BadSleepers = bad_sleepers
number_of ShortList = short_list

-- "0 is success" (§10.1), any other is the refusal's
abbrev pub told : {T : Type 0} → Result T Refused → ℕ
told (Ok _) = success
told (Err refused) = number_of refused

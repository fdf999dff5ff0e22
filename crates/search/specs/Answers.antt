-- What an answer of the search is in document 01's terms: number, events used, effective events, d.
use Rattle.std.specs.Prelude.{Result, Ok, Err}
use Rattle.numbers.specs.Told.{number_of}
use Rattle.numbers.specs.declared.refused.Refused.{Refused}
use Rattle.model.specs.Call.{Answer}
use Rattle.engine.specs.Runs.{answer_in}
use Rattle.engine.specs.declared.Answer as engine
use Rattle.search.specs.Played.{refused_with}

-- "A refusal other than 21 gives zeros beside its number." (§10.5)
abbrev pub answer_of : Result engine.Answer Refused → Answer
answer_of (Ok answer) = answer_in answer
answer_of (Err refused) = refused_with (number_of refused)

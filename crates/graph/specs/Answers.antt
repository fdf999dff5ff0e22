-- What an answer of the reader's steps is in document 01's terms: the number, and n and m beside 0.
use Rattle.std.specs.Prelude.{Result, Ok, Err}
use Rattle.numbers.specs.Numbers.{success}
use Rattle.numbers.specs.Told.{number_of}
use Rattle.numbers.specs.declared.refused.Refused.{Refused}
use Rattle.graph.specs.Read.{ReadAnswer, refusal_answer}
use Rattle.graph.specs.declared.survey.Size.{Size}
use Rattle.graph.specs.declared.survey.Survey.{Survey}

-- "A refusal other than 21 gives zeros beside its number." (§10.5)
abbrev pub answer_of : Result Survey Refused → ReadAnswer
answer_of (Ok survey) = record { number = success; vertices = survey.vertices; edges = survey.edges }
answer_of (Err refused) = refusal_answer (number_of refused)

-- the same of the reader's answer
abbrev pub read_answer_of : Result Size Refused → ReadAnswer
read_answer_of (Ok size) = record { number = success; vertices = size.vertices; edges = size.edges }
read_answer_of (Err refused) = refusal_answer (number_of refused)

-- What the run of a schedule takes for granted and promises. A prime marks what stands there afterwards.
-- Only the contracts of inner steps cite these, but for `number_of` and `answer_in`, what a run's ending and
-- answer are in document 01's terms.
use Rattle.std.specs.Prelude.{◌≡◌, cond, List, map, ℕ, ◌≤◌, length}
use Rattle.numbers.specs.Numbers.{max_events, success, unfinished}
use Rattle.graph.specs.Graph.{rows_of}
use Rattle.model.specs.Play.{Run}
use Rattle.model.specs.Words.{word_of}
use Rattle.model.specs.Histogram.{recount}
use Rattle.model.specs.Demand.{Accepted}
use Rattle.opening.specs.Opening.{Sized}
use Rattle.model.specs.Call.{Answer}
use Rattle.engine.specs.declared.Ending.{Ending}
use Rattle.engine.specs.declared.Ending.TheVariants.{Finished, Spent}
use Rattle.engine.specs.declared.Answer as code
use Rattle.graph.specs.Steps.{GraphRows}

-- what `run` takes for granted: the rows of a graph, an accepted call, "sheet 0 to 5,000,000 bytes", and lists
-- that are as long as their needs
pub record Runnable (source P : ℕ)
    (schedule offsets targets distances parents histogram left right values : List ℕ) : Type 0 where
  pub rows : GraphRows offsets targets (length distances)
  pub accepted : Accepted (rows_of offsets targets) source P schedule
  pub few_events : length schedule ≤ max_events
  pub sized : Sized P distances parents histogram left right values

-- an answer by its four numbers
abbrev pub answer_of : ℕ → ℕ → ℕ → ℕ → Answer
answer_of number used effective layer = record { number = number; used = used; effective = effective; layer = layer }

-- "0 is success", "21: the sheet is spent and the search isn't finished" (§10.1)
abbrev pub number_of : Ending → ℕ
number_of Finished = success
number_of Spent = unfinished

-- the code's answer as the model's
abbrev pub answer_in : code.Answer → Answer
answer_in answer = answer_of (number_of answer.ending) answer.used answer.effective answer.layer

-- an answer that tells the model's run: "number, events used, effective events, d"
pub record Tells (r : Run) (answer : Answer) : Type 0 where
  pub number : answer.number ≡ cond r.state.finished success unfinished
  pub used : answer.used ≡ r.used
  pub effective : answer.effective ≡ r.effective
  pub layer : answer.layer ≡ r.state.layer

-- what `run` promises: answer and labels of the model's run, and a recount of its distances
pub record Ran (r : Run) (distances' parents' histogram' : List ℕ) (answer : Answer) : Type 0 where
  pub told : Tells r answer
  pub distances : distances' ≡ map word_of r.state.labels.distances
  pub parents : parents' ≡ map word_of r.state.labels.parents
  pub histogram : histogram' ≡ recount r.state.labels.distances

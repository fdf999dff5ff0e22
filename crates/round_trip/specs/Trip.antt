-- Writing rows and reading back what was written, as one outcome: the two calls' own outcomes, one after the other.
use Rattle.std.specs.Prelude.{ℕ, cond, List, eqb, length, take}
use Rattle.numbers.specs.Numbers.{success}
use Rattle.graph.specs.File.{file_length}
use Rattle.graph.specs.Read.{ReadOutcome, outcome_of_read}
use Rattle.graph.specs.Write.{row_count, WriteOutcome, outcome_of_write}

-- the writer's number and, with 0, the reader's; and what the lent lists hold at exit
pub record TripOutcome : Type 0 where
  pub number : ℕ
  pub file : List ℕ
  pub offsets : List ℕ
  pub targets : List ℕ
  pub marks : List ℕ

-- the outcome that a call has
abbrev pub trip_exit : ℕ → List ℕ → List ℕ → List ℕ → List ℕ → TripOutcome
trip_exit number file offsets targets marks = record {
  number = number;
  file = file;
  offsets = offsets;
  targets = targets;
  marks = marks;
}

-- after the writer: a refusal is handed on, and with 0 the file's own bytes, at the front of the lent list, are read
unfoldable pub trip_after : WriteOutcome → ℕ → List ℕ → List ℕ → List ℕ → TripOutcome
trip_after wrote bytes offsets targets marks =
    let read : ReadOutcome = outcome_of_read (take bytes wrote.file) offsets targets marks in
    cond (eqb wrote.number success)
    (trip_exit read.answer.number wrote.file read.offsets read.targets read.marks)
    (trip_exit wrote.number wrote.file offsets targets marks)

-- the outcome of `write_and_read`: rows and a list of bytes to write to, and three lists to read into
unfoldable pub outcome_of_trip : List ℕ → List ℕ → List ℕ → List ℕ → List ℕ → List ℕ → TripOutcome
outcome_of_trip offsets targets file offsets₀ targets₀ marks₀ =
    trip_after (outcome_of_write offsets targets file) (file_length (row_count offsets) (length targets))
    offsets₀ targets₀ marks₀

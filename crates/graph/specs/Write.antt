-- What `write` answers and leaves, for every offsets, targets and lent list of bytes.
-- The order of refusals is `write_refusals`.
use Rattle.std.specs.Prelude.{ℕ, pred, Bool, cond, not, ◌||◌, List, [], ◌∷◌, ltb, eqb, length, get_or}
use Rattle.numbers.specs.Numbers.{success, bad_rows, short_list}
use Rattle.numbers.specs.Refusals.{Refusal, ◌gives◌, first}
use Rattle.lists.specs.Lists.{overlay, reaches, falls_from}
use Rattle.graph.specs.Graph.{rows_of}
use Rattle.graph.specs.File.{file_length}
use Rattle.graph.specs.Read.{outside_sizes}
use Rattle.graph.specs.Encode.{encode}

-- "n is the offsets length less one" (§2.8)
abbrev pub row_count : List ℕ → ℕ
row_count offsets = pred (length offsets)

-- 11 of the writer: "n or m outside its size, offsets empty, falling, not 0 first or not m last, or a target
-- of n or more, where n is the offsets length less one and m the targets length" (§2.8)
unfoldable pub malformed : List ℕ → List ℕ → Bool
malformed offsets targets =
    outside_sizes (row_count offsets) (length targets)
    || eqb (length offsets) 0
    || falls_from 0 offsets
    || not (eqb (get_or offsets 0 0) 0)
    || not (eqb (get_or offsets (row_count offsets) 0) (length targets))
    || reaches (row_count offsets) targets

-- "the writer: 11, 20"; "the writer's bytes as the file's length" (§10.2)
unfoldable pub write_refusals : List ℕ → List ℕ → List ℕ → List Refusal
write_refusals offsets targets file =
    malformed offsets targets gives bad_rows
    ∷ ltb (length file) (file_length (row_count offsets) (length targets)) gives short_list
    ∷ []

-- the writer's number
unfoldable pub write_number : List ℕ → List ℕ → List ℕ → ℕ
write_number offsets targets file = first (write_refusals offsets targets file)

-- what a call answers, and what the lent bytes hold at exit
pub record WriteOutcome : Type 0 where
  pub number : ℕ
  pub file : List ℕ

-- the outcome that a call has: its number, and the bytes as it leaves them
abbrev pub write_exit : ℕ → List ℕ → WriteOutcome
write_exit number file = record { number = number; file = file }

-- the outcome with this number: a refusal "changes nothing", "Places past the need keep their contents" (§2.9, §10.5)
unfoldable pub write_outcome_by : ℕ → List ℕ → List ℕ → List ℕ → WriteOutcome
write_outcome_by number offsets targets file = record {
  number = number;
  file = cond (eqb number success) (overlay (encode (rows_of offsets targets)) file) file;
}

-- the outcome of `write` (§2.9)
unfoldable pub outcome_of_write : List ℕ → List ℕ → List ℕ → WriteOutcome
outcome_of_write offsets targets file = write_outcome_by (write_number offsets targets file) offsets targets file

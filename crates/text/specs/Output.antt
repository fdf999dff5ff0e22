-- A program's output: so many bytes at the front of a list that it was lent.
use Rattle.std.specs.Prelude.{cond, List, ℕ, ltb, length}
use Rattle.lists.specs.Lists.{overlay}

-- how many bytes were written, and the output list at exit
pub record RespondOutcome : Type 0 where
  pub count : ℕ
  pub output : List ℕ

-- what the call answered, and the list at exit
abbrev pub respond_exit : ℕ → List ℕ → RespondOutcome
respond_exit count output = record { count = count; output = output }

-- the outcome of a call that writes a text: a list of fewer than `places` places is left as it was, with the
-- answer 0
unfoldable pub respond_by : ℕ → List ℕ → List ℕ → RespondOutcome
respond_by places text output =
    cond (ltb (length output) places) (respond_exit 0 output) (respond_exit (length text) (overlay text output))

-- What the steps of printing take for granted and promise: each prints behind the text that stands there.
-- Only the contracts of inner steps cite these.
use Rattle.std.specs.Prelude.{◌≡◌, List, ◌++◌, ℕ, ◌≤◌, length}
use Rattle.lists.specs.Lists.{overlay}

-- a text stands at the front of the list, and all behind it is as it was: `at` places are used
pub record Printed (old text output : List ℕ) (at : ℕ) : Type 0 where
  pub laid : output ≡ overlay text old
  pub used : at ≡ length text
  pub room : length text ≤ length old

-- a step that prints `more` behind whatever stands there already
abbrev pub Prints : List ℕ → List ℕ → ℕ → List ℕ → ℕ → Type 0
Prints more output at output' at' =
    (old text : List ℕ) → Printed old text output at → Printed old (text ++ more) output' at'

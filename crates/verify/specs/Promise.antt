-- What a check promises, whatever it is called with: the outcome of Check.antt, and that its 0 and its 10 are
-- document 01's condition, in terms of paths.
use Rattle.std.specs.Prelude.{◌≡◌, List, ℕ}
use Rattle.numbers.specs.Numbers.{success, bad_result}
use Rattle.numbers.specs.Refusals.{first}
use Rattle.graph.specs.File.{vertex_count, graph_of}
use Rattle.model.specs.Paths.{RightResult}
use Rattle.model.specs.Words.{labels_in}
use Rattle.verify.specs.Check.{CheckLent, CheckOutcome, check_input}

-- the lists that the caller lends for writing
abbrev pub lent_lists : List ℕ → List ℕ → List ℕ → CheckLent
lent_lists offsets targets marks = record { offsets = offsets; targets = targets; marks = marks }

-- what the call answered, and the lists at exit
abbrev pub check_exit : ℕ → CheckLent → CheckOutcome
check_exit number after = record { number = number; lent = after }

-- "The checker gives 0 exactly when distances are right for every device, the source is its own parent, unreached
-- devices have an unset parent, and each other parent has a link to its device and a distance one less" (§8.1)
abbrev pub RightLists : List ℕ → ℕ → List ℕ → List ℕ → Type 0
RightLists file source distances parents =
    RightResult (graph_of file) source (labels_in (vertex_count file) distances parents)

module _ (file : List ℕ) (source : ℕ) (distances parents : List ℕ) (lent : CheckLent) where
  -- nothing is refused before the result is looked at
  abbrev pub Passed : Type 0
  Passed = first (check_input file source distances parents lent) ≡ success

  -- a call that answered this number (§8.2)
  pub record Judged (number : ℕ) : Type 0 where
    -- 0 exactly where the earlier tests pass and the result is right
    pub accepted : number ≡ success → Passed × RightLists file source distances parents
    pub right : Passed → RightLists file source distances parents → number ≡ success
    -- 10 exactly where the earlier tests pass and the result isn't
    pub rejected : number ≡ bad_result → Passed × (RightLists file source distances parents → ⊥)
    pub wrong : Passed → (RightLists file source distances parents → ⊥) → number ≡ bad_result

-- What a call promises of its answer holds of the answer that stands in the caller's list, since the two are the same.
use mathlib.Core.Path.{◌≡◌, refl, sym, ap, ◌∙◌, subst}
use mathlib.Core.List.{List}
use Prim.Native.Nat.{ℕ}
use Rattle.std.specs.Prelude.{Result, Ok, Err}
use Rattle.numbers.specs.Told.{told}
use Rattle.numbers.specs.declared.refused.Refused.{Refused}
use Rattle.graph.specs.Answers.{read_answer_of}
use Rattle.graph.specs.Read.{ReadOutcome, ReadAnswer, read_exit}
use Rattle.graph.specs.declared.survey.Size.{Size}
use Rattle.model.specs.Call.{Lent, Answer, outcome_of_search}
use Rattle.search.specs.Promise.{search_exit, Kept}

-- the number of a read's answer
pub read_number_told : (r : Result Size Refused) → told r ≡ (read_answer_of r).number
read_number_told (Ok size) = refl
read_number_told (Err refused) = refl

-- of a read
pub read_told : {x r : ReadAnswer} {offsets targets marks : List ℕ} {o : ReadOutcome} → x ≡ r → read_exit r offsets targets marks ≡ o
    → (read_exit x offsets targets marks ≡ o) × (r.number ≡ x.number)
read_told {offsets = offsets} {targets} {marks} same e =
    (ap (λ (a : ReadAnswer). read_exit a offsets targets marks) same ∙ e, ap (λ (a : ReadAnswer). a.number) (sym same))

-- of a search
pub search_told : (file : List ℕ) (source P : ℕ) (schedule : List ℕ) (lent : Lent) {x r : Answer} {after : Lent} → x ≡ r
    → (search_exit r after ≡ outcome_of_search file source P schedule lent) × Kept file source P schedule lent r after
    → (search_exit x after ≡ outcome_of_search file source P schedule lent) × (Kept file source P schedule lent x after × (r.number ≡ x.number))
search_told file source P schedule lent {after = after} same e = (
  ap (λ (a : Answer). search_exit a after) same ∙ e.0,
  (subst (λ (a : Answer). Kept file source P schedule lent a after) (sym same) e.1, ap (λ (a : Answer). a.number) (sym same)),
)

-- What a call for the pages answers and what every lent list holds at exit, for every file, source, result and
-- list. The order of refusals is `page_refusals`. Distances and parents are lent for reading alone, so nothing is
-- said of them at exit.
use Rattle.std.specs.Prelude.{Bool, cond, List, [], ◌∷◌, ◌++◌, ℕ, eqb, ltb, length}
use Rattle.numbers.specs.Numbers.{success, short_list}
use Rattle.numbers.specs.Refusals.{Refusal, ◌gives◌, first}
use Rattle.lists.specs.Lists.{overlay}
use Rattle.graph.specs.File.{vertex_count}
use Rattle.verify.specs.Check.{CheckLent, check_refusals, outcome_of_check}
use Rattle.page.specs.Layout.{page_need, page_text}

-- "20 for a page list too short", by its length (§9.1)
unfoldable pub page_short : List ℕ → ℕ → Bool
page_short file room = ltb room (page_need (vertex_count file))

-- "the checker's numbers come first, then 20 for a page list too short" (§9.1)
unfoldable pub page_refusals : List ℕ → ℕ → List ℕ → List ℕ → CheckLent → ℕ → List Refusal
page_refusals file source distances parents lent room =
    check_refusals file source distances parents lent
    ++ (page_short file room gives short_list ∷ [])

-- the call's answer: "the number alone"
unfoldable pub page_answer : List ℕ → ℕ → List ℕ → List ℕ → CheckLent → ℕ → ℕ
page_answer file source distances parents lent room = first (page_refusals file source distances parents lent room)

-- what a call answers, and the lists at exit
pub record PageOutcome : Type 0 where
  pub number : ℕ
  pub lent : CheckLent
  pub bytes : List ℕ

-- the outcome: rows and marks as the checker leaves them, so with the late 20 "as after 10";
-- "No refusal changes a page byte" (§9.1, §10.4)
unfoldable pub outcome_of_page : List ℕ → ℕ → List ℕ → List ℕ → CheckLent → List ℕ → PageOutcome
outcome_of_page file source distances parents lent bytes =
    let number = page_answer file source distances parents lent (length bytes) in
    record {
      number = number;
      lent = (outcome_of_check file source distances parents lent).lent;
      bytes = cond (eqb number success) (overlay (page_text (vertex_count file) distances parents) bytes) bytes;
    }

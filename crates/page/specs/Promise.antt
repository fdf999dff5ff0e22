-- What a call for the pages promises, whatever it is called with: the outcome of Page.antt, and that pages are of
-- a right result and can be read back.
use Rattle.std.specs.Prelude.{◌≡◌, List, ℕ, take}
use Rattle.numbers.specs.Numbers.{success}
use Rattle.graph.specs.File.{vertex_count}
use Rattle.verify.specs.Check.{CheckLent}
use Rattle.verify.specs.Promise.{RightLists}
use Rattle.page.specs.Layout.{page_need}
use Rattle.page.specs.Columns.{read_pages, lists_on_pages}
use Rattle.page.specs.Page.{PageOutcome}

-- what the call answered, and the lists at exit
abbrev pub page_exit : ℕ → CheckLent → List ℕ → PageOutcome
page_exit number lent bytes = record { number = number; lent = lent; bytes = bytes }

-- a call that answered this number and left the page list so
pub record OnPaper (file : List ℕ) (source : ℕ) (distances parents : List ℕ)
    (number : ℕ) (bytes : List ℕ) : Type 0 where
  -- "For a finished result": with 0 the distances and parents are right, by paths (§9.1)
  pub right : number ≡ success → RightLists file source distances parents
  -- "reading the columns back gives the lists" (§9.4)
  pub read_back : number ≡ success
      → read_pages (take (page_need (vertex_count file)) bytes) ≡ lists_on_pages (vertex_count file) distances parents

-- What the checker, and the call for pages, answer to the distances and parents that a search left.
use Rattle.std.specs.Prelude.{◌≡◌, false, List, ℕ, ◌≤◌, length}
use Rattle.numbers.specs.Numbers.{success}
use Rattle.lists.specs.Lists.{overlay}
use Rattle.graph.specs.File.{vertex_count, edge_count}
use Rattle.graph.specs.Read.{rows_short}
use Rattle.model.specs.Call as call
use Rattle.model.specs.Words.{labels_in}
use Rattle.verify.specs.Check.{CheckLent, outcome_of_check}
use Rattle.verify.specs.Promise.{check_exit}
use Rattle.page.specs.Layout.{page_text, page_need}
use Rattle.page.specs.Page.{outcome_of_page}
use Rattle.page.specs.Promise.{page_exit}

-- the lists of a search that the checker needs too
abbrev pub row_lists : call.Lent → CheckLent
row_lists after = record { offsets = after.offsets; targets = after.targets; marks = after.marks }

-- a check, by its contract: of these distances and parents, lent these lists, it answered this number and left
-- the lists so
abbrev pub CheckAnswers : List ℕ → ℕ → List ℕ → List ℕ → CheckLent → ℕ → CheckLent → Type 0
CheckAnswers file source distances parents lent number left =
    check_exit number left ≡ outcome_of_check file source distances parents lent

-- every check of this file and source, and of the labels that were left, finds them right
pub record Accepts (file : List ℕ) (source : ℕ) (after : call.Lent) : Type 0 where
  -- with any lists that are long enough, of any two lists that have the search's labels in their first n places
  pub any_lists : (distances parents : List ℕ)
      → labels_in (vertex_count file) distances parents ≡ labels_in (vertex_count file) after.distances after.parents
      → (lent : CheckLent) {left : CheckLent} {number : ℕ}
      → rows_short (vertex_count file) (edge_count file)
      (length lent.offsets) (length lent.targets) (length lent.marks) ≡ false
      → CheckAnswers file source distances parents lent number left → number ≡ success
  -- with the search's own lists, which are long enough; and it leaves them as the search did
  pub own_lists : {left : CheckLent} {number : ℕ}
      → CheckAnswers file source after.distances after.parents (row_lists after) number left
      → (number ≡ success) × (left ≡ row_lists after)

-- every call for the pages of this file and source, and of the labels that were left, lays them out where its
-- page list is long enough
pub record LaidOut (file : List ℕ) (source : ℕ) (after : call.Lent) : Type 0 where
  -- with any lists that are long enough, of any two lists that have the search's labels in their first n places
  pub any_lists : (distances parents : List ℕ)
      → labels_in (vertex_count file) distances parents ≡ labels_in (vertex_count file) after.distances after.parents
      → (lent : CheckLent) (bytes : List ℕ) {left : CheckLent} {written : List ℕ} {number : ℕ}
      → rows_short (vertex_count file) (edge_count file)
      (length lent.offsets) (length lent.targets) (length lent.marks) ≡ false
      → page_need (vertex_count file) ≤ length bytes
      → page_exit number left written ≡ outcome_of_page file source distances parents lent bytes
      → (number ≡ success) × (written ≡ overlay (page_text (vertex_count file) distances parents) bytes)
  -- with the search's own lists, which are long enough; and it leaves them as the search did
  pub own_lists : (bytes : List ℕ) {left : CheckLent} {written : List ℕ} {number : ℕ}
      → page_need (vertex_count file) ≤ length bytes
      → page_exit number left written
      ≡ outcome_of_page file source after.distances after.parents (row_lists after) bytes
      → (number ≡ success) × (left ≡ row_lists after)
      × (written ≡ overlay (page_text (vertex_count file) after.distances after.parents) bytes)

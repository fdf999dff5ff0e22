-- The pages read back, from their bytes alone: lines of 21 bytes, pages of 51 lines, and what stands in which columns.
use Rattle.std.specs.Prelude.{cond, ℕ, suc, ◌+◌, ◌-◌, ◌*◌, eqb, get_or, take, drop}
use mathlib.Core.List.{List, [], ◌∷◌, map, flatten}
use Rattle.numbers.specs.Numbers.{unset}
use Rattle.lists.specs.Lists.{numbers_from, chunks, elem}
use Rattle.text.specs.Text.{space, dash}
use Rattle.page.specs.Layout.{line_bytes, page_vertices, page_count}

-- the number that the digits of a text make, behind the digits of `front`; blanks count for nothing
unfoldable pub digits_from : ℕ → List ℕ → ℕ
digits_from front [] = front
digits_from front (byte ∷ text) = digits_from (cond (eqb byte space) front (10 * front + (byte - 48))) text

-- a number in a column
unfoldable pub number_read : List ℕ → ℕ
number_read text = digits_from 0 text

-- a distance or a parent in a column: "`-` for unset"
unfoldable pub label_read : List ℕ → ℕ
label_read text = cond (elem dash text) unset (number_read text)

-- columns a to b of a line, counted from 1
abbrev pub columns : ℕ → ℕ → List ℕ → List ℕ
columns a b line = take (suc b - a) (drop (a - 1) line)

-- what stands on the pages: their numbers, and of each vertex line its vertex, distance and parent
pub record PageLists : Type 0 where
  pub numbers : List ℕ
  pub vertices : List ℕ
  pub distances : List ℕ
  pub parents : List ℕ

-- what stands in the columns of pages, each a list of lines: line one, "columns 11 to 20"; then "1 to 5",
-- "7 to 13", "15 to 20" (§9.4)
unfoldable pub lines_read : List (List (List ℕ)) → PageLists
lines_read pages =
    let lines = flatten (map (drop 1) pages) in
    record {
      numbers = map (λ (page : List (List ℕ)). number_read (columns 11 20 (get_or page 0 []))) pages;
      vertices = map (λ (line : List ℕ). number_read (columns 1 5 line)) lines;
      distances = map (λ (line : List ℕ). label_read (columns 7 13 line)) lines;
      parents = map (λ (line : List ℕ). label_read (columns 15 20 line)) lines;
    }

-- "reading the columns back": the same from the bytes, by lines of 21 bytes and pages of 51 lines (§9.4)
unfoldable pub read_pages : List ℕ → PageLists
read_pages bytes = lines_read (chunks (suc page_vertices) (chunks line_bytes bytes))

-- ".. gives the lists": pages 1, 2, .., vertices 0, 1, .., and the first n places of distances and parents (§9.4)
unfoldable pub lists_on_pages : ℕ → List ℕ → List ℕ → PageLists
lists_on_pages n distances parents = record {
  numbers = numbers_from 1 (page_count n);
  vertices = numbers_from 0 n;
  distances = take n distances;
  parents = take n parents;
}

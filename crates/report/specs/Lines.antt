-- The program's output lines as ASCII bytes.
use mathlib.Core.List.{List, [], ◌∷◌, ◌++◌, map, flatten}
use Rattle.std.specs.Prelude.{ℕ, get_or}
use Rattle.lists.specs.Lists.{numbers_from}
use Rattle.text.specs.Text.{space, line_feed, decimal, label_text}
use Rattle.model.specs.Call.{Answer}

-- "Line one: number, events used, effective, d." (§11.4)
unfoldable pub first_line : Answer → List ℕ
first_line a =
    decimal a.number
    ++ (space ∷ decimal a.used)
    ++ (space ∷ decimal a.effective)
    ++ (space ∷ decimal a.layer)
    ++ (line_feed ∷ [])

-- "a line for each device: device, distance, parent" (§11.4)
unfoldable pub vertex_line : ℕ → ℕ → ℕ → List ℕ
vertex_line v distance parent =
    decimal v ++ (space ∷ label_text distance) ++ (space ∷ label_text parent) ++ (line_feed ∷ [])

-- the lines of the first n vertices (§11.4)
unfoldable pub vertex_lines : ℕ → List ℕ → List ℕ → List ℕ
vertex_lines n distances parents =
    flatten (map (λ (v : ℕ). vertex_line v (get_or distances v 0) (get_or parents v 0)) (numbers_from 0 n))

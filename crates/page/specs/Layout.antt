-- The layout of the pages for the folder: every byte of them, by the vertices' distances and parents.
use mathlib.Core.List.{List, [], ◌∷◌, ◌++◌, map, flatten}
use Rattle.std.specs.Prelude.{ℕ, suc, ◌+◌, ◌-◌, ◌*◌, ◌/◌, get_or}
use Rattle.lists.specs.Lists.{numbers_from, chunks}
use Rattle.text.specs.Text.{space, line_feed, decimal, label_text, right_aligned}

-- "lines of exactly 20 characters and a line feed": that many bytes (§9.2)
abbrev pub line_bytes : ℕ
line_bytes = 21

-- "up to 50 device lines" (§9.2)
abbrev pub page_vertices : ℕ
page_vertices = 50

-- `HOPS page ` (§9.2)
abbrev pub title : List ℕ
title = 72 ∷ 79 ∷ 80 ∷ 83 ∷ 32 ∷ 112 ∷ 97 ∷ 103 ∷ 101 ∷ 32 ∷ []

-- "Line one is `HOPS page ` and the page number, right-aligned in columns 11 to 20." (§9.2)
unfoldable pub head_line : ℕ → List ℕ
head_line number = title ++ right_aligned 10 (decimal number) ++ (line_feed ∷ [])

-- "device in columns 1 to 5, distance in 7 to 13, parent in 15 to 20, right-aligned, `-` for unset, all else
-- blank": columns 6 and 14 are blank (§9.2)
unfoldable pub vertex_line : ℕ → ℕ → ℕ → List ℕ
vertex_line v distance parent =
    right_aligned 5 (decimal v)
    ++ (space ∷ right_aligned 7 (label_text distance))
    ++ (space ∷ right_aligned 6 (label_text parent))
    ++ (line_feed ∷ [])

-- a line for each of the first n vertices, "in device order"
unfoldable pub lines_by_vertex : ℕ → List ℕ → List ℕ → List (List ℕ)
lines_by_vertex n distances parents =
    map (λ (v : ℕ). vertex_line v (get_or distances v 0) (get_or parents v 0)) (numbers_from 0 n)

-- each page with its line one in front, the pages counting from `number` on
unfoldable pub headed : ℕ → List (List (List ℕ)) → List (List (List ℕ))
headed number [] = []
headed number (page ∷ rest) = (head_line number ∷ page) ∷ headed (suc number) rest

-- "Then come up to 50 device lines"; "Pages count from 1, none is without a device and only the final one may be
-- short", as `chunks` cuts (§9.2)
unfoldable pub pages : ℕ → List ℕ → List ℕ → List (List (List ℕ))
pages n distances parents = headed 1 (chunks page_vertices (lines_by_vertex n distances parents))

-- all lines of all pages, one behind the other: every byte (§9.2)
unfoldable pub page_text : ℕ → List ℕ → List ℕ → List ℕ
page_text n distances parents = flatten (flatten (pages n distances parents))

-- how many pages n vertices make: one for each 50 of them that are begun (§9.1)
abbrev pub page_count : ℕ → ℕ
page_count n = (n + (page_vertices - 1)) / page_vertices

-- how many bytes they have: each vertex has a line, and each page one more (§9.1)
abbrev pub page_need : ℕ → ℕ
page_need n = line_bytes * (n + page_count n)

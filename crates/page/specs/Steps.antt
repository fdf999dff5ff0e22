-- What the steps of printing the pages promise. Only the contracts of inner steps cite these.
use Rattle.std.specs.Prelude.{cond, List, [], ◌++◌, ℕ, ◌+◌, ◌/◌, ◌%◌, eqb}
use Rattle.page.specs.Layout.{page_vertices, head_line, vertex_line}

-- a vertex's line, with the page's line one before it where the vertex is the first of a page
unfoldable pub entry_text : ℕ → ℕ → ℕ → List ℕ
entry_text v distance parent =
    cond (eqb (v % page_vertices) 0) (head_line (v / page_vertices + 1)) []
    ++ vertex_line v distance parent

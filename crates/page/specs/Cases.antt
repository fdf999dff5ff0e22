-- Case A on paper: its result, its page, and the page of the same file from vertex 1.
use Rattle.std.specs.Prelude.{List, [], ◌∷◌, ◌++◌, ℕ, replicate}

-- A's distances, as its output has them
abbrev pub distances_a : List ℕ
distances_a = 0 ∷ 1 ∷ 1 ∷ 2 ∷ []

-- A's parents
abbrev pub parents_a : List ℕ
parents_a = 0 ∷ 0 ∷ 0 ∷ 1 ∷ []

-- so many blanks
abbrev pub blanks : ℕ → List ℕ
blanks count = replicate count 32

-- a vertex's line, by the three characters that stand at the right ends of its columns: `    v       d      p`
abbrev pub line_a : ℕ → ℕ → ℕ → List ℕ
line_a v d p = blanks 4 ++ (v ∷ blanks 7) ++ (d ∷ blanks 6) ++ (p ∷ 10 ∷ [])

-- `HOPS page          1`
abbrev pub head_a : List ℕ
head_a = 72 ∷ 79 ∷ 80 ∷ 83 ∷ 32 ∷ 112 ∷ 97 ∷ 103 ∷ 101 ∷ blanks 10 ++ (49 ∷ 10 ∷ [])

-- the page of case A: `0 0 0`, `1 1 0`, `2 1 0`, `3 2 1`
abbrev pub page_a : List ℕ
page_a = head_a ++ line_a 48 48 48 ++ line_a 49 49 48 ++ line_a 50 49 48 ++ line_a 51 50 49

-- the same file from vertex 1: `0 - -`, `1 0 1`, `2 - -`, `3 1 1`
abbrev pub page_one : List ℕ
page_one = head_a ++ line_a 48 45 45 ++ line_a 49 48 49 ++ line_a 50 45 45 ++ line_a 51 49 49

-- The files of document 01's bench cases, by their words.
use Rattle.std.specs.Prelude.{List, [], ◌∷◌, ℕ}

-- A and B: "n 4, m 4; heads 1 3 4 0; records (1,2) (2,0) (3,0) (3,0)" (§14.1)
abbrev pub words_a : List ℕ
words_a = 4 ∷ 4 ∷ 1 ∷ 3 ∷ 4 ∷ 0 ∷ 1 ∷ 2 ∷ 2 ∷ 0 ∷ 3 ∷ 0 ∷ 3 ∷ 0 ∷ []

-- C, and D, H and I after it: "n 1, m 0" (§14.2)
abbrev pub words_c : List ℕ
words_c = 1 ∷ 0 ∷ 0 ∷ []

-- E: "n 1, m 1, head 0, record (0,0)" (§14.2)
abbrev pub words_e : List ℕ
words_e = 1 ∷ 1 ∷ 0 ∷ 0 ∷ 0 ∷ []

-- F: "n 1, m 1, head 1, record (0,1)" (§14.2)
abbrev pub words_f : List ℕ
words_f = 1 ∷ 1 ∷ 1 ∷ 0 ∷ 1 ∷ []

-- G: "n 0, m 0" (§14.2)
abbrev pub words_g : List ℕ
words_g = 0 ∷ 0 ∷ []

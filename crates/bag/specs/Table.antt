-- The full adder's table as the code has it: "The full adder has 8 rows; they are those of 000's table." That
-- each of its rows is 000's is proved in proofs/AddFacts.antt, `add_rows`.
use Rattle.std.specs.Prelude.{ℕ, zero, suc, ◌+◌, ◌*◌, List, [], ◌∷◌, get_or}

-- 1 for a pennant that is there, 0 for one that is empty
unfoldable pub present : ℕ → ℕ
present zero = 0
present (suc x) = 1

-- the row of the pennants with the roots x, y and z
unfoldable pub row_of : ℕ → ℕ → ℕ → ℕ
row_of x y z = present x + 2 * present y + 4 * present z

-- what an entry of the table stands for: 0 for none, 1 for x, 2 for y, 3 for z
abbrev pub term : ℕ → ℕ → ℕ → ℕ → ℕ
term x y z entry = get_or (0 ∷ x ∷ y ∷ z ∷ []) entry 0

-- the rows: the sum, the root of the carry, the pennant that is united into it
abbrev pub adder_table : List (List ℕ)
adder_table =
    (0 ∷ 0 ∷ 0 ∷ []) ∷
    (1 ∷ 0 ∷ 0 ∷ []) ∷
    (2 ∷ 0 ∷ 0 ∷ []) ∷
    (0 ∷ 1 ∷ 2 ∷ []) ∷
    (3 ∷ 0 ∷ 0 ∷ []) ∷
    (0 ∷ 1 ∷ 3 ∷ []) ∷
    (0 ∷ 2 ∷ 3 ∷ []) ∷
    (1 ∷ 2 ∷ 3 ∷ []) ∷ []

-- the entry in a row and a column
abbrev pub entry_at : ℕ → ℕ → ℕ
entry_at row column = get_or (get_or adder_table row []) column 0

-- What the links view and its sister call give, for every offsets, targets and vertex.
use Rattle.std.specs.Prelude.{ℕ, ◌+◌, ◌*◌, ◌-◌, Bool, cond, not, ◌||◌, List, [], ◌∷◌, ltb, length, get_or}
use Rattle.numbers.specs.Numbers.{bad_rows}
use Rattle.numbers.specs.Refusals.{◌gives◌, first}
use Rattle.graph.specs.Graph.{edges, rows_of}

-- 11 of the view: "fewer than 2 offsets, device not under offsets length less one, or its two offsets fall or
-- pass the end of targets". The second offset alone is held against the end: where the two don't fall,
-- the first is at most the second. (§3.2)
unfoldable pub out_of_view : List ℕ → List ℕ → ℕ → Bool
out_of_view offsets targets u =
    ltb (length offsets) 2
    || not (ltb u (length offsets - 1))
    || ltb (get_or offsets (u + 1) 0) (get_or offsets u 0)
    || ltb (length targets) (get_or offsets (u + 1) 0)

-- "a sister call gives 0 or 11" (§3.2)
unfoldable pub links_number : List ℕ → List ℕ → ℕ → ℕ
links_number offsets targets u = first (out_of_view offsets targets u gives bad_rows ∷ [])

-- "the part of the targets list itself that belongs to the device, or an empty part where number 11 holds" (§3.1)
unfoldable pub links_of : List ℕ → List ℕ → ℕ → List ℕ
links_of offsets targets u = cond (out_of_view offsets targets u) [] (edges (rows_of offsets targets) u)

-- the place in the targets at which that part begins; the empty part of number 11 begins at the front (§3.2)
unfoldable pub links_start : List ℕ → List ℕ → ℕ → ℕ
links_start offsets targets u = cond (out_of_view offsets targets u) 0 (get_or offsets u 0)

-- where that place of a list of 16-bit words is, by where the list is: the same block of memory, two bytes on
-- for each place (§3.1)
abbrev pub word_place : ℕ × ℕ → ℕ → ℕ × ℕ
word_place list place = (list.0, place * 2 + list.1)

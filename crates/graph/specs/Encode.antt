-- The one encoding of a graph that `write` makes: "Writing numbers records 1 to m in row order."
use Rattle.std.specs.Prelude.{ℕ, zero, suc, ◌+◌, ◌/◌, ◌%◌, List, [], ◌∷◌, ◌++◌, length}
use Rattle.graph.specs.Graph.{Graph, targets_of}

-- the index of the first record of a row that stands after k records; "zero ends the chain", so 0 for an empty row
-- (§2.9)
unfoldable pub head_of : ℕ → List ℕ → ℕ
head_of k [] = zero
head_of k (t ∷ row) = suc k

-- "then n heads", the rows standing after k records (§2.9)
unfoldable pub heads_from : ℕ → Graph → List ℕ
heads_from k [] = []
heads_from k (row ∷ g) = head_of k row ∷ heads_from (k + length row) g

-- "records of two words: target, next", of a row that stands after k records (§2.9)
unfoldable pub row_records : ℕ → List ℕ → List ℕ
row_records k [] = []
row_records k (t ∷ row) = t ∷ head_of (suc k) row ∷ row_records (suc k) row

-- "then m records", the rows standing after k records (§2.9)
unfoldable pub records_from : ℕ → Graph → List ℕ
records_from k [] = []
records_from k (row ∷ g) = row_records k row ++ records_from (k + length row) g

-- "n, m, then n heads, then m records" (§2.1)
unfoldable pub file_words : Graph → List ℕ
file_words g = length g ∷ length (targets_of g) ∷ heads_from 0 g ++ records_from 0 g

-- "16-bit words, low byte first" (§1.2)
unfoldable pub bytes_of : List ℕ → List ℕ
bytes_of [] = []
bytes_of (w ∷ words) = w % 256 ∷ w / 256 ∷ bytes_of words

-- the bytes of the file (§2.9)
unfoldable pub encode : Graph → List ℕ
encode g = bytes_of (file_words g)

-- "In the program's input the n bytes follow the file": the two parts of bytes that begin with a file.
use Rattle.std.specs.Prelude.{ℕ, List, take, drop}
use Rattle.graph.specs.File.{vertex_count, edge_count, file_length}

-- how long the file is, by its n and m
abbrev pub length_in : List ℕ → ℕ
length_in bytes = file_length (vertex_count bytes) (edge_count bytes)

-- the file: as many bytes as its n and m say; fewer only where the bytes end within it, "a file cut short"
unfoldable pub file_at : List ℕ → List ℕ
file_at bytes = take (length_in bytes) bytes

-- the sleepers: what follows the file
unfoldable pub sleepers_behind : List ℕ → List ℕ
sleepers_behind bytes = drop (length_in bytes) bytes

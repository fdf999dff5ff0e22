-- Document 01's sizes and the numbers that its calls answer, by name. src/lib.rt and src/refused.rt have the same for
-- the code.
use Rattle.std.specs.Prelude.{ℕ}

-- "devices n 1 to 4,096" (§1.3)
abbrev pub max_vertices : ℕ
max_vertices = 4096

-- "links m 0 to 32,768" (§1.3)
abbrev pub max_edges : ℕ
max_edges = 32768

-- "workers P 1 to 8" (§1.3)
abbrev pub max_workers : ℕ
max_workers = 8

-- "sheet 0 to 5,000,000 bytes" (§1.3)
abbrev pub max_events : ℕ
max_events = 5000000

-- "65,535 means unset, in distances and parents only" (§1.4)
abbrev pub unset : ℕ
unset = 65535

-- "0 is success" (§10.1)
abbrev pub success : ℕ
success = 0

-- "1: under 4 bytes, or length not as above" (§10.1)
abbrev pub bad_length : ℕ
bad_length = 1

-- "2: n or m outside its size" (§10.1)
abbrev pub bad_size : ℕ
bad_size = 2

-- "3: a target of n or more" (§10.1)
abbrev pub bad_target : ℕ
bad_target = 3

-- "4: a head or next above m" (§10.1)
abbrev pub bad_index : ℕ
bad_index = 4

-- "5: a record reached a second time" (§10.1)
abbrev pub repeated : ℕ
repeated = 5

-- "6: a record never reached" (§10.1)
abbrev pub unreached : ℕ
unreached = 6

-- "7: source of n or more" (§10.1)
abbrev pub bad_source : ℕ
bad_source = 7

-- "8: P outside 1 to 8" (§10.1)
abbrev pub bad_workers : ℕ
bad_workers = 8

-- "9: sheet over length, or a byte not of the forms above, or w or v of P or more" (§10.1)
abbrev pub bad_schedule : ℕ
bad_schedule = 9

-- "10: the checker finds the result wrong" (§10.1)
abbrev pub bad_result : ℕ
bad_result = 10

-- "11: rows malformed" (§10.1)
abbrev pub bad_rows : ℕ
bad_rows = 11

-- 12, which no call answers yet: "a sleeper byte above 1 or a list not of n bytes"
abbrev pub bad_sleepers : ℕ
bad_sleepers = 12

-- "20: a lent list is shorter than its need" (§10.1)
abbrev pub short_list : ℕ
short_list = 20

-- "21: the sheet is spent and the search isn't finished" (§10.1)
abbrev pub unfinished : ℕ
unfinished = 21

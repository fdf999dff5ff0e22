-- Numbers and labels as ASCII bytes, and their place in a column. Program and pages print by these.
use Rattle.std.specs.Prelude.{cond, List, [], ◌∷◌, ◌++◌, ℕ, zero, suc, ◌+◌, ◌-◌, ◌/◌, ◌%◌, ltb, eqb, length, replicate}
use Rattle.numbers.specs.Numbers.{unset}

-- "One space between."; "all else blank"
abbrev pub space : ℕ
space = 32

-- the end of a line
abbrev pub line_feed : ℕ
line_feed = 10

-- "`-` for unset"
abbrev pub dash : ℕ
dash = 45

-- a digit below 10: `0` is 48
abbrev pub digit : ℕ → ℕ
digit d = 48 + d

-- a number of at most so many digits in decimal, without zeros in front
unfoldable pub decimal_in : ℕ → ℕ → List ℕ
decimal_in zero x = []
decimal_in (suc k) x = cond (ltb x 10) (digit x ∷ []) (decimal_in k (x / 10) ++ (digit (x % 10) ∷ []))

-- a number in decimal: 20 digits hold every number of 64 bits (§9.3)
unfoldable pub decimal : ℕ → List ℕ
decimal x = decimal_in 20 x

-- a distance or a parent: "`-` for unset" (§9.3)
unfoldable pub label_text : ℕ → List ℕ
label_text word = cond (eqb word unset) (dash ∷ []) (decimal word)

-- "right-aligned" in so many columns: blanks, and then the text; a text that is as long or longer has none (§9.3)
unfoldable pub right_aligned : ℕ → List ℕ → List ℕ
right_aligned width text = replicate (width - length text) space ++ text

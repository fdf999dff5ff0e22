-- The list of sleepers (sleepy vertices), a byte for each vertex: which vertices may pass messages on, and the
-- numbers 7 and 12 of a call that takes a source and such a list.
use Rattle.std.specs.Prelude.{ℕ, Bool, not, ◌||◌, List, [], ◌∷◌, leb, eqb, length, get_or}
use Rattle.numbers.specs.Numbers.{bad_source, bad_sleepers}
use Rattle.numbers.specs.Refusals.{Refusal, ◌gives◌, first}
use Rattle.lists.specs.Lists.{reaches}

-- "1 for a sleeper, 0 for others"
unfoldable pub is_sleepy : List ℕ → ℕ → Bool
is_sleepy sleepers v = eqb (get_or sleepers v 0) 1

-- "the source or a device that is awake": whether v may pass messages on
unfoldable pub may_forward : ℕ → List ℕ → ℕ → Bool
may_forward source sleepers v = eqb v source || not (is_sleepy sleepers v)

-- 12: "a sleeper byte above 1 or a list not of n bytes"
unfoldable pub sleepers_wrong : ℕ → List ℕ → Bool
sleepers_wrong n sleepers = not (eqb (length sleepers) n) || reaches 2 sleepers

-- "7: source of n or more", and 12 "straight after 7"
unfoldable pub source_refusals : ℕ → ℕ → List ℕ → List Refusal
source_refusals n source sleepers =
    leb n source gives bad_source
    ∷ sleepers_wrong n sleepers gives bad_sleepers
    ∷ []

-- the number of a source and a list of sleepers for n vertices
unfoldable pub source_number : ℕ → ℕ → List ℕ → ℕ
source_number n source sleepers = first (source_refusals n source sleepers)

-- The table of event bytes: "a table of 256 entries giving kind, w and v, or malformed" (document 02, 2.3). It says
-- what a byte's entry is; what a byte's event is stays with `event_of`. And the list that the form check makes of it.
use Rattle.std.specs.Prelude.{◌≡◌, Bool, false, ℕ, ◌<◌, get_or}
use mathlib.Core.List.{List, [], ◌∷◌, map, flatten}
use Rattle.lists.specs.Lists.{numbers_from}
use Rattle.schedule.specs.declared.Event.{Event}
use Rattle.schedule.specs.declared.Event.TheVariants.{Work, Split, Unite, Close, Malformed}
use Rattle.schedule.specs.Events.{event_of, within}

-- the entry of an event: kind, w and v side by side. Malformed is a kind of its own, 4. (§5.6)
unfoldable pub entry_of : Event → List ℕ
entry_of (Work w) = 0 ∷ w ∷ 0 ∷ []
entry_of (Split w v) = 1 ∷ w ∷ v ∷ []
entry_of (Unite w v) = 2 ∷ w ∷ v ∷ []
entry_of Close = 3 ∷ 0 ∷ 0 ∷ []
entry_of Malformed = 4 ∷ 0 ∷ 0 ∷ []

-- "the entries follow the formula": the entries of the bytes 0 to 255, one after the other (§5.6)
unfoldable pub byte_table : List ℕ
byte_table = flatten (map (λ (byte : ℕ). entry_of (event_of byte)) (numbers_from 0 256))

-- a list that says of every byte whether its event is one of the four kinds, and its workers are below P (§5.3)
abbrev pub Fits : ℕ → List Bool → Type 0
Fits P list = (byte : ℕ) → byte < 256 → get_or list byte false ≡ within P (event_of byte)

-- 65,535 for unset: the words that stand in lists of distances and parents, and the labels that they stand for.
use Rattle.std.specs.Prelude.{cond, List, map, ℕ, eqb, take}
use Rattle.std.proofs.Math.Option.{Option, none, some}
use Rattle.numbers.specs.Numbers.{unset}
use Rattle.model.specs.Paths.{Labels}

-- the word of a label: "65,535 means unset" (§1.4)
unfoldable pub word_of : Option ℕ → ℕ
word_of none = unset
word_of (some x) = x

-- the label of a word: "65,535 means unset, in distances and parents only" (§1.4)
unfoldable pub option_of : ℕ → Option ℕ
option_of word = cond (eqb word unset) none (some word)

-- the labels that the lists of distances and parents stand for
unfoldable pub labels_of : List ℕ → List ℕ → Labels
labels_of distances parents = record { distances = map option_of distances; parents = map option_of parents }

-- the labels in the first n places of two lists (§8.2)
unfoldable pub labels_in : ℕ → List ℕ → List ℕ → Labels
labels_in n distances parents = labels_of (take n distances) (take n parents)

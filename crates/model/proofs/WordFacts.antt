-- Labels and the words that stand for them.
use mathlib.Core.Path.{◌≡◌, refl, sym, ap, ◌∙◌}
use mathlib.Core.Bool.{Bool, true, false, cond}
use mathlib.Core.List.{List, [], ◌∷◌, map}
use mathlib.Core.Option.{Option, none, some}
use Prim.Native.Nat.{ℕ, suc, ◌+◌, ◌<◌}
use native.Mathlib.Numerals.{add-one}
use native.Mathlib.Omega.{arith}
use lib.Dec.{eqb}
use lib.ListN.{length, get_or, set, take, length-map}
use borrow.Author.Tests.{eqb-true, ne_eqb}
use Rattle.numbers.specs.Numbers.{unset}
use Rattle.lists.specs.Lists.{overlay}
use Rattle.lists.proofs.Overlay.{overlay_front}
use Rattle.lists.proofs.Replaced.{map_set, map_at}
use Rattle.model.specs.Paths.{distance_of}
use Rattle.model.specs.Table.{mark, name}
use Rattle.model.specs.Words.{word_of, option_of, labels_of}

-- a number that isn't the one for unset stands for itself
pub word_set : (word : ℕ) → word < unset → option_of word ≡ some word
unfolding option_of
word_set word h = rw (ne_eqb word unset (λ (q : word ≡ unset). omega arith))

-- the number for unset stands for none
pub word_unset : option_of unset ≡ none
unfolding option_of
word_unset = refl

-- the label that stands in a list of distances
pub label_at : (distances parents : List ℕ) (t : ℕ) → t < length distances → distance_of (labels_of distances parents) t ≡ option_of (get_or distances t 0)
unfolding labels_of
label_at distances parents t h = map_at option_of distances t 0 none h

-- a distance written is a label set
pub mark_shown : (distances parents : List ℕ) (t layer : ℕ) → layer + 1 < unset
    → labels_of (set distances t (layer + 1)) parents ≡ mark layer t (labels_of distances parents)
unfolding labels_of mark
mark_shown distances parents t layer h =
    let word : option_of (layer + 1) ≡ some (suc layer) = word_set (layer + 1) h ∙ ap (λ (w : ℕ). some w) (add-one layer) in
    ap (λ (l : List (Option ℕ)). record { distances = l; parents = map option_of parents })
    (map_set option_of distances t (layer + 1) ∙ ap (λ (w : Option ℕ). set (map option_of distances) t w) word)

-- and so is a parent
pub name_shown : (distances parents : List ℕ) (t u : ℕ) → u < unset → labels_of distances (set parents t u) ≡ name u t (labels_of distances parents)
unfolding labels_of name
name_shown distances parents t u h =
    ap (λ (l : List (Option ℕ)). record { distances = map option_of distances; parents = l })
    (map_set option_of parents t u ∙ ap (λ (w : Option ℕ). set (map option_of parents) t w) (word_set u h))

-- From words to labels and back.

-- a word is got back from what it stands for
word_again : (x : ℕ) → word_of (option_of x) ≡ x
unfolding option_of word_of
word_again x = go (eqb x unset) refl
  where
    go : (b : Bool) → eqb x unset ≡ b → word_of (cond b none (some x)) ≡ x
    go true e = sym (eqb-true x unset e)
    go false e = refl

-- and so is a list of words
pub words_again : (l : List ℕ) → map word_of (map option_of l) ≡ l
words_again [] = refl
words_again (x ∷ l) = rw (word_again x, words_again l)

-- the word of a label stands for it
word_back : (o : Option ℕ) → ((x : ℕ) → o ≡ some x → x < unset) → option_of (word_of o) ≡ o
unfolding option_of word_of
word_back none h = refl
word_back (some x) h = word_set x (h x refl)

-- so do the words of a list of labels
words_back : (l : List (Option ℕ)) → ((v x : ℕ) → get_or l v none ≡ some x → x < unset) → map option_of (map word_of l) ≡ l
words_back [] h = refl
words_back (o ∷ l) h = rw (word_back o (h 0), words_back l (λ v. h (suc v)))

-- laid over the first n places of a list
pub laid_back : (n : ℕ) (l : List (Option ℕ)) (old : List ℕ) → length l ≡ n → ((v x : ℕ) → get_or l v none ≡ some x → x < unset)
    → map option_of (take n (overlay (map word_of l) old)) ≡ l
laid_back n l old e h =
    ap (λ (k : List ℕ). map option_of k) (overlay_front (map word_of l) old n (length-map l word_of ∙ e)) ∙ words_back l h

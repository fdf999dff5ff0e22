-- A list cut into pieces of one size: the pieces laid end to end are the list, none is empty, only the last may be short, and there is only one way
-- to cut it so. And lists of lists laid end to end.
use mathlib.Core.Path.{◌≡◌, refl, sym, ap, ◌∙◌}
use mathlib.Core.List.{List, [], ◌∷◌, ◌++◌, append_assoc, append-nil, map, flatten}
use Prim.Native.Nat.{ℕ, zero, suc, ◌+◌, ◌*◌, ◌≤◌, ◌<◌}
use native.Mathlib.Nat.{mul-zero, mul-suc}
use native.Mathlib.Omega.{arith}
use lib.ListN.{length, get_or, take, drop, length-append, length-take, length-drop, take-append-drop, drop_of_length-le, get_or-append}
use lib.Seq.{take_all, take_at, drop_at, get_or-append-add}
use Rattle.lists.specs.Lists.{chunks_in, chunks}

-- lists of lists, one after the other
pub flatten_append : {A : Type 0} (a b : List (List A)) → flatten (a ++ b) ≡ flatten a ++ flatten b
unfolding flatten
flatten_append [] b = refl
flatten_append (x ∷ a) b = rw (flatten_append a b) (sym (append_assoc x (flatten a) (flatten b)))

-- one list
pub flatten_one : {A : Type 0} (x : List A) → flatten (x ∷ []) ≡ x
unfolding flatten
flatten_one x = append-nil x

-- one more behind others
pub flatten_more : {A : Type 0} (l : List (List A)) (x : List A) → flatten (l ++ (x ∷ [])) ≡ flatten l ++ x
flatten_more {A} l x = flatten_append l (x ∷ []) ∙ ap (λ (rest : List A). flatten l ++ rest) (flatten_one x)

-- Pieces.

-- pieces of `size` places each, the last one of at least 1 and at most that many
pub data Cut (size : ℕ) {A : Type 0} : List (List A) → Type 0 where
  no_piece : Cut size []
  last : {piece : List A} → 1 ≤ length piece → length piece ≤ size → Cut size (piece ∷ [])
  more : {piece next : List A} {pieces : List (List A)} → length piece ≡ size → Cut size (next ∷ pieces) → Cut size (piece ∷ next ∷ pieces)

-- lists of `size` places each
abbrev pub Each : {A : Type 0} → ℕ → List (List A) → Type 0
Each size [] = Unit {0}
Each size (l ∷ rest) = (length l ≡ size) × Each size rest

-- two parts of them, one after the other
pub each_append : {A : Type 0} (size : ℕ) (a b : List (List A)) → Each size a → Each size b → Each size (a ++ b)
each_append size [] b h k = k
each_append size (l ∷ a) b h k = (h.0, each_append size a b h.1 k)

-- and each by itself
pub each_split : {A : Type 0} (size : ℕ) (a b : List (List A)) → Each size (a ++ b) → Each size a × Each size b
each_split size [] b h = (tt, h)
each_split size (l ∷ a) b h = let both = each_split size a b h.1 in ((h.0, both.0), both.1)

-- what a function makes, where it makes `size` places each time
pub each_map : {A B : Type 0} (size : ℕ) (f : A → List B) → ((a : A) → length (f a) ≡ size) → (l : List A) → Each size (map f l)
each_map size f h [] = tt
each_map size f h (a ∷ l) = (h a, each_map size f h l)

-- a place of one of them
pub each_at : {A : Type 0} (size : ℕ) (l : List (List A)) (i j : ℕ) (d : A) → Each size l → i < length l → j < size
    → get_or (flatten l) (size * i + j) d ≡ get_or (get_or l i []) j d
unfolding flatten
each_at size [] i j d h below within = absurd (omega arith)
each_at size (piece ∷ rest) zero j d h below within =
    let here : size * 0 + j ≡ j = omega (arith, mul-zero size) in
    rw here (get_or-append piece (flatten rest) d j (omega (arith, h.0)))
each_at size (piece ∷ rest) (suc i) j d h below within =
    let later : size * suc i + j ≡ length piece + (size * i + j) = omega (arith, mul-suc size i, h.0) in
    rw later (get_or-append-add piece (flatten rest) (size * i + j) d ∙ each_at size rest i j d h.1 (omega arith) within)

-- all their places
pub length_each : {A : Type 0} (size : ℕ) (l : List (List A)) → Each size l → length (flatten l) ≡ size * length l
unfolding flatten
length_each size [] h = omega (arith, mul-zero size)
length_each size (piece ∷ rest) h = omega (arith, length_each size rest h.1, mul-suc size (length rest), length-append piece (flatten rest))

-- nothing has no piece
pub chunks_nil : {A : Type 0} (size count : ℕ) → chunks_in {A = A} size count [] ≡ []
unfolding chunks_in
chunks_nil size zero = refl
chunks_nil size (suc count) = refl

-- anything else has a first piece, and the pieces of what is left
pub chunks_first : {A : Type 0} (size count : ℕ) (l : List A) → 1 ≤ length l
    → chunks_in size (suc count) l ≡ take size l ∷ chunks_in size count (drop size l)
unfolding chunks_in
chunks_first size count [] h = absurd (omega arith)
chunks_first size count (x ∷ l) h = refl

module _ {A : Type 0} (size : ℕ) (some : 1 ≤ size) where
  -- what is left behind the first piece is shorter
  rest_short : (count : ℕ) (x : A) (l : List A) → length (x ∷ l) ≤ suc count → length (drop size (x ∷ l)) ≤ count
  rest_short count x l h = omega (arith, length-drop size (x ∷ l))

  -- room for more pieces than there are places changes nothing
  pub chunks_more : (count : ℕ) (l : List A) → length l ≤ count → chunks_in size (suc count) l ≡ chunks_in size count l
  unfolding chunks_in
  chunks_more zero [] h = refl
  chunks_more zero (x ∷ l) h = absurd (omega arith)
  chunks_more (suc count) [] h = refl
  chunks_more (suc count) (x ∷ l) h =
      ap (λ (pieces : List (List A)). take size (x ∷ l) ∷ pieces) (chunks_more count (drop size (x ∷ l)) (rest_short count x l h))

  -- the pieces laid end to end are the list
  flatten_in : (count : ℕ) (l : List A) → length l ≤ count → flatten (chunks_in size count l) ≡ l
  unfolding chunks_in flatten
  flatten_in zero [] h = refl
  flatten_in zero (x ∷ l) h = absurd (omega arith)
  flatten_in (suc count) [] h = refl
  flatten_in (suc count) (x ∷ l) h =
      ap (λ (rest : List A). take size (x ∷ l) ++ rest) (flatten_in count (drop size (x ∷ l)) (rest_short count x l h))
      ∙ take-append-drop size (x ∷ l)

  pub flatten_chunks : (l : List A) → flatten (chunks size l) ≡ l
  unfolding chunks
  flatten_chunks l = flatten_in (length l) l (omega arith)

  -- a piece before the pieces of what is left
  cut_cons : (count : ℕ) (piece rest : List A) → 1 ≤ length piece → length piece ≤ size → (1 ≤ length rest → length piece ≡ size)
      → length rest ≤ count → Cut size (chunks_in size count rest) → Cut size (piece ∷ chunks_in size count rest)
  unfolding chunks_in
  cut_cons zero piece [] a b full h c = last a b
  cut_cons zero piece (y ∷ rest) a b full h c = absurd (omega arith)
  cut_cons (suc count) piece [] a b full h c = last a b
  cut_cons (suc count) piece (y ∷ rest) a b full h c = more (full (omega arith)) c

  -- none is empty, and only the last may be short
  cut_in : (count : ℕ) (l : List A) → length l ≤ count → Cut size (chunks_in size count l)
  unfolding chunks_in
  cut_in zero [] h = no_piece
  cut_in zero (x ∷ l) h = absurd (omega arith)
  cut_in (suc count) [] h = no_piece
  cut_in (suc count) (x ∷ l) h =
      let whole : List A = x ∷ l in
      let rest : List A = drop size whole in
      let front = length-take size whole in
      let short = rest_short count x l h in
      cut_cons count (take size whole) rest (omega (arith, front)) (omega (arith, front))
      (λ (left : 1 ≤ length rest). omega (arith, front, length-drop size whole)) short (cut_in count rest short)

  pub chunks_cut : (l : List A) → Cut size (chunks size l)
  unfolding chunks
  chunks_cut l = cut_in (length l) l (omega arith)

  -- pieces that are cut so are the pieces of what they make up
  chunks_in_lem : (count : ℕ) {pieces : List (List A)} → Cut size pieces → length (flatten pieces) ≤ count → chunks_in size count (flatten pieces) ≡ pieces
  unfolding flatten
  chunks_in_lem zero no_piece h = chunks_nil size zero
  chunks_in_lem (suc count) no_piece h = chunks_nil size (suc count)
  chunks_in_lem zero (last {piece = piece} a b) h = absurd (omega (arith, length-append piece []))
  chunks_in_lem (suc count) (last {piece = piece} a b) h =
      let whole : piece ++ [] ≡ piece = append-nil piece in
      ap (λ (l : List A). chunks_in size (suc count) l) whole
      ∙ chunks_first size count piece a
      ∙ (λ i. take_all size piece b i ∷ chunks_in size count (drop_of_length-le piece b i))
      ∙ ap (λ (rest : List (List A)). piece ∷ rest) (chunks_nil size count)
  chunks_in_lem zero (more {piece = piece} {next = next} {pieces = pieces} e r) h =
      absurd (omega (arith, length-append piece (flatten (next ∷ pieces))))
  chunks_in_lem (suc count) (more {piece = piece} {next = next} {pieces = pieces} e r) h =
      let rest : List A = flatten (next ∷ pieces) in
      let both = length-append piece rest in
      chunks_first size count (piece ++ rest) (omega (arith, both))
      ∙ (λ i. take_at piece rest size e i ∷ chunks_in size count (drop_at piece rest size e i))
      ∙ ap (λ (l : List (List A)). piece ∷ l) (chunks_in_lem count r (omega (arith, both)))

  pub chunks_flatten : {pieces : List (List A)} → Cut size pieces → chunks size (flatten pieces) ≡ pieces
  unfolding chunks
  chunks_flatten {pieces} c = chunks_in_lem (length (flatten pieces)) c (omega arith)

  -- how many there are: enough for all, and not one too many
  pub cut_count : {pieces : List (List A)} → Cut size pieces
      → (length (flatten pieces) ≤ size * length pieces) × (size * length pieces < length (flatten pieces) + size)
  unfolding flatten
  cut_count no_piece = omega (arith, mul-zero size)
  cut_count (last {piece = piece} a b) = omega (arith, mul-suc size 0, mul-zero size, length-append piece [])
  cut_count (more {piece = piece} {next = next} {pieces = pieces} e r) =
      let left = cut_count r in
      omega (arith, left, mul-suc size (length (next ∷ pieces)), length-append piece (flatten (next ∷ pieces)))

  -- lists of `size` places each are cut so
  pub each_cut : (l : List (List A)) → Each size l → Cut size l
  each_cut [] h = no_piece
  each_cut (piece ∷ []) h = last {piece = piece} (omega arith) (omega arith)
  each_cut (piece ∷ next ∷ pieces) h = more h.0 (each_cut (next ∷ pieces) h.1)

-- What is read at a place of a list, of repeated elements, and of a part of a list.
use mathlib.Core.Path.{◌≡◌, refl, sym, ap, ◌∙◌}
use mathlib.Core.List.{List, [], ◌∷◌, ◌++◌}
use mathlib.Core.Option.{Option, none, some, none-ne-some}
use Prim.Native.Nat.{ℕ, zero, suc, ◌+◌, ◌≤◌, ◌<◌}
use native.Mathlib.Nat.{zero-add, suc-add}
use native.Mathlib.Omega.{arith}
use lib.ListN.{length, get_or, set, take, drop, replicate}
use lib.Seq.{get_or-take, get_or-drop, take_at, drop_at, take-take, set-get_or}

-- a place that is set is one of the list
pub place_below : {A : Type 0} (l : List (Option A)) (i : ℕ) {a : A} → get_or l i none ≡ some a → i < length l
place_below [] i e = absurd (none-ne-some _ e)
place_below (x ∷ l) zero e = omega arith
place_below (x ∷ l) (suc i) e = omega (arith, place_below l i e)

-- what is repeated stands everywhere, past the end too where it is the default
pub get_or_repeated : {A : Type 0} (n i : ℕ) (a : A) → get_or (replicate n a) i a ≡ a
get_or_repeated zero i a = refl
get_or_repeated (suc n) zero a = refl
get_or_repeated (suc n) (suc i) a = get_or_repeated n i a

-- the first m of n places with the same value
pub take_repeated : {A : Type 0} (m n : ℕ) (a : A) → m ≤ n → take m (replicate n a) ≡ replicate m a
take_repeated zero n a h = refl
take_repeated (suc m) zero a h = absurd (omega arith)
take_repeated (suc m) (suc n) a h = ap (λ l. a ∷ l) (take_repeated m n a (omega arith))

-- an element that is there is read whatever stands past the end
pub get_d_any : {A : Type 0} (l : List A) (i : ℕ) (d e : A) → i < length l → get_or l i d ≡ get_or l i e
get_d_any [] i d e h = absurd (omega arith)
get_d_any (x ∷ l) zero d e h = refl
get_d_any (x ∷ l) (suc i) d e h = get_d_any l i d e (omega arith)

-- what stands in a part of a list's first places stands in the list's part
pub part_at : {A : Type 0} (a k : ℕ) (l : List A) (j : ℕ) (d : A) → a + j < k → get_or (drop a (take k l)) j d ≡ get_or (drop a l) j d
part_at a k l j d h = get_or-drop a (take k l) j d ∙ get_or-take k l (a + j) d h ∙ sym (get_or-drop a l j d)

-- two lists in two parts each, of which the first are equally long, are equal part by part
pub parts_same : {A : Type 0} (a b c d : List A) → length a ≡ length c → a ++ b ≡ c ++ d → (a ≡ c) × (b ≡ d)
parts_same a b c d long same = (
  sym (take_at a b (length a) refl) ∙ ap (take (length a)) same ∙ take_at c d (length a) (sym long),
  sym (drop_at a b (length a) refl) ∙ ap (drop (length a)) same ∙ drop_at c d (length a) (sym long),
)

-- a place of the second part replaced
pub set_second : {A : Type 0} (a b : List A) (i : ℕ) (x : A) → set (a ++ b) (length a + i) x ≡ a ++ set b i x
set_second [] b i x = ap (λ (k : ℕ). set b k x) (zero-add i)
set_second (y ∷ a) b i x = ap (λ (k : ℕ). set (y ∷ a ++ b) k x) (suc-add (length a) i) ∙ ap (λ (l : List _). y ∷ l) (set_second a b i x)

-- the first element of many that are alike, replaced by another such
pub set_alike : {A : Type 0} (n i : ℕ) (a : A) → set (replicate n a) i a ≡ replicate n a
set_alike n i a = ap (set (replicate n a) i) (sym (get_or_repeated n i a)) ∙ set-get_or (replicate n a) i a

-- so many places behind the first a are the same in the first k
pub part_take : {A : Type 0} (a k m : ℕ) (l : List A) → a + m ≤ k → take m (drop a (take k l)) ≡ take m (drop a l)
part_take zero k m l h = take-take m k l (omega arith)
part_take (suc a) zero m l h = absurd (omega arith)
part_take (suc a) (suc k) m [] h = refl
part_take (suc a) (suc k) m (x ∷ l) h = part_take a k m l (omega arith)

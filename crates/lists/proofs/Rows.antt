-- Facts about lists of numbers that are read in rows and written in pairs: offsets that rise, tests that go through a list place by
-- place, and pairs laid end to end.
use mathlib.Core.Bool.{false, ◌||◌}
use mathlib.Core.Path.{◌≡◌, refl, sym, ap, ◌∙◌}
use mathlib.Core.List.{List, [], ◌∷◌, ◌++◌}
use Prim.Native.Nat.{ℕ, zero, suc, ◌+◌, ◌*◌, ◌≤◌, ◌<◌}
use native.Mathlib.Nat.{add-suc, min-le_right, le_refl, le_trans, le_of_eq, le_of_suc-le-suc, not-suc-le-zero}
use native.Mathlib.Numerals.{add-one}
use native.Mathlib.Omega.{arith}
use lib.Dec.{leb, ltb}
use lib.ListN.{length, get_or, take, drop, length-take, drop_of_length-le, get_or-append}
use lib.Seq.{drop-cons, get_or-append-add}
use Rattle.lists.specs.Lists.{reaches, falls_from}
use Rattle.lists.proofs.Tests.{falls_none}

-- from a on, the numbers of the list never fall, and the last of them all is m
pub data Rising (m : ℕ) : ℕ → List ℕ → Type 0 where
  ends : {a : ℕ} → a ≡ m → Rising m a []
  rises : {a b : ℕ} {xs : List ℕ} → a ≤ b → Rising m b xs → Rising m a (b ∷ xs)

-- a list rises where the test for a fall is false
pub rise_of : (m a : ℕ) (xs : List ℕ) → falls_from a xs ≡ false → get_or (a ∷ xs) (length xs) 0 ≡ m → Rising m a xs
rise_of m a [] h e = ends e
rise_of m a (b ∷ xs) h e = let p = falls_none a b xs h in rises p.0 (rise_of m b xs p.1 e)

-- no number of it is above m
pub rising_below : {m a : ℕ} {xs : List ℕ} → Rising m a xs → (i : ℕ) → get_or (a ∷ xs) i 0 ≤ m
rising_below (ends e) zero = le_of_eq e
rising_below (ends e) (suc i) = omega arith
rising_below (rises h r) zero = le_trans h (rising_below r zero)
rising_below (rises h r) (suc i) = rising_below r i

-- and none is below a
pub rising_above : {m a : ℕ} {xs : List ℕ} → Rising m a xs → (i : ℕ) → i ≤ length xs → a ≤ get_or (a ∷ xs) i 0
rising_above {m} {a} r zero h = le_refl a
rising_above (ends e) (suc i) h = absurd (not-suc-le-zero h)
rising_above (rises h r) (suc i) k = le_trans h (rising_above r i (le_of_suc-le-suc k))

-- each is at least the one before it
pub rising_step : {m a : ℕ} {xs : List ℕ} → Rising m a xs → (i : ℕ) → i < length xs → get_or (a ∷ xs) i 0 ≤ get_or xs i 0
rising_step (ends e) i h = absurd (not-suc-le-zero h)
rising_step (rises h r) zero k = h
rising_step (rises h r) (suc i) k = rising_step r i (le_of_suc-le-suc k)

-- tests that go through a list: one place further, past x, and at the end
module _ (xs : List ℕ) (i : ℕ) where
  pub reaches_more : (limit x : ℕ) → i < length xs → x ≡ get_or xs i 0 → reaches limit (drop i xs) ≡ leb limit x || reaches limit (drop (i + 1) xs)
  unfolding reaches
  reaches_more limit x h e = rw (drop-cons xs i 0, add-one, e)

  pub reaches_end : (limit : ℕ) → length xs ≤ i → reaches limit (drop i xs) ≡ false
  unfolding reaches
  reaches_end limit h = ap (reaches limit) (drop_of_length-le xs h)

  pub falls_more : (last x : ℕ) → i < length xs → x ≡ get_or xs i 0 → falls_from last (drop i xs) ≡ ltb x last || falls_from x (drop (i + 1) xs)
  unfolding falls_from
  falls_more last x h e = rw (drop-cons xs i 0, add-one, e)

  pub falls_end : (last : ℕ) → length xs ≤ i → falls_from last (drop i xs) ≡ false
  unfolding falls_from
  falls_end last h = ap (falls_from last) (drop_of_length-le xs h)

-- a list of pairs laid end to end has a and then b at the places p and p + 1
pub record Two (l : List ℕ) (p a b : ℕ) : Type 0 where
  pub fst : get_or l p 0 ≡ a
  pub snd : get_or l (suc p) 0 ≡ b

module _ {l : List ℕ} {p a b : ℕ} (two : Two l p a b) where
  -- at the same place, by equal numbers
  pub two_same : {q c d : ℕ} → p ≡ q → a ≡ c → b ≡ d → Two l q c d
  two_same e f g = record { fst = ap (λ (n : ℕ). get_or l n 0) (sym e) ∙ two.fst ∙ f; snd = ap (λ (n : ℕ). get_or l (suc n) 0) (sym e) ∙ two.snd ∙ g }

  -- behind another list
  pub two_behind : (front : List ℕ) → Two (front ++ l) (length front + p) a b
  two_behind front = record {
    fst = get_or-append-add front l p 0 ∙ two.fst;
    snd = ap (λ (n : ℕ). get_or (front ++ l) n 0) (sym (add-suc (length front) p)) ∙ get_or-append-add front l (suc p) 0 ∙ two.snd;
  }

  -- before another list
  pub two_before : (rest : List ℕ) → suc p < length l → Two (l ++ rest) p a b
  two_before rest h = record { fst = get_or-append l rest 0 p (omega arith) ∙ two.fst; snd = get_or-append l rest 0 (suc p) h ∙ two.snd }

-- one pair later
pub two_later : {l : List ℕ} {a b : ℕ} (j x y : ℕ) → Two l (2 * j) a b → Two (x ∷ y ∷ l) (2 * suc j) a b
two_later j x y two = two_same (two_behind two (x ∷ y ∷ [])) (omega arith) refl refl

-- a part of a list is no longer than the list
pub length_take_most : (i : ℕ) (xs : List ℕ) → length (take i xs) ≤ length xs
length_take_most i xs = rw (length-take i xs) (min-le_right i (length xs))

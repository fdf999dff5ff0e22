-- `writer::falls` meets its contract: the offsets fall where they are not sorted.
use mathlib.Core.Bool.{Bool, true, false, not, or-true}
use mathlib.Core.Path.{◌≡◌, refl, sym}
use mathlib.Core.List.{List, [], ◌∷◌}
use Prim.Native.Nat.{ℕ, zero, suc, ◌+◌, ◌≤◌, ◌<◌}
use native.Mathlib.Numerals.{add-one}
use native.Mathlib.Omega.{arith}
use lib.ListN.{length, get_or}
use borrow.Author.Tests.{lt-ltb, le-ltb}
use Rattle.std.specs.List.Sorted.{IsNonDecreasing}
use Rattle.std.proofs.Common.{MatchBool}
use Rattle.std.proofs.lemmas.List.Sorted.{non_decreasing_from_is_sorted}
use Rattle.lists.specs.Lists.{falls_from}
use Rattle.writer.proofs.falls.Goals as goal

-- sorted numbers, the first of them `last` or more, don't fall
sorted_stay : (last : ℕ) (xs : List ℕ) → IsNonDecreasing (last ∷ xs) → falls_from last xs ≡ false
unfolding falls_from
sorted_stay last [] rise = refl
sorted_stay last (x ∷ xs) rise =
    let next : last ≤ x = rise 0 1 0 (omega arith) (omega arith) in
    rw (le-ltb x last next) (sorted_stay x xs (λ i j d below inside. rise (suc i) (suc j) d (omega arith) (omega arith)))

-- the first of all is 0 or more
from_zero : (xs : List ℕ) → IsNonDecreasing xs → falls_from 0 xs ≡ false
unfolding falls_from
from_zero [] rise = refl
from_zero (x ∷ xs) rise = rw (le-ltb x 0 (omega arith)) (sorted_stay x xs rise)

-- with one less than the one before it they fall
pair_falls : (last : ℕ) (xs : List ℕ) (k : ℕ) → suc k < length xs → get_or xs (suc k) 0 < get_or xs k 0 → falls_from last xs ≡ true
unfolding falls_from
pair_falls last [] k h less = absurd (omega arith)
pair_falls last (x ∷ []) k h less = absurd (omega arith)
pair_falls last (x ∷ y ∷ xs) zero h less = rw (lt-ltb y x less, or-true)
pair_falls last (x ∷ y ∷ xs) (suc k) h less = rw (pair_falls x (y ∷ xs) k (omega arith) less, or-true)

unsorted : (xs : List ℕ) (sorted : Bool) → MatchBool sorted (IsNonDecreasing xs) ((k : ℕ) × (k + 1 < length xs) × ((d : ℕ) → get_or xs (k + 1) d < get_or xs k d))
    → not sorted ≡ falls_from 0 xs
unsorted xs true rise = sym (from_zero xs rise)
unsorted xs false pair = sym (pair_falls 0 xs pair.0 (rw add-one at pair.1) (rw add-one at (pair.2 0)))

pub returns : goal.returns
returns c = unsorted _ _ (non_decreasing_from_is_sorted c.args.offsets.now c.is_sorted.result c.is_sorted.ensures.cases)

-- Facts about `recount`: each place, one distance more, the opening, the sum of all places, and what a recount tells.
use mathlib.Core.Path.{◌≡◌, refl, sym, ap, ◌∙◌}
use mathlib.Core.List.{List, [], ◌∷◌}
use mathlib.Core.Option.{Option, none, some}
use Prim.Native.Nat.{ℕ, suc, ◌+◌, ◌≤◌, ◌<◌}
use native.Mathlib.Decide.{dec_le}
use native.Mathlib.Omega.{arith}
use lib.ListN.{length, get_or, set, replicate, length-map, length-set, length-replicate, get_or-eq_default}
use lib.Seq.{set-get_or, ext_get_or}
use Rattle.lists.specs.Lists.{numbers_from, sum_of, some_one}
use Rattle.lists.proofs.Parts.{get_or_repeated}
use Rattle.lists.proofs.Replaced.{map_replicate, set_cases}
use Rattle.lists.proofs.Sums.{sum_set, sum_at, sum_none, sum_replicate, sum_within, sum_both, sum_map, sum_only}
use Rattle.lists.proofs.Tests.{length_range, map_range_at}
use Rattle.pennant.proofs.Laws.{only_self, only_other, only_few}
use Rattle.model.specs.Histogram.{stands_at, recount, Counts}

-- One distance.

-- h stands at h
stands_here : (h d : ℕ) → h ≡ d → stands_at h (some d) ≡ 1
stands_here h d same = rw same (only_self d)

-- and nowhere else
stands_apart : (h d : ℕ) → (h ≡ d → ⊥) → stands_at h (some d) ≡ 0
stands_apart h d apart = only_other d h apart

-- what isn't h doesn't stand there
stands_not : (h : ℕ) (x : Option ℕ) → (x ≡ some h → ⊥) → stands_at h x ≡ 0
stands_not h none apart = refl
stands_not h (some d) apart = stands_apart h d (λ q. apart (ap some (sym q)))

-- a distance counts once at most
stands_few : (h : ℕ) (x : Option ℕ) → stands_at h x ≤ 1
stands_few h none = omega arith
stands_few h (some d) = only_few d h

-- one more distance is written, where there was none
pub stands_set : (xs : List (Option ℕ)) (t k h : ℕ) → t < length xs → get_or xs t none ≡ none
    → sum_of (stands_at h) (set xs t (some k)) ≡ sum_of (stands_at h) xs + stands_at h (some k)
stands_set xs t k h there unset = omega (arith, sum_set (stands_at h) xs t (some k) none there, ap (stands_at h) unset)

-- Each place.

-- a place for each distance
pub recount_long : (xs : List (Option ℕ)) → length (recount xs) ≡ length xs
unfolding recount
recount_long xs = length-map (numbers_from 0 (length xs)) (λ (h : ℕ). sum_of (stands_at h) xs) ∙ length_range 0 (length xs)

-- place h holds how many distances are h
pub recount_at : (xs : List (Option ℕ)) (h : ℕ) → h < length xs → get_or (recount xs) h 0 ≡ sum_of (stands_at h) xs
unfolding recount
recount_at xs h below = map_range_at (λ (i : ℕ). sum_of (stands_at i) xs) (length xs) h 0 below

-- and none holds more
recount_most : (xs : List (Option ℕ)) (h : ℕ) → get_or (recount xs) h 0 ≤ sum_of (stands_at h) xs
recount_most xs h = go (dec_le (suc h) (length xs))
  where
    go : Dec (h < length xs) → get_or (recount xs) h 0 ≤ sum_of (stands_at h) xs
    go (yes below) = omega (arith, recount_at xs h below)
    go (no past) = omega (arith, get_or-eq_default (recount xs) 0 {n = h} (omega (arith, recount_long xs)))

-- so none holds more than there are
pub recount_few : (xs : List (Option ℕ)) (h : ℕ) → get_or (recount xs) h 0 ≤ length xs
recount_few xs h = omega (arith, recount_most xs h, sum_within (stands_at h) 1 (stands_few h) xs)

-- a distance that is h makes place h positive
recount_some : (xs : List (Option ℕ)) (h v : ℕ) → h < length xs → get_or xs v none ≡ some h → 1 ≤ get_or (recount xs) h 0
recount_some xs h v below e = omega (arith, recount_at xs h below, sum_at (stands_at h) xs v none refl, ap (stands_at h) e, stands_here h h refl)

-- where no distance is h, place h is 0
recount_none : (xs : List (Option ℕ)) (h : ℕ) → ((v : ℕ) → get_or xs v none ≡ some h → ⊥) → get_or (recount xs) h 0 ≡ 0
recount_none xs h absent = omega (arith, recount_most xs h, sum_none (stands_at h) none xs (λ i. stands_not h (get_or xs i none) (absent i)))

-- One distance more.

-- a distance is written where there was none: one more at its place
pub recount_set : (xs : List (Option ℕ)) (t h : ℕ) → t < length xs → h < length xs → get_or xs t none ≡ none
    → recount (set xs t (some h)) ≡ set (recount xs) h (get_or (recount xs) h 0 + 1)
recount_set xs t h there place unset =
    let after : List (Option ℕ) = set xs t (some h) in
    let counts : List ℕ = recount xs in
    let more : ℕ = get_or counts h 0 + 1 in
    let same_long : length after ≡ length xs = length-set xs t (some h) in
    ext_get_or 0 (recount after) (set counts h more) (recount_long after ∙ same_long ∙ sym (length-set counts h more ∙ recount_long xs)) (λ i below.
    let inside : i < length xs = omega (arith, recount_long after) in
    let now = recount_at after i (omega arith) in
    let added = stands_set xs t h i there unset in
    let before = recount_at xs i inside in
    set_cases counts h i more 0 (get_or (set counts h more) i 0) (omega (arith, recount_long xs)) refl
    (λ same e. omega (arith, stands_here i h same, ap (λ (j : ℕ). get_or counts j 0) same))
    (λ apart e. omega (arith, stands_apart i h apart)))

-- a distance is written again, as it was: nothing changes
pub recount_again : (xs : List (Option ℕ)) (t h : ℕ) → get_or xs t none ≡ some h → recount (set xs t (some h)) ≡ recount xs
recount_again xs t h e = ap recount (rw e at (set-get_or xs t none))

-- The opening.

-- nothing is written
recount_unset : (n : ℕ) → recount (replicate n none) ≡ replicate n 0
unfolding recount
recount_unset n =
    let unset : List (Option ℕ) = replicate n none in
    map_replicate (λ (h : ℕ). sum_of (stands_at h) unset) 0 0 (numbers_from 0 (length unset)) n
    (length_range 0 (length unset) ∙ length-replicate n none)
    (λ i below. omega (arith, sum_replicate (stands_at (get_or (numbers_from 0 (length unset)) i 0)) n none))

-- the source's distance alone is written
pub recount_opening : (n source : ℕ) → source < n → recount (set (replicate n none) source (some 0)) ≡ set (replicate n 0) 0 1
recount_opening n source below =
    let unset : List (Option ℕ) = replicate n none in
    let size : length unset ≡ n = length-replicate n none in
    recount_set unset source 0 (omega arith) (omega arith) (get_or_repeated n source none) ∙ rw (recount_unset n, get_or_repeated {A = ℕ} n 0 0)

-- What counts tell.

-- a distance below n stands at one of n places, an unset one at none
stands_once : (n : ℕ) (x : Option ℕ) → ((d : ℕ) → x ≡ some d → d < n) → sum_of (λ (h : ℕ). stands_at h x) (numbers_from 0 n) ≡ some_one x
stands_once n none below = omega (arith, sum_within (λ (h : ℕ). 0) 0 (λ h. omega arith) (numbers_from 0 n))
stands_once n (some d) below =
    sum_only (λ (h : ℕ). stands_at h (some d)) d (λ h apart. stands_apart h d apart) 0 n (omega arith) (omega (arith, below d refl)) ∙ stands_here d d refl

-- so n places together hold how many are written
stands_total : (n : ℕ) (xs : List (Option ℕ)) → ((v d : ℕ) → get_or xs v none ≡ some d → d < n)
    → sum_of (λ (h : ℕ). sum_of (stands_at h) xs) (numbers_from 0 n) ≡ sum_of some_one xs
unfolding sum_of
stands_total n [] below = omega (arith, sum_within (λ (h : ℕ). 0) 0 (λ h. omega arith) (numbers_from 0 n))
stands_total n (x ∷ xs) below =
    let both = sum_both (λ (h : ℕ). stands_at h x) (λ (h : ℕ). sum_of (stands_at h) xs) (numbers_from 0 n) in
    omega (arith, stands_once n x (below 0), stands_total n xs (λ v. below (suc v)))

-- a recount tells what counts tell, if distances are below n and each up to d is written
pub recount_counts : (xs : List (Option ℕ)) (d : ℕ) → ((v k : ℕ) → get_or xs v none ≡ some k → k < length xs)
    → ((h : ℕ) → h ≤ d → (v : ℕ) × (get_or xs v none ≡ some h)) → Counts xs d (recount xs)
unfolding recount
recount_counts xs d below each = record {
  recounted = refl;
  total = sum_map (λ (count : ℕ). count) (λ (h : ℕ). sum_of (stands_at h) xs) (numbers_from 0 (length xs)) ∙ stands_total (length xs) xs below;
  zero_absent = λ h v e there. omega (arith, recount_some xs h v (below v h there) there);
  absent_zero = recount_none xs;
  up_to_layer = λ h low. let v = each h low in recount_some xs h v.0 (below v.0 h v.1) v.1;
}

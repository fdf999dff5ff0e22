-- Labels of which the source alone has one.
use mathlib.Core.Path.{◌≡◌, sym, ap, ◌∙◌}
use mathlib.Core.List.{List}
use mathlib.Core.Option.{Option, none, some, some-injective, none-ne-some}
use Prim.Native.Nat.{ℕ, ◌+◌, ◌<◌}
use native.Mathlib.Omega.{arith}
use lib.ListN.{length, get_or, set, replicate, length-set, length-replicate}
use lib.Seq.{get_or-set_same, get_or-set_other}
use Rattle.lists.proofs.Sums.{sum_set, sum_replicate}
use Rattle.lists.proofs.Parts.{get_or_repeated}
use Rattle.lists.proofs.Replaced.{set_cases}
use Rattle.model.proofs.Counts.{unset_one, unsets}

-- the labels
abbrev pub alone : ℕ → ℕ → ℕ → List (Option ℕ)
alone n source y = set (replicate n none) source (some y)

-- every vertex has its place
pub alone_all : (n source y : ℕ) → length (alone n source y) ≡ n
alone_all n source y = length-set (replicate n none) source (some y) ∙ length-replicate n none

-- the source has that label
pub alone_own : (n source y : ℕ) → source < n → get_or (alone n source y) source none ≡ some y
alone_own n source y h = get_or-set_same (replicate n none) source (some y) none (rw length-replicate h)

-- any other vertex has none
pub alone_other : (n source y v : ℕ) → (v ≡ source → ⊥) → get_or (alone n source y) v none ≡ none
alone_other n source y v h = get_or-set_other (replicate n none) source v (some y) none h ∙ get_or_repeated n v none

-- so what is set is the source's label
pub alone_only : (n source y v k : ℕ) → source < n → get_or (alone n source y) v none ≡ some k → (v ≡ source) × (k ≡ y)
alone_only n source y v k h e = set_cases (replicate n none) source v (some y) none (some k) (rw length-replicate h) e
    (λ same r. (same, some-injective k y (sym r)))
    (λ apart r. absurd (none-ne-some k (sym (get_or_repeated n v none) ∙ r)))

-- all but one are unset
pub alone_unsets : (n source y : ℕ) → source < n → 1 + unsets (alone n source y) ≡ n
alone_unsets n source y h =
    let replaced = sum_set unset_one (replicate n none) source (some y) none (rw length-replicate h) in
    omega (arith, sum_replicate unset_one n none, ap unset_one (get_or_repeated n source none))

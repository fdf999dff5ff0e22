-- Weights of one node, and what a pool's bound on them says: distinct, not 0, within the lists.
use Prim.Native.Nat.{ℕ, zero, suc, ◌+◌, ◌≤◌, ◌<◌}
use native.Mathlib.Omega.{arith}
use mathlib.Core.Path.{◌≡◌, refl, ap}
use mathlib.Core.Bool.{Bool, true, false, cond, ◌&&◌}
use lib.Dec.{eqb, ltb}
use borrow.Author.Tests.{eqb-true, eqb-false, eq-eqb, ltb-true, ltb-false, lt-ltb, le-ltb}
use Rattle.pennant.specs.Held.{only}
use Rattle.pennant.proofs.Laws.{only_self, only_other}
use Rattle.bag.specs.Promises.{in_pool}

-- where it does not count, it is another
pub other_only : (i x : ℕ) → only i x ≡ 0 → x ≡ i → ⊥
other_only i x h e = omega (arith, ap {B = ℕ} (λ (b : Bool). cond b 1 0) (eq-eqb x i e))

-- no node is used more than once
pub in_pool_once : (places x : ℕ) → in_pool places x ≤ 1
unfolding in_pool
in_pool_once places x = go (ltb 0 x && ltb x places)
  where
    go : (b : Bool) → cond b 1 0 ≤ 1
    go true = omega arith
    go false = omega arith

-- what is used is not 0 and within the lists
pub in_pool_within : (places x : ℕ) → 1 ≤ in_pool places x → (0 < x) × (x < places)
unfolding in_pool
in_pool_within places x = go (ltb 0 x) (ltb x places) refl refl
  where
    go : (a b : Bool) → ltb 0 x ≡ a → ltb x places ≡ b → 1 ≤ cond (a && b) 1 0 → (0 < x) × (x < places)
    go true true e f h = (ltb-true 0 x e, ltb-true x places f)
    go true false e f h = absurd (omega arith)
    go false true e f h = absurd (omega arith)
    go false false e f h = absurd (omega arith)

-- a node within the lists may be used
pub in_pool_lem : (places x : ℕ) → 0 < x → x < places → in_pool places x ≡ 1
unfolding in_pool
in_pool_lem places x h k = rw (lt-ltb 0 x h, lt-ltb x places k)

-- 0 is never used
pub in_pool_zero : (places : ℕ) → in_pool places 0 ≡ 0
unfolding in_pool
in_pool_zero places = refl

-- nor is what lies past the end
pub in_pool_past : (places x : ℕ) → places ≤ x → in_pool places x ≡ 0
unfolding in_pool
in_pool_past places x h = go (ltb 0 x)
  where
    go : (b : Bool) → ◌≡◌ {A = ℕ} (cond (b && ltb x places) 1 0) 0
    go true = rw (le-ltb x places h)
    go false = refl

-- a place more is a node more
pub in_pool_next : (a x : ℕ) → in_pool (suc (suc a)) x ≡ only x (suc a) + in_pool (suc a) x
in_pool_next a zero = omega (arith, in_pool_zero (suc (suc a)), in_pool_zero (suc a), only_other 0 (suc a) (λ (e : suc a ≡ 0). omega arith))
in_pool_next a (suc x) = go (ltb (suc x) (suc a)) (eqb (suc a) (suc x)) refl refl
  where
    go : (b c : Bool) → ltb (suc x) (suc a) ≡ b → eqb (suc a) (suc x) ≡ c → in_pool (suc (suc a)) (suc x) ≡ only (suc x) (suc a) + in_pool (suc a) (suc x)
    go true c e d =
        let low = ltb-true (suc x) (suc a) e in
        omega (arith, in_pool_lem (suc (suc a)) (suc x) (omega arith) (omega arith), in_pool_lem (suc a) (suc x) (omega arith) low, only_other (suc x) (suc a) (λ (q : suc a ≡ suc x). omega arith))
    go false true e d =
        let here : suc a ≡ suc x = eqb-true (suc a) (suc x) d in
        let past = ltb-false (suc x) (suc a) e in
        omega (arith, in_pool_lem (suc (suc a)) (suc x) (omega arith) (omega arith), in_pool_past (suc a) (suc x) past, only_self (suc x), ap (λ (n : ℕ). only (suc x) n) here)
    go false false e d =
        let other = eqb-false (suc a) (suc x) d in
        let past = ltb-false (suc x) (suc a) e in
        omega (arith, in_pool_past (suc (suc a)) (suc x) (omega arith), in_pool_past (suc a) (suc x) past, only_other (suc x) (suc a) other)

-- more places allow no less
pub in_pool_more : (few many x : ℕ) → few ≤ many → in_pool few x ≤ in_pool many x
in_pool_more few many x h = go (ltb x few) (ltb 0 x) refl refl
  where
    none : ltb 0 x ≡ false → x ≡ 0
    none d = omega (arith, ltb-false 0 x d)

    go : (b c : Bool) → ltb x few ≡ b → ltb 0 x ≡ c → in_pool few x ≤ in_pool many x
    go true true e d = omega (arith, in_pool_lem many x (ltb-true 0 x d) (omega (arith, ltb-true x few e)), in_pool_once few x)
    go true false e d = omega (arith, ap (in_pool few) (none d), in_pool_zero few)
    go false c e d = omega (arith, in_pool_past few x (ltb-false x few e))

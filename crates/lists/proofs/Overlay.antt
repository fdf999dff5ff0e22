-- Facts about `overlay`: a list that is written over a longer one, place by place from the front, or in any order.
use mathlib.Core.Path.{◌≡◌, refl, sym, ap, ap₂, ◌∙◌}
use mathlib.Core.Bool.{Bool, true, false}
use mathlib.Core.List.{List, [], ◌∷◌, ◌++◌, append-nil}
use Prim.Native.Nat.{ℕ, zero, suc, ◌+◌, ◌-◌, ◌≤◌, ◌<◌}
use native.Mathlib.Nat.{le_refl, le_of_suc-le-suc, not-suc-le-zero}
use native.Mathlib.Numerals.{add-one}
use native.Mathlib.Omega.{arith}
use lib.Dec.{eqb}
use lib.ListN.{length, get_or, set, take, drop, replicate, length-append, length-set, length-drop, length-replicate, get_or-replicate, take-append-drop, get_or-append}
use lib.Seq.{take_all, take_at, length-take-le, drop-append-add, drop_at, drop-drop, drop-length, drop-set-lt, get_or-take, get_or-set_same, get_or-set_other, ext_get_or}
use borrow.Author.Tests.{eqb-true, eqb-false}
use Rattle.lists.specs.Lists.{overlay}

-- no place of a list lies past its end
not_in_nil : {A : Type 0} {i : ℕ} → i < 0 → A
not_in_nil h = absurd (not-suc-le-zero h)

-- a list whose first i places are written, with one store more
pub overlay_suc : (new old : List ℕ) (i : ℕ) → i < length new → i < length old
    → set (overlay (take i new) old) i (get_or new i 0) ≡ overlay (take (suc i) new) old
unfolding overlay
overlay_suc [] old i h k = not_in_nil h
overlay_suc (x ∷ new) [] i h k = not_in_nil k
overlay_suc (x ∷ new) (y ∷ old) zero h k = refl
overlay_suc (x ∷ new) (y ∷ old) (suc i) h k = ap (λ (l : List ℕ). x ∷ l) (overlay_suc new old i (le_of_suc-le-suc h) (le_of_suc-le-suc k))

-- the same for a loop that stores x at i
pub overlay_store : (new old : List ℕ) {list : List ℕ} {i x : ℕ} → list ≡ overlay (take i new) old → x ≡ get_or new i 0 → i < length new → i < length old
    → set list i x ≡ overlay (take (i + 1) new) old
overlay_store new old {list} {i} {x} e v h k = rw (e, v, add-one) (overlay_suc new old i h k)

-- all places are written
pub overlay_all : (new old : List ℕ) (i : ℕ) → length new ≤ i → overlay (take i new) old ≡ overlay new old
overlay_all new old i h = rw (take_all i new h)

-- the places past the new ones are the old ones
pub drop_overlay : (new old : List ℕ) (n : ℕ) → length new ≤ n → drop n (overlay new old) ≡ drop n old
unfolding overlay
drop_overlay new old n h =
    let more : n ≡ length new + (n - length new) = omega arith in
    ap (λ (k : ℕ). drop k (new ++ drop (length new) old)) more
    ∙ drop-append-add new (drop (length new) old) (n - length new)
    ∙ drop-drop (n - length new) (length new) old
    ∙ ap (λ (k : ℕ). drop k old) (sym more)

-- what is laid over a list depends on those places alone
pub overlay_kept : (new old other : List ℕ) → drop (length new) other ≡ drop (length new) old → overlay new other ≡ overlay new old
unfolding overlay
overlay_kept new old other e = ap (λ (rest : List ℕ). new ++ rest) e

-- so it forgets a shorter list that was laid over it before
pub overlay_again : (new other old : List ℕ) → length other ≤ length new → overlay new (overlay other old) ≡ overlay new old
overlay_again new other old h = overlay_kept new old (overlay other old) (drop_overlay other old (length new) h)

-- and may be laid over it again
pub overlay_here : (new old : List ℕ) {list : List ℕ} → list ≡ overlay new old → list ≡ overlay new list
overlay_here new old e = e ∙ sym (overlay_again new new old (le_refl (length new))) ∙ ap (overlay new) (sym e)

-- zeros laid over a list
pub overlay_zeros : (m : ℕ) (old : List ℕ) (i : ℕ) → i < m → get_or (overlay (replicate m 0) old) i 0 ≡ 0
unfolding overlay
overlay_zeros m old i h =
    let zeros : List ℕ = replicate m 0 in
    get_or-append zeros (drop (length zeros) old) 0 i (rw length-replicate h) ∙ get_or-replicate m i 0 0 h

-- a list has the places that were written over it
pub overlay_long : (new old : List ℕ) → length new ≤ length (overlay new old)
unfolding overlay
overlay_long new old = omega (arith, length-append new (drop (length new) old))

-- and begins with them
pub overlay_front : (new old : List ℕ) (n : ℕ) → length new ≡ n → take n (overlay new old) ≡ new
unfolding overlay
overlay_front new old n e = take_at new (drop (length new) old) n e

-- and as many places as before, if what was written has room
pub length_overlay : (new old : List ℕ) → length new ≤ length old → length (overlay new old) ≡ length old
unfolding overlay
length_overlay new old h = omega (arith, length-append new (drop (length new) old), length-drop (length new) old)

-- a list that is written whole
pub overlay_whole : (l : List ℕ) (x : ℕ) → overlay (replicate (length l) x) l ≡ replicate (length l) x
unfolding overlay
overlay_whole l x =
    let filled : List ℕ = replicate (length l) x in
    rw (length-replicate (length l) x, drop-length l) (append-nil filled)

-- The same written in any order.

-- `list` holds the new numbers at the places that are done, and past them all what `old` held
pub record Laid (new old list : List ℕ) (done : ℕ → Type 0) : Type 0 where
  pub long : length list ≡ length old
  pub rest : drop (length new) list ≡ drop (length new) old
  pub there : (j : ℕ) → j < length new → done j → get_or list j 0 ≡ get_or new j 0

-- no place is done
pub laid_none : (new old : List ℕ) (done : ℕ → Type 0) → ((j : ℕ) → j < length new → done j → ⊥) → Laid new old old done
laid_none new old done none = record { long = refl; rest = refl; there = λ j h d. absurd (none j h d) }

-- one more is
pub laid_more : (new old list : List ℕ) (done more : ℕ → Type 0) {p x : ℕ} → Laid new old list done → length new ≤ length old → p < length new
    → x ≡ get_or new p 0 → ((j : ℕ) → j < length new → more j → (j ≡ p → ⊥) → done j) → Laid new old (set list p x) more
laid_more new old list done more {p} {x} l room h e before = record {
  long = length-set list p x ∙ l.long;
  rest = drop-set-lt (length new) list p x h ∙ l.rest;
  there = λ j k d. go j k d (eqb j p) refl;
}
  where
    go : (j : ℕ) → j < length new → more j → (b : Bool) → eqb j p ≡ b → get_or (set list p x) j 0 ≡ get_or new j 0
    go j k d true q = let same = eqb-true j p q in rw same (get_or-set_same list p x 0 (omega (arith, l.long)) ∙ e)
    go j k d false q =
        let other = eqb-false j p q in
        get_or-set_other list p j x 0 other ∙ l.there j k (before j k d other)

-- all are
pub laid_all : (new old list : List ℕ) (done : ℕ → Type 0) → Laid new old list done → length new ≤ length old → ((j : ℕ) → j < length new → done j)
    → list ≡ overlay new old
unfolding overlay
laid_all new old list done l room all =
    let n = length new in
    let size : length (take n list) ≡ n = length-take-le n list (omega (arith, l.long)) in
    let front : take n list ≡ new =
    ext_get_or 0 (take n list) new size (λ j h. let k : j < n = omega arith in get_or-take n list j 0 k ∙ l.there j k (all j k)) in
    sym (take-append-drop n list) ∙ ap₂ (λ (a b : List ℕ). a ++ b) front l.rest

-- Parts of lists, written on their own.

-- the first places of a list that has them
pub part_length : (n : ℕ) (l : List ℕ) → n ≤ length l → n ≡ length (take n l)
part_length n l h = sym (length-take-le n l h)

-- those places written, and the rest as it was
pub part_laid : (n : ℕ) (old : List ℕ) {new written : List ℕ} → n ≤ length old → length written ≡ length (take n old) → written ≡ new
    → written ++ drop n old ≡ overlay new old
unfolding overlay
part_laid n old {new} {written} h k e =
    ap (λ (i : ℕ). written ++ drop i old) (part_length n old h ∙ sym k) ∙ ap (λ (l : List ℕ). overlay l old) e

-- zeros laid over them afterwards
pub part_cleared : (n : ℕ) (old written : List ℕ) {after : List ℕ} → n ≤ length old → length written ≡ length (take n old)
    → after ≡ overlay (replicate n 0) (written ++ drop n old) → after ≡ overlay (replicate n 0) old
part_cleared n old written h k e =
    let zeros : List ℕ = replicate n 0 in
    let size : length zeros ≡ n = length-replicate n 0 in
    let rest : drop n (written ++ drop n old) ≡ drop n old = drop_at written (drop n old) n (k ∙ sym (part_length n old h)) in
    e ∙ overlay_kept zeros old (written ++ drop n old) (rw size rest)

-- Printing: nothing, a text, and one text behind another.
use mathlib.Core.Path.{◌≡◌, refl, sym, ap, subst, ◌∙◌}
use mathlib.Core.List.{List, [], ◌++◌, append_assoc, append-nil}
use Prim.Native.Nat.{ℕ, ◌+◌, ◌≤◌}
use native.Mathlib.Omega.{arith}
use lib.ListN.{length, take, drop, length-append}
use lib.Seq.{drop-drop}
use borrow.Rule.Slice.PartMut.{put_mid}
use Rattle.lists.specs.Lists.{overlay}
use Rattle.lists.proofs.Overlay.{overlay_front, drop_overlay, length_overlay}
use Rattle.text.specs.Printed.{Printed, Prints}

-- nothing is printed yet
pub prints_start : (output : List ℕ) → Printed output [] output 0
unfolding overlay
prints_start output = record { laid = refl; used = refl; room = omega arith }

-- what is printed, in other words
pub prints_same : {a b output output' : List ℕ} {at at' : ℕ} → Prints a output at output' at' → a ≡ b → Prints b output at output' at'
prints_same {output = output} {output' = output'} {at = at} {at' = at'} p e =
    subst (λ (t : List ℕ). Prints t output at output' at') e p

-- a step that prints nothing
pub prints_none : (output : List ℕ) {at at' : ℕ} → at' ≡ at → Prints [] output at output at'
prints_none output e old text p = record {
  laid = p.laid ∙ ap (λ (t : List ℕ). overlay t old) (sym (append-nil text));
  used = e ∙ p.used ∙ ap length (sym (append-nil text));
  room = omega (arith, p.room, ap length (append-nil text));
}

-- a text written behind what is printed, over as many places as it has
pub prints_part : (text output : List ℕ) (at : ℕ) {part : List ℕ} {k at' : ℕ} → part ≡ text → k ≡ length text → at' ≡ at + k → at + k ≤ length output
    → Prints text output at (put_mid at k output part) at'
unfolding overlay
prints_part text output at {k = k} e size next room old front p =
    let new : List ℕ = front ++ text in
    let long : length new ≡ at + k = omega (arith, length-append front text, p.used) in
    let same : length output ≡ length old = ap length p.laid ∙ length_overlay front old p.room in
    let before : take at output ≡ front = ap (take at) p.laid ∙ overlay_front front old at (sym p.used) in
    let behind : drop k (drop at output) ≡ drop (length new) old =
    ap (λ (l : List ℕ). drop k (drop at l)) p.laid ∙ ap (drop k) (drop_overlay front old at (omega (arith, p.used))) ∙ drop-drop k at old
    ∙ ap (λ (n : ℕ). drop n old) (sym long) in record {
      laid = (λ i. before i ++ (e i ++ behind i)) ∙ sym (append_assoc front text (drop (length new) old));
      used = next ∙ sym long;
      room = omega arith;
    }

-- two steps, one after the other
pub prints_then : (a b : List ℕ) {output output' output'' : List ℕ} {at at' at'' : ℕ} → Prints a output at output' at'
    → Prints b output' at' output'' at'' → Prints (a ++ b) output at output'' at''
prints_then a b f g old text p = rw (append_assoc text a b) at (g old (text ++ a) (f old text p))

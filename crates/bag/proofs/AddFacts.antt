-- The full adder on the lists: the table's rule, over all eight rows.
use Prim.Native.Nat.{ℕ, zero, suc, ◌+◌, ◌*◌, ◌<◌}
use native.Mathlib.Omega.{arith}
use mathlib.Core.Path.{◌≡◌, refl}
use mathlib.Core.Bool.{Bool, true, false, not, ◌&&◌, and-eq-true_iff}
use mathlib.Core.List.{List, [], ◌∷◌}
use lib.Dec.{eqb, eqb-suc-zero}
use borrow.Author.Tests.{eqb-true, not-true}
use lib.ListN.{length, get_or, set}
use mir.Val.{bool_byte as from_bool}
use Rattle.lists.specs.Lists.{sum_of, reaches}
use Rattle.lists.proofs.Tests.{reaches_at}
use Rattle.pennant.specs.Bag.{adder_sum, adder_carry}
use Rattle.bag.specs.Nodes.{pennant_at}
use Rattle.bag.specs.Table.{present, row_of, term, adder_table, entry_at}
use Rattle.bag.specs.Steps.{linked_left, linked_right, Pennants, Added}
use Rattle.bag.proofs.Only.{in_pool_once}
use Rattle.bag.proofs.Kept.{pennant_kept}
use Rattle.bag.proofs.Pairs.{link_pennant, link_kept}

-- what the row of x, y and z has in a column
abbrev pub column_of : ℕ → ℕ → ℕ → ℕ → ℕ
column_of column x y z = term x y z (entry_at (row_of x y z) column)

-- 1 for a node that is there
pub present_bool : (x : ℕ) → from_bool (not (eqb x 0)) ≡ present x
unfolding present
present_bool zero = refl
present_bool (suc x) = rw (eqb-suc-zero x)

-- the row as the code counts it
pub row_whole : (x y z : ℕ) {a b c : ℕ} → a ≡ present x → b ≡ present y → c ≡ present z → a + 2 * b + 4 * c ≡ row_of x y z
unfolding row_of
row_whole x y z p q r = rw (p, q, r)

-- whether each row has three entries, each of them below four
tabled : List (List ℕ) → Bool
tabled [] = true
tabled (row ∷ rows) = (eqb (length row) 3 && not (reaches 4 row)) && tabled rows

tabled_row : (table : List (List ℕ)) (i : ℕ) → tabled table ≡ true → i < length table → (length (get_or table i []) ≡ 3) × (reaches 4 (get_or table i []) ≡ false)
unfolding tabled
tabled_row [] i e h = absurd (omega arith)
tabled_row (row ∷ rows) zero e h =
    let here = (and-eq-true_iff (eqb (length row) 3) (not (reaches 4 row))).0 ((and-eq-true_iff (eqb (length row) 3 && not (reaches 4 row)) (tabled rows)).0 e).0 in
    (eqb-true (length row) 3 here.0, not-true (reaches 4 row) here.1)
tabled_row (row ∷ rows) (suc i) e h = tabled_row rows i ((and-eq-true_iff (eqb (length row) 3 && not (reaches 4 row)) (tabled rows)).0 e).1 (omega arith)

-- so an entry stands for one of four: computed once over the whole table
pub entry_within : (row column : ℕ) → row < 8 → column < 3 → entry_at row column < 4
unfolding tabled reaches
entry_within row column h g =
    let fits = tabled_row adder_table row refl h in
    reaches_at 4 (get_or adder_table row []) column fits.1 (omega (arith, fits.0))

-- which is below any bound that three are, if 0 is
pub term_below : (x y z entry limit : ℕ) → entry < 4 → x < limit → y < limit → z < limit → term x y z entry < limit
term_below x y z zero limit h a b c = omega arith
term_below x y z (suc zero) limit h a b c = a
term_below x y z (suc (suc zero)) limit h a b c = b
term_below x y z (suc (suc (suc zero))) limit h a b c = c
term_below x y z (suc (suc (suc (suc e)))) limit h a b c = absurd (omega arith)

-- so an entry of a row is below what the three are
pub entry_below : (x y z row column limit : ℕ) → row < 8 → column < 3 → x < limit → y < limit → z < limit → term x y z (entry_at row column) < limit
entry_below x y z row column limit h g a b c = term_below x y z (entry_at row column) limit (entry_within row column h g) a b c

-- a link where there is a root
pub linked_some : (x y : ℕ) (left right : List ℕ) {left' right' : List ℕ} → (x ≡ 0 → ⊥) → left' ≡ set left x y → right' ≡ set right y (get_or left x 0)
    → (left' ≡ linked_left x y left) × (right' ≡ linked_right x y left right)
unfolding linked_left linked_right
linked_some zero y left right h a b = absurd (h refl)
linked_some (suc x) y left right h a b = (a, b)

-- and where there is none
pub linked_none : (x y : ℕ) (left right : List ℕ) → x ≡ 0 → (left ≡ linked_left x y left) × (right ≡ linked_right x y left right)
unfolding linked_left linked_right
linked_none zero y left right h = (refl, refl)
linked_none (suc x) y left right h = absurd (omega arith)

some : (x : ℕ) → suc x ≡ 0 → ⊥
some x e = omega arith

module _ (left right : List ℕ) (k : ℕ) where
  pair_xy : (x y z : ℕ) → Pennants left right k (x ∷ y ∷ z ∷ []) → Pennants left right k (x ∷ y ∷ [])
  unfolding sum_of
  pair_xy x y z p = record { wide = p.wide; apart = λ i. omega (arith, p.apart i) }

  pair_xz : (x y z : ℕ) → Pennants left right k (x ∷ y ∷ z ∷ []) → Pennants left right k (x ∷ z ∷ [])
  unfolding sum_of
  pair_xz x y z p = record { wide = p.wide; apart = λ i. omega (arith, p.apart i) }

  pair_yz : (x y z : ℕ) → Pennants left right k (x ∷ y ∷ z ∷ []) → Pennants left right k (y ∷ z ∷ [])
  unfolding sum_of
  pair_yz x y z p = record { wide = p.wide; apart = λ i. omega (arith, p.apart i) }

  -- where there is nothing to add, the slot and the lists stay and nothing is carried
  pub add_nothing : (x : ℕ) → Added left right k x 0 0 left right x 0
  unfolding pennant_at adder_sum adder_carry
  add_nothing zero = record { sum = refl; carried = refl; kept_left = λ i c. refl; kept_right = λ i c. refl }
  add_nothing (suc x) = record { sum = refl; carried = refl; kept_left = λ i c. refl; kept_right = λ i c. refl }

  -- each row of the table is 000's
  pub add_rows : (x y z : ℕ) → Pennants left right k (x ∷ y ∷ z ∷ [])
      → Added left right k x y z (linked_left (column_of 1 x y z) (column_of 2 x y z) left) (linked_right (column_of 1 x y z) (column_of 2 x y z) left right) (column_of 0 x y z) (column_of 1 x y z)
  unfolding present row_of linked_left linked_right pennant_at adder_sum adder_carry sum_of
  add_rows zero zero zero p = add_nothing zero
  add_rows (suc x) zero zero p = add_nothing (suc x)
  add_rows zero (suc y) zero p = record { sum = refl; carried = refl; kept_left = λ i c. refl; kept_right = λ i c. refl }
  add_rows zero zero (suc z) p = record { sum = refl; carried = refl; kept_left = λ i c. refl; kept_right = λ i c. refl }
  add_rows (suc x) (suc y) zero p = record {
    sum = refl;
    carried = link_pennant left right k (suc x) (suc y) (some x) (some y) (pair_xy (suc x) (suc y) zero p);
    kept_left = λ i c. (link_kept left right k (suc x) (suc y) i (some x) (some y) (omega arith)).0;
    kept_right = λ i c. (link_kept left right k (suc x) (suc y) i (some x) (some y) (omega arith)).1;
  }
  add_rows (suc x) zero (suc z) p = record {
    sum = refl;
    carried = link_pennant left right k (suc x) (suc z) (some x) (some z) (pair_xz (suc x) zero (suc z) p);
    kept_left = λ i c. (link_kept left right k (suc x) (suc z) i (some x) (some z) (omega arith)).0;
    kept_right = λ i c. (link_kept left right k (suc x) (suc z) i (some x) (some z) (omega arith)).1;
  }
  add_rows zero (suc y) (suc z) p = record {
    sum = refl;
    carried = link_pennant left right k (suc y) (suc z) (some y) (some z) (pair_yz zero (suc y) (suc z) p);
    kept_left = λ i c. (link_kept left right k (suc y) (suc z) i (some y) (some z) (omega arith)).0;
    kept_right = λ i c. (link_kept left right k (suc y) (suc z) i (some y) (some z) (omega arith)).1;
  }
  add_rows (suc x) (suc y) (suc z) p = record {
    sum =
        pennant_kept left right (set left (suc y) (suc z)) (set right (suc z) (get_or left (suc y) 0)) k (suc x)
        (λ i c. link_kept left right k (suc y) (suc z) i (some y) (some z) (omega (arith, c, p.apart i, in_pool_once (length left) i)));
    carried = link_pennant left right k (suc y) (suc z) (some y) (some z) (pair_yz (suc x) (suc y) (suc z) p);
    kept_left = λ i c. (link_kept left right k (suc y) (suc z) i (some y) (some z) (omega arith)).0;
    kept_right = λ i c. (link_kept left right k (suc y) (suc z) i (some y) (some z) (omega arith)).1;
  }

  -- the lists and the two slots as the code leaves them
  pub add_whole : (x y z : ℕ) {left' right' : List ℕ} {row root child slot : ℕ} → Pennants left right k (x ∷ y ∷ z ∷ []) → row ≡ row_of x y z
      → root ≡ term x y z (entry_at row 1) → child ≡ term x y z (entry_at row 2) → slot ≡ term x y z (entry_at row 0)
      → left' ≡ linked_left root child left → right' ≡ linked_right root child left right
      → Added left right k x y z left' right' slot root
  add_whole x y z p e a b c l r = rw (l, r, a, b, c, e) (add_rows x y z p)

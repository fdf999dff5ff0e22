-- Facts about rows that are not malformed: what the steps of writing take for granted, and what their file holds.
use mathlib.Core.Bool.{false}
use mathlib.Core.Path.{◌≡◌, sym, subst}
use mathlib.Core.List.{List, [], ◌∷◌}
use Prim.Native.Nat.{ℕ, ◌+◌, ◌-◌}
use native.Mathlib.Nat.{not-suc-le-zero}
use native.Mathlib.Numerals.{sub-one}
use native.Mathlib.Omega.{arith}
use lib.ListN.{length, get_or}
use Rattle.lists.proofs.Rows.{Rising}
use Rattle.graph.specs.Write.{malformed, row_count}
use Rattle.writer.specs.Steps.{WellFormed}
use Rattle.graph.proofs.Bridge.{Accepted, accept_rows, rows_rising}
use Rattle.writer.proofs.Encoding.{Written, written_rising}

-- what the steps of writing take for granted
pub well_formed : (offsets targets : List ℕ) → malformed offsets targets ≡ false → WellFormed offsets targets (length offsets - 1)
well_formed offsets targets h =
    let is : Accepted offsets targets = accept_rows offsets targets h in
    let one : length offsets - 1 ≡ row_count offsets = sub-one (length offsets) in
    record {
      vertices = omega (arith, is.rows.some);
      few_vertices = omega (arith, is.few_vertices);
      few_edges = is.few_edges;
      clean = h;
    }

-- what the tests say of a first offset and those behind it
written_cons : (a : ℕ) (offsets targets : List ℕ) → Accepted (a ∷ offsets) targets → Written (a ∷ offsets) targets (length offsets)
written_cons a offsets targets is =
    subst
    (λ (x : ℕ). Rising (length targets) x offsets → get_or (x ∷ offsets) (length offsets) 0 ≡ length targets → Written (x ∷ offsets) targets (length offsets))
    (sym is.rows.start)
    (written_rising targets offsets)
    (rows_rising a offsets targets is.rows)
    is.rows.stop

written_accepted : (offsets targets : List ℕ) (n : ℕ) → length offsets ≡ n + 1 → Accepted offsets targets → Written offsets targets n
written_accepted [] targets n h is = absurd (not-suc-le-zero is.rows.some)
written_accepted (a ∷ offsets) targets n h is = subst (λ (x : ℕ). Written (a ∷ offsets) targets x) (omega arith) (written_cons a offsets targets is)

-- the offsets and the file of well-formed rows
pub written_rows : {offsets targets : List ℕ} {n : ℕ} → WellFormed offsets targets n → Written offsets targets n
written_rows {offsets} {targets} {n} rows = written_accepted offsets targets n rows.vertices (accept_rows offsets targets rows.clean)

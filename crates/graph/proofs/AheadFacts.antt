-- The indices that the walk reads ahead: what they are on the chains, and that none is above m, not even one that no record or vertex has.
use mathlib.Core.Path.{◌≡◌, ap, ◌∙◌}
use mathlib.Core.List.{List}
use Prim.Native.Nat.{ℕ, zero, suc, ◌+◌, ◌*◌, ◌-◌, ◌≤◌, min}
use native.Mathlib.Omega.{arith}
use Rattle.graph.specs.File.{word, vertex_count, head_index, next}
use Rattle.graph.specs.Steps.{Scanned}
use Rattle.graph.proofs.ScanFacts.{head_within, next_within}
use Rattle.graph.proofs.WalkFacts.{behind, next_behind}

-- the two indices after a record's on its chain; after 0 any two, but none above m
pub record Ahead (file : List ℕ) (m index second third : ℕ) : Type 0 where
  pub to_second : (index ≡ 0 → ⊥) → second ≡ next file index
  pub to_third : (index ≡ 0 → ⊥) → third ≡ next file second
  pub third_inside : third ≤ m

-- before the first chain
pub ahead_none : {file : List ℕ} {m : ℕ} → Ahead file m 0 0 0
ahead_none = record {
  to_second = λ some. absurd (omega arith);
  to_third = λ some. absurd (omega arith);
  third_inside = omega arith;
}

module _ (file : List ℕ) {n m : ℕ} (s : Scanned file n m) where
  -- the word before the first record is the last head
  next_none : next file 0 ≡ head_index file (n - 1)
  unfolding next head_index
  next_none =
      let same : vertex_count file + 2 * 0 + 1 ≡ 2 + (n - 1) = omega (arith, s.sized.vertices, s.sized.some) in
      ap (word file) same

  -- what is read after an index is not above m
  pub next_of_within : (r : ℕ) {x : ℕ} → r ≤ m → x ≡ word (behind file n) (2 * r + 1) → x ≤ m
  next_of_within zero h e = rw (e, next_behind s.sized 0, next_none) (head_within file s (n - 1) (omega (arith, s.sized.some)))
  next_of_within (suc r) h e = rw (e, next_behind s.sized (suc r)) (next_within file s (suc r) (omega arith) h)

  -- nor is a head
  pub head_of_within : {r : ℕ} (u : ℕ) → r ≡ head_index file (min u (n - 1)) → r ≤ m
  head_of_within u e = rw e (head_within file s (min u (n - 1)) (omega (arith, s.sized.some)))

  -- two indices are read after one
  pub ahead_from : {index second third : ℕ} → index ≤ m → second ≡ word (behind file n) (2 * index + 1) → third ≡ word (behind file n) (2 * second + 1)
      → Ahead file m index second third
  ahead_from {index} {second} inside e f =
      let low = next_of_within index inside e in record {
        to_second = λ some. e ∙ next_behind s.sized index;
        to_third = λ some. f ∙ next_behind s.sized second;
        third_inside = next_of_within second low f;
      }

  -- one more is read, and the walk goes on from a record
  pub ahead_next : {index second third fourth : ℕ} → Ahead file m index second third → (index ≡ 0 → ⊥)
      → fourth ≡ word (behind file n) (2 * third + 1) → Ahead file m second third fourth
  ahead_next {third = third} a some e = record {
    to_second = λ _. a.to_third some;
    to_third = λ _. e ∙ next_behind s.sized third;
    third_inside = next_of_within third a.third_inside e;
  }

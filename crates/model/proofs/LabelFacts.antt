-- Facts about one label, set or unset: whose it is; and about sound labels: one that is set is the vertex's distance, and each layer so
-- far has one.
use mathlib.Core.Path.{◌≡◌, refl, sym}
use mathlib.Core.Bool.{true, false, true≢false}
use mathlib.Core.Option.{Option, none, some}
use Prim.Native.Nat.{ℕ, ◌≤◌, ◌<◌}
use native.Mathlib.Omega.{arith}
use lib.ListN.{length}
use Rattle.lists.specs.Lists.{some_one}
use Rattle.lists.proofs.Parts.{place_below}
use Rattle.graph.specs.Graph.{Graph}
use Rattle.model.specs.Paths.{Distance, Labels, distance_of, is_set}
use Rattle.model.proofs.Sound.{LabelsSound}
use Rattle.model.proofs.Walks.{distance_unique, distance_up_to}

-- the value that a label is set to
pub record HasValue (l : Option ℕ) : Type 0 where
  pub value : ℕ
  pub is : l ≡ some value

-- a label that is set has one
pub set_value : (l : Option ℕ) → is_set l ≡ true → HasValue l
set_value none e = absurd (true≢false (sym e))
set_value (some k) e = record { value = k; is = refl }

-- and counts 1
pub set_one : (l : Option ℕ) → is_set l ≡ true → some_one l ≡ 1
set_one none e = absurd (true≢false (sym e))
set_one (some k) e = refl

-- and the other way
pub one_set : (l : Option ℕ) → 1 ≤ some_one l → is_set l ≡ true
one_set none h = absurd (omega arith)
one_set (some k) h = refl

-- a label that isn't set is none
pub unset_none : (l : Option ℕ) → is_set l ≡ false → l ≡ none
unset_none none e = refl
unset_none (some k) e = absurd (true≢false e)

-- a label can't be none and set
pub not_both : {R : Type 0} {l : Option ℕ} → l ≡ none → is_set l ≡ true → R
not_both e s = absurd (true≢false (sym (rw e at s)))

-- a label that stays as it is set counts no less afterwards
pub set_kept : (l m : Option ℕ) → ((k : ℕ) → l ≡ some k → m ≡ some k) → some_one l ≤ some_one m
set_kept none m keeps = omega arith
set_kept (some k) m keeps = rw (keeps k refl) (omega arith)

-- where each of n vertices has its place, a label that is set belongs to one of them
pub label_below : {n k : ℕ} (x : Labels) (v : ℕ) → length x.distances ≡ n → distance_of x v ≡ some k → v < n
label_below x v all e = rw all at (place_below x.distances v e)

module _ {g : Graph} {source d : ℕ} {x : Labels} (l : LabelsSound g source d x) where
  -- a vertex that is set has its distance for label
  pub label_is : (v k : ℕ) → is_set (distance_of x v) ≡ true → Distance g source v k → distance_of x v ≡ some k
  label_is v k e far =
      let label = set_value (distance_of x v) e in
      rw (distance_unique (l.written v label.value label.is) far) at label.is

  -- so has every vertex of this layer
  pub layer_is : (v : ℕ) → Distance g source v d → distance_of x v ≡ some d
  layer_is v far = label_is v d (l.near v d far.walk (omega arith)) far

  -- and each layer up to this one has a vertex whose distance is written
  pub layer_written : (h : ℕ) → h ≤ d → (v : ℕ) × (distance_of x v ≡ some h)
  layer_written h low =
      let there = distance_up_to l.some_vertex.1 h low in
      (there.0, label_is there.0 h (l.near there.0 h there.1.walk low) there.1)

-- The checker's condition with no path in it is the one with paths: what is certified is right, what is right is certified, and right distances
-- are the only ones.
use mathlib.Core.Path.{◌≡◌, refl, sym, ap, ◌∙◌}
use mathlib.Core.Option.{Option, none, some, none-ne-some, mem_unique}
use Prim.Native.Nat.{ℕ, zero, suc, ◌≤◌, ◌<◌}
use native.Mathlib.Decide.{ℕ_discrete}
use native.Mathlib.Omega.{arith}
use lib.ListN.{length}
use lib.Seq.{ext_get_or}
use Rattle.graph.specs.Graph.{Graph}
use Rattle.model.specs.Paths.{Joins, Walk, stay, onward, Labels, distance_of, parent_of, RightResult}
use Rattle.model.proofs.Certified.{Certified}
use Rattle.model.proofs.Sound.{Ground}
use Rattle.model.proofs.Walks.{walk_below, walk_more, distance_unique}
use Rattle.model.proofs.LabelFacts.{label_below}

-- v is set, to no more than k
record SetWithin (x : Labels) (v k : ℕ) : Type 0 where
  value : ℕ
  is : distance_of x v ≡ some value
  most : value ≤ k

module _ {g : Graph} {source : ℕ} {x : Labels} (c : Certified g source x) where
  -- a parent of distance d and a link from it
  pub record Preceded (v d : ℕ) : Type 0 where
    pub parent : ℕ
    pub named : parent_of x v ≡ some parent
    pub near : distance_of x parent ≡ some d
    pub edge : Joins g parent v

  -- a vertex other than the source has no distance 0
  pub not_zero : (v : ℕ) → (v ≡ source → ⊥) → (k : ℕ) → distance_of x v ≡ some k → 0 < k
  not_zero v other k e = let r = c.parent v (label_below x v c.distances_all e) other (rw e) in omega (arith, mem_unique e r.2.there)

  -- a vertex of distance d + 1 has such a parent
  pub parent_before : (v d : ℕ) → distance_of x v ≡ some (suc d) → Preceded v d
  parent_before v d e =
      let r = c.parent v (label_below x v c.distances_all e) (λ q. omega (arith, mem_unique c.source (rw q at e))) (rw e) in
      let depth : r.2.depth ≡ d = omega (arith, mem_unique r.2.there e) in
      record { parent = r.0; named = r.1; near = rw depth at r.2.here; edge = r.2.edge }

  -- a vertex set to d is the end of a path of d links: that of its parent and one link more
  certified_walk : (d v : ℕ) → distance_of x v ≡ some d → Walk g source v d
  certified_walk zero v e = elim (ℕ_discrete v source) [ yes same ↦ rw same stay | no apart ↦ absurd (omega (arith, not_zero v apart 0 e)) ]
  certified_walk (suc d) v e = let a = parent_before v d e in onward (certified_walk d a.parent a.near) a.edge

module _ {g : Graph} {source : ℕ} (ground : Ground g source) where
  module _ {x : Labels} (r : RightResult g source x) where
    -- right labels: the end of every path is set, to no more than its links
    right_within : {v k : ℕ} → Walk g source v k → SetWithin x v k
    right_within {v} {k} w = go (distance_of x v) refl
      where
        go : (l : Option ℕ) → distance_of x v ≡ l → SetWithin x v k
        go none e = absurd (r.unreached v k (walk_below ground w) e w)
        go (some j) e = record { value = j; is = e; most = (r.shortest v j (walk_below ground w) e).least k w }

    -- what is right is certified
    pub right_certified : Certified g source x
    right_certified = record {
      distances_all = r.distances_all;
      parents_all = r.parents_all;
      source = let s = right_within stay in s.is ∙ ap {B = Option ℕ} some (omega (arith, s.most));
      own_parent = r.own_parent;
      onward = λ u d i h e there.
          let t = right_within (walk_more (r.shortest u d h e).walk i there) in (t.value, t.is, t.most);
      no_parent_lem = r.no_parent_lem;
      parent = r.parent;
    }

  module _ {x : Labels} (c : Certified g source x) where
    -- certified labels: the end of every path is set, to no more than its links
    certified_within : {v k : ℕ} → Walk g source v k → SetWithin x v k
    certified_within stay = record { value = 0; is = c.source; most = omega arith }
    certified_within (onward {u = u} w j) =
        let a = certified_within w in
        let b = c.onward u a.value j.place (walk_below ground w) a.is j.there in
        record { value = b.0; is = rw j.leads at b.1; most = omega (arith, a.most, b.2) }

    -- what is certified is right
    pub certified_right : RightResult g source x
    certified_right = record {
      distances_all = c.distances_all;
      parents_all = c.parents_all;
      shortest = λ v d h e. record {
        walk = certified_walk c d v e;
        least = λ k w. let a = certified_within w in omega (arith, a.most, mem_unique e a.is);
      };
      unreached = λ v k h e w. let a = certified_within w in none-ne-some a.value (sym e ∙ a.is);
      own_parent = c.own_parent;
      no_parent_lem = c.no_parent_lem;
      parent = c.parent;
    }

module _ {g : Graph} {source : ℕ} where
  -- right distances are the only ones
  pub right_unique : {x y : Labels} → RightResult g source x → RightResult g source y → x.distances ≡ y.distances
  right_unique {x} {y} a b =
      ext_get_or none x.distances y.distances (a.distances_all ∙ sym b.distances_all)
      (λ v h. go v (rw a.distances_all at h) (distance_of x v) (distance_of y v) refl refl)
    where
      go : (v : ℕ) → v < length g → (l m : Option ℕ) → distance_of x v ≡ l → distance_of y v ≡ m → l ≡ m
      go v h none none e f = refl
      go v h none (some k) e f = absurd (a.unreached v k h e (b.shortest v k h f).walk)
      go v h (some k) none e f = absurd (b.unreached v k h f (a.shortest v k h e).walk)
      go v h (some k) (some j) e f = ap {B = Option ℕ} some (distance_unique (a.shortest v k h e) (b.shortest v j h f))

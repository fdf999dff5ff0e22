-- The test that computes is the checker's condition: a result that no vertex finds wrong is certified, and a certified one passes; so the test
-- answers false exactly where the result is right, in terms of paths.
use mathlib.Core.Path.{◌≡◌, refl, sym, ap, ◌∙◌}
use mathlib.Core.Bool.{Bool, true, false, cond, not, ◌||◌, true≢false}
use mathlib.Core.Option.{Option, none, some, none-ne-some, mem_unique}
use Prim.Native.Nat.{ℕ, suc, ◌≤◌, ◌<◌}
use lib.Dec.{eqb}
use lib.ListN.{length}
use borrow.Author.Tests.{ltb-false, eqb-true, eqb-false, not-false, le-ltb, eq-eqb, ne_eqb}
use Rattle.lists.specs.Lists.{elem}
use Rattle.lists.proofs.Any.{any_at_lem, at_any, any_below, below_any, elem_place, place_elem}
use Rattle.lists.proofs.Or.{or_none, none_or}
use Rattle.graph.specs.Graph.{Graph, edges}
use Rattle.model.specs.Paths.{edge_target, Labels, distance_of, parent_of, is_set, Nearer, RightResult}
use Rattle.model.proofs.Certified.{Certified}
use Rattle.model.proofs.Sound.{Ground}
use Rattle.model.proofs.Certificate.{certified_right, right_certified}
use Rattle.verify.specs.Certificate.{beyond, any_beyond, is_not, not_before, parent_wrong, label_wrong, vertex_wrong, result_wrong}

-- Single labels.

-- a label that isn't beyond is set, to no more than that
within : (most : ℕ) (o : Option ℕ) → beyond most o ≡ false → (k : ℕ) × (o ≡ some k) × (k ≤ most)
unfolding beyond
within most none e = absurd (true≢false e)
within most (some k) e = (k, refl, ltb-false most k e)

-- and the other way
not_beyond : (most k : ℕ) {o : Option ℕ} → o ≡ some k → k ≤ most → beyond most o ≡ false
unfolding beyond
not_beyond most k e h = rw e (le-ltb most k h)

-- a label that is nothing but k
is_that : (k : ℕ) (o : Option ℕ) → is_not k o ≡ false → o ≡ some k
unfolding is_not
is_that k none e = absurd (true≢false e)
is_that k (some j) e = ap {B = Option ℕ} some (eqb-true j k (not-false (eqb j k) e))

-- and the other way
that_is : (k : ℕ) {o : Option ℕ} → o ≡ some k → is_not k o ≡ false
unfolding is_not
that_is k e = rw (e, eq-eqb k k refl)

-- a label that is one less than d
is_before : (d : ℕ) (o : Option ℕ) → not_before d o ≡ false → (k : ℕ) × (o ≡ some k) × (suc k ≡ d)
unfolding not_before
is_before d none e = absurd (true≢false e)
is_before d (some k) e = (k, refl, eqb-true (suc k) d (not-false (eqb (suc k) d) e))

-- and the other way
before_is : (d k : ℕ) {o : Option ℕ} → o ≡ some k → suc k ≡ d → not_before d o ≡ false
unfolding not_before
before_is d k e h = rw (e, eq-eqb (suc k) d h)

-- a label that isn't set
is_unset : (o : Option ℕ) → is_set o ≡ false → o ≡ none
is_unset none e = refl
is_unset (some k) e = absurd (true≢false e)

module _ (g : Graph) (source : ℕ) (x : Labels) where
  -- Each vertex.

  -- a parent that isn't wrong is nearer by one link
  parent_near : (v d : ℕ) (o : Option ℕ) → distance_of x v ≡ some d → parent_wrong g x.distances v d o ≡ false
      → (p : ℕ) × (o ≡ some p) × Nearer g x p v
  unfolding parent_wrong
  parent_near v d none far e = absurd (true≢false e)
  parent_near v d (some p) far e =
      let both = or_none (not_before d (distance_of x p)) (not (elem v (edges g p))) e in
      let depth = is_before d (distance_of x p) both.0 in
      let link = elem_place v (edges g p) (not-false (elem v (edges g p)) both.1) in (
        p,
        refl,
        record {
          edge = record { place = link.place; there = link.there; leads = link.is };
          depth = depth.0;
          here = depth.1;
          there = rw depth.2 far;
        },
      )

  -- and the other way
  near_parent : (v d p : ℕ) {o : Option ℕ} → distance_of x v ≡ some d → o ≡ some p → Nearer g x p v → parent_wrong g x.distances v d o ≡ false
  unfolding parent_wrong
  near_parent v d p far e near =
      let link = near.edge in
      let stands : elem v (edges g p) ≡ true = place_elem v (edges g p) link.place link.there link.leads in
      rw e (
      none_or (not_before d (distance_of x p)) (not (elem v (edges g p)))
      (before_is d near.depth near.here (mem_unique near.there far)) (ap not stands)
      )

  -- What passes is certified.
  module _ (e : result_wrong g source x ≡ false) where
    -- no label is wrong
    label_passes : (v : ℕ) {o : Option ℕ} → v < length g → distance_of x v ≡ o → label_wrong g source x v o (parent_of x v) ≡ false
    unfolding result_wrong vertex_wrong
    label_passes v h is = ap (λ (l : Option ℕ). label_wrong g source x v l (parent_of x v)) (sym is) ∙ any_below (vertex_wrong g source x) (length g) e v h

    -- a vertex that is unset isn't the source and has no parent
    unset_passes : (v : ℕ) → v < length g → distance_of x v ≡ none → (eqb v source ≡ false) × (parent_of x v ≡ none)
    unfolding label_wrong
    unset_passes v h is =
        let both = or_none (eqb v source) (is_set (parent_of x v)) (label_passes v h is) in
        (both.0, is_unset (parent_of x v) both.1)

    -- the tests of a vertex that is set: of its targets, and of its parent
    set_passes : (v d : ℕ) → v < length g → distance_of x v ≡ some d
        → (any_beyond x.distances (suc d) (edges g v) ≡ false)
        × (cond (eqb v source) (not (eqb d 0) || is_not source (parent_of x v)) (parent_wrong g x.distances v d (parent_of x v)) ≡ false)
    unfolding label_wrong
    set_passes v d h is = or_none (any_beyond x.distances (suc d) (edges g v)) _ (label_passes v h is)

    -- the source has distance 0 and is its own parent
    source_passes : source < length g → (distance_of x source ≡ some 0) × (parent_of x source ≡ some source)
    source_passes h = go (distance_of x source) refl
      where
        go : (o : Option ℕ) → distance_of x source ≡ o → (o ≡ some 0) × (parent_of x source ≡ some source)
        go none is = absurd (eqb-false source source (unset_passes source h is).0 refl)
        go (some d) is =
            let test = rw (eq-eqb source source refl) at (set_passes source d h is).1 in
            let both = or_none (not (eqb d 0)) (is_not source (parent_of x source)) test in
            (ap {B = Option ℕ} some (eqb-true d 0 (not-false (eqb d 0) both.0)), is_that source (parent_of x source) both.1)

    -- a vertex that is set and isn't the source has a parent that is nearer by one link
    parent_passes : (v : ℕ) → v < length g → (v ≡ source → ⊥) → is_set (distance_of x v) ≡ true → (p : ℕ) × (parent_of x v ≡ some p) × Nearer g x p v
    parent_passes v h other set = go (distance_of x v) refl set
      where
        go : (o : Option ℕ) → distance_of x v ≡ o → is_set o ≡ true → (p : ℕ) × (parent_of x v ≡ some p) × Nearer g x p v
        go none is q = absurd (true≢false (sym q))
        go (some d) is q = parent_near v d (parent_of x v) is (rw (ne_eqb v source other) at (set_passes v d h is).1)

    -- a result that passes is certified
    pub passes_certified : length x.distances ≡ length g → length x.parents ≡ length g → source < length g → Certified g source x
    unfolding any_beyond
    passes_certified far near starts = record {
      distances_all = far;
      parents_all = near;
      source = (source_passes starts).0;
      own_parent = (source_passes starts).1;
      onward = λ u d i h is there.
          within (suc d) (distance_of x (edge_target g u i))
          (any_at_lem (λ (t : ℕ). beyond (suc d) (distance_of x t)) (edges g u) i 0 (set_passes u d h is).0 there);
      no_parent_lem = λ v h is. (unset_passes v h is).1;
      parent = parent_passes;
    }

  -- a certified result passes
  pub certified_passes : Certified g source x → result_wrong g source x ≡ false
  unfolding result_wrong vertex_wrong label_wrong any_beyond
  certified_passes c = below_any (vertex_wrong g source x) (length g) (λ v h. go v h (distance_of x v) refl)
    where
      go : (v : ℕ) → v < length g → (o : Option ℕ) → distance_of x v ≡ o → label_wrong g source x v o (parent_of x v) ≡ false
      go v h none is = none_or (eqb v source) (is_set (parent_of x v))
          (ne_eqb v source (λ q. none-ne-some 0 (sym is ∙ ap (distance_of x) q ∙ c.source)))
          (ap is_set (c.no_parent_lem v h is))
      go v h (some d) is = none_or (any_beyond x.distances (suc d) (edges g v)) _
          (at_any (λ (t : ℕ). beyond (suc d) (distance_of x t)) (edges g v) 0
          (λ i there. let far = c.onward v d i h is there in not_beyond (suc d) far.0 far.1 far.2))
          (own (eqb v source) refl)
        where
          own : (b : Bool) → eqb v source ≡ b
              → cond b (not (eqb d 0) || is_not source (parent_of x v)) (parent_wrong g x.distances v d (parent_of x v)) ≡ false
          own true q =
              let same = eqb-true v source q in
              let zeroth : d ≡ 0 = mem_unique is (ap (distance_of x) same ∙ c.source) in
              none_or (not (eqb d 0)) (is_not source (parent_of x v)) (ap not (eq-eqb d 0 zeroth)) (that_is source (ap (parent_of x) same ∙ c.own_parent))
          own false q = let p = c.parent v h (eqb-false v source q) (ap is_set is) in near_parent v d p.0 is p.1 p.2

-- In terms of paths.
module _ {g : Graph} {source : ℕ} (ground : Ground g source) (x : Labels) where
  -- a result of the graph's lengths that passes is right
  pub passes_right : length x.distances ≡ length g → length x.parents ≡ length g → result_wrong g source x ≡ false → RightResult g source x
  passes_right far near e = certified_right ground (passes_certified g source x e far near ground.starts)

  -- a right result passes
  pub right_passes : RightResult g source x → result_wrong g source x ≡ false
  right_passes r = certified_passes g source x (right_certified ground r)

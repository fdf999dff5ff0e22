-- The labels of a right result are small: a distance is less than the number of vertices, for there are vertices at each smaller distance too, and
-- a parent is a vertex.
use mathlib.Core.Path.{◌≡◌, refl, sym, ap, ◌∙◌}
use mathlib.Core.Bool.{true}
use mathlib.Core.List.{List, map}
use mathlib.Core.Option.{Option, none, some, none-ne-some, mem_unique}
use Prim.Native.Nat.{ℕ, zero, suc, ◌≤◌, ◌<◌}
use native.Mathlib.Decide.{ℕ_discrete}
use native.Mathlib.Omega.{arith}
use lib.ListN.{length, length-map}
use Rattle.lists.specs.Lists.{numbers_from, elem}
use Rattle.lists.proofs.Any.{place_elem}
use Rattle.lists.proofs.Parts.{place_below}
use Rattle.lists.proofs.Replaced.{map_at}
use Rattle.lists.proofs.Tests.{distinct_within, repeats_range, length_range, elem_range}
use Rattle.graph.specs.Graph.{Graph}
use Rattle.model.specs.Paths.{stay, Labels, distance_of, parent_of, RightResult}
use Rattle.model.specs.Words.{word_of}
use Rattle.model.proofs.LabelFacts.{label_below}

module _ {g : Graph} {source : ℕ} {x : Labels} (r : RightResult g source x) where
  -- some vertex has this distance
  record HasVertex (d : ℕ) : Type 0 where
    vertex : ℕ
    is : distance_of x vertex ≡ some d

  -- the source has no distance but 0
  not_source : (v d : ℕ) → distance_of x v ≡ some (suc d) → v ≡ source → ⊥
  not_source v d e same =
      let far = r.shortest source (suc d) (label_below x source r.distances_all (rw same at e)) (rw same at e) in
      omega (arith, far.least 0 stay)

  -- where some vertex has distance d + 1, another has d
  one_less : {d : ℕ} → HasVertex (suc d) → HasVertex d
  one_less {d} a =
      let v = a.vertex in
      let near = r.parent v (label_below x v r.distances_all a.is) (not_source v d a.is) (rw a.is) in
      let depth : near.2.depth ≡ d = omega (arith, mem_unique near.2.there a.is) in
      record { vertex = near.0; is = rw depth at near.2.here }

  -- so every smaller distance is some vertex's
  each_less : (d : ℕ) → HasVertex d → (k : ℕ) → k ≤ d → HasVertex k
  each_less zero a k h = let same : 0 ≡ k = omega arith in rw same at a
  each_less (suc d) a k h = elim (ℕ_discrete k (suc d)) [ yes same ↦ rw same a | no apart ↦ each_less d (one_less a) k (omega arith) ]

  -- and the distances 0 to d take as many places
  pub right_below : (v d : ℕ) → distance_of x v ≡ some d → d < length g
  unfolding word_of
  right_below v d e =
      let words : List ℕ = map word_of x.distances in
      let there : (k : ℕ) → elem k (numbers_from 0 (suc d)) ≡ true → elem k words ≡ true = λ k f.
      let a = each_less d (record { vertex = v; is = e }) k (omega (arith, elem_range k 0 (suc d) f)) in
      let u = a.vertex in
      let inside = place_below x.distances u a.is in
      place_elem k words u (omega (arith, length-map x.distances word_of)) (map_at word_of x.distances u none 0 inside ∙ ap word_of a.is) in
      omega (
        arith,
        distinct_within (numbers_from 0 (suc d)) words (repeats_range 0 (suc d)) there,
        length_range 0 (suc d),
        length-map x.distances word_of,
        r.distances_all,
      )

  -- a parent is a vertex
  pub parent_vertex : (v p : ℕ) → parent_of x v ≡ some p → p < length g
  parent_vertex v p e = elim (ℕ_discrete v source) [ yes same ↦ own same | no apart ↦ go (distance_of x v) refl apart ]
    where
      own : v ≡ source → p < length g
      own same =
          let is = mem_unique (rw same at e) r.own_parent in
          omega (arith, is, place_below x.parents source r.own_parent, r.parents_all)

      inside : v < length g
      inside = omega (arith, place_below x.parents v e, r.parents_all)

      go : (l : Option ℕ) → distance_of x v ≡ l → (v ≡ source → ⊥) → p < length g
      go none q apart = absurd (none-ne-some p (sym (r.no_parent_lem v inside q) ∙ e))
      go (some d) q apart =
          let near = r.parent v inside apart (rw q) in
          let is = mem_unique e near.1 in
          omega (arith, is, label_below x near.0 r.distances_all near.2.here)

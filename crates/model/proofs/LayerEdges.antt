-- Which vertices have distance d, and which links belong to a layer: those that start at such a vertex.
use mathlib.Core.Path.{◌≡◌, refl, sym, ap, ◌∙◌, subst}
use mathlib.Core.Bool.{Bool, true, false, cond, ◌||◌, true≢false}
use mathlib.Core.List.{List, [], ◌∷◌, Memᴰ}
use mathlib.Core.Option.{Option, none, some, none-ne-some}
use Prim.Native.Nat.{ℕ, zero, suc, ◌<◌}
use lib.ListN.{length, get_or}
use borrow.Author.Tests.{eqb-true, eq-eqb}
use Rattle.lists.specs.Lists.{numbers_from}
use Rattle.lists.proofs.Or.{or_none}
use Rattle.lists.proofs.Members.{in_rows, row_of, range_in, range_below}
use Rattle.graph.specs.Graph.{Graph, edges}
use Rattle.model.specs.Paths.{Labels, distance_of}
use Rattle.model.specs.Serial.{EdgeAt, edges_from, is_at, layer_edges, any_at}

-- a label that passes the test for d is set to d
pub at_is : (d : ℕ) (o : Option ℕ) → is_at d o ≡ true → o ≡ some d
unfolding is_at
at_is d none e = absurd (true≢false (sym e))
at_is d (some k) e = ap {B = Option ℕ} some (eqb-true k d e)

-- and the other way
pub is-at : (d : ℕ) {o : Option ℕ} → o ≡ some d → is_at d o ≡ true
unfolding is_at
is-at d e = rw e (eq-eqb d d refl)

-- if some label is d, it is the label of a vertex
pub at_some : (d : ℕ) (l : List (Option ℕ)) → any_at d l ≡ true → (v : ℕ) × (get_or l v none ≡ some d)
unfolding any_at
at_some d [] e = absurd (true≢false (sym e))
at_some d (o ∷ l) e = go (is_at d o) refl e (at_some d l)
  where
    go : (b : Bool) → is_at d o ≡ b → (b || any_at d l) ≡ true → (any_at d l ≡ true → (v : ℕ) × (get_or l v none ≡ some d))
        → (v : ℕ) × (get_or (o ∷ l) v none ≡ some d)
    go true q f rest = (0, at_is d o q)
    go false q f rest = let r = rest f in (suc r.0, r.1)

-- if none is, it is the label of no vertex
pub at_none : (d : ℕ) (l : List (Option ℕ)) → any_at d l ≡ false → (v : ℕ) → get_or l v none ≡ some d → ⊥
unfolding any_at
at_none d [] e v h = none-ne-some d h
at_none d (o ∷ l) e zero h = true≢false (sym (is-at d h) ∙ (or_none (is_at d o) (any_at d l) e).0)
at_none d (o ∷ l) e (suc v) h = at_none d l (or_none (is_at d o) (any_at d l) e).1 v h

-- a link of a layer starts at a vertex of distance d, at a place of its row
pub record InLayer (g : Graph) (d : ℕ) (y : Labels) (e : EdgeAt) : Type 0 where
  pub from : distance_of y e.start ≡ some d
  pub there : e.place < length (edges g e.start)

module _ (g : Graph) (d : ℕ) (y : Labels) where
  -- the links of the layer that start at u, if any
  edges_at : ℕ → List EdgeAt
  edges_at u = cond (is_at d (distance_of y u)) (edges_from g u) []

  -- a link that starts so is among the layer's links
  pub layer_has : (e : EdgeAt) → e.start < length g → InLayer g d y e → Memᴰ e (layer_edges g d y)
  unfolding layer_edges edges_from edges_at
  layer_has e below h =
      let inside : Memᴰ e (edges_from g e.start) = mathlib.Core.List.Memᴰ.map (λ (i : ℕ). record { start = e.start; place = i }) (range_in h.there) in
      in_rows edges_at (range_in below) (rw (edges_at, is-at d h.from) inside)

  -- and every one of them starts so
  pub layer_only : (e : EdgeAt) → Memᴰ e (layer_edges g d y) → InLayer g d y e
  unfolding layer_edges edges_from edges_at
  layer_only e m = let r = row_of edges_at (numbers_from 0 (length g)) m in go r.row (is_at d (distance_of y r.row)) refl r.inside
    where
      go : (u : ℕ) (b : Bool) → is_at d (distance_of y u) ≡ b → Memᴰ e (cond b (edges_from g u) []) → InLayer g d y e
      go u true q n =
          let r = mathlib.Core.List.Memᴰ.of_map (λ (i : ℕ). record { start = u; place = i }) (numbers_from 0 (length (edges g u))) n in
          subst (InLayer g d y) r.2 (record { from = at_is d (distance_of y u) q; there = range_below (length (edges g u)) r.1 })
      go u false q n = absurd (mathlib.Core.List.Memᴰ.not-nil n)

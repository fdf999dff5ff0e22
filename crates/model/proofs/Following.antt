-- Links followed one after another on the way to a given result: a link by which the result's parent was named sets that vertex, one that finds
-- its target set changes nothing.
use mathlib.Core.Path.{◌≡◌, refl, sym, ◌∙◌}
use mathlib.Core.Bool.{Bool, true, cond, ◌&&◌, and-eq-true_iff}
use mathlib.Core.List.{List, [], ◌∷◌, foldl}
use mathlib.Core.List.Memᴰ
use mathlib.Core.List.{Memᴰ}
use mathlib.Core.Logic.{◌⊎◌, inl, inr}
use mathlib.Core.Option.{Option, none, some, none-ne-some}
use Prim.Native.Nat.{ℕ, suc, ◌≤◌, ◌<◌}
use native.Mathlib.Decide.{ℕ_discrete}
use native.Mathlib.Omega.{arith}
use lib.ListN.{length, length-set}
use lib.Seq.{get_or-set_same, get_or-set_other}
use Rattle.lists.proofs.Parts.{place_below}
use Rattle.graph.specs.Graph.{Graph}
use Rattle.model.specs.Paths.{edge_target, Labels, distance_of, parent_of, is_set}
use Rattle.model.specs.Table.{mark, name}
use Rattle.model.specs.Serial.{EdgeAt, is_at, follow}
use Rattle.model.proofs.LayerEdges.{at_is, is-at}

-- the labels of a vertex on the way to x: as in x; or blank, and then its distance in x is above d, if it has one
pub data Stands (x : Labels) (d v : ℕ) (distance parent : Option ℕ) : Type 0 where
  final : (k : ℕ) → distance_of x v ≡ some k → distance ≡ some k → parent ≡ parent_of x v → Stands x d v distance parent
  blank : ((k : ℕ) → distance_of x v ≡ some k → d < k) → distance ≡ none → parent ≡ none → Stands x d v distance parent

-- labels y on the way to x, from distance d on: every vertex stands so
pub record Partly (x : Labels) (d : ℕ) (y : Labels) : Type 0 where
  pub distances_all : length y.distances ≡ length x.distances
  pub parents_all : length y.parents ≡ length x.parents
  pub each : (v : ℕ) → Stands x d v (distance_of y v) (parent_of y v)

module _ {x : Labels} {d : ℕ} {y : Labels} (p : Partly x d y) where
  -- what is set is as in x
  pub set_final : (v k : ℕ) → distance_of y v ≡ some k → distance_of x v ≡ some k
  set_final v k e = go (p.each v)
    where
      go : Stands x d v (distance_of y v) (parent_of y v) → distance_of x v ≡ some k
      go (final j far here named) = cc
      go (blank away unset no_parent_lem) = absurd (none-ne-some k (sym unset ∙ e))

  -- distances up to d are set
  pub near_set : (v k : ℕ) → distance_of x v ≡ some k → k ≤ d → distance_of y v ≡ some k
  near_set v k e h = go (p.each v)
    where
      go : Stands x d v (distance_of y v) (parent_of y v) → distance_of y v ≡ some k
      go (final j far here named) = cc
      go (blank away unset no_parent_lem) = let above = away k e in absurd (omega arith)

  -- the same labels are on the way from another distance on, if distances up to that are set
  pub raise : (k : ℕ) → ((v j : ℕ) → distance_of x v ≡ some j → j ≤ k → distance_of y v ≡ some j) → Partly x k y
  raise k h = record { distances_all = p.distances_all; parents_all = p.parents_all; each = λ v. go v (p.each v) }
    where
      go : (v : ℕ) → Stands x d v (distance_of y v) (parent_of y v) → Stands x k v (distance_of y v) (parent_of y v)
      go v (final j far here named) = final j far here named
      go v (blank away unset no_parent_lem) =
          blank (λ j e. let over : j ≤ k → ⊥ = λ l. none-ne-some j (sym unset ∙ h v j e l) in omega arith) unset no_parent_lem

module _ (g : Graph) (x : Labels) (d : ℕ) where
  -- where a link leads
  abbrev end : EdgeAt → ℕ
  end e = edge_target g e.start e.place

  -- a link of the tree: by it x has its end's parent, and that end is at distance d + 1
  pub is_tree : EdgeAt → Bool
  is_tree e = is_at (suc d) (distance_of x (end e)) && is_at e.start (parent_of x (end e))

  -- a link of the tree, as equations
  pub record TreeEdge (e : EdgeAt) : Type 0 where
    pub far : distance_of x (end e) ≡ some (suc d)
    pub named : parent_of x (end e) ≡ some e.start

  -- what the test tells
  pub tree_is : (e : EdgeAt) → is_tree e ≡ true → TreeEdge e
  unfolding is_tree
  tree_is e h =
      let both = (and-eq-true_iff (is_at (suc d) (distance_of x (end e))) (is_at e.start (parent_of x (end e)))).0 h in
      record { far = at_is (suc d) (distance_of x (end e)) both.0; named = at_is e.start (parent_of x (end e)) both.1 }

  -- and the other way
  pub is-tree : {e : EdgeAt} → TreeEdge e → is_tree e ≡ true
  unfolding is_tree
  is-tree {e} h = rw (is-at (suc d) h.far) (is-at e.start h.named)

  -- the labels z after links of the tree from the labels y: still on the way, nothing unset again, and the links' ends set
  pub record Followed (y : Labels) (list : List EdgeAt) (z : Labels) : Type 0 where
    pub partly : Partly x d z
    pub stays : (v k : ℕ) → distance_of y v ≡ some k → distance_of z v ≡ some k
    pub reached : (e : EdgeAt) → Memᴰ e list → distance_of z (end e) ≡ some (suc d)

  -- one link of the tree
  follow_one : (y : Labels) (e : EdgeAt) → Partly x d y → TreeEdge e → Followed y (e ∷ []) (follow g d y e)
  unfolding follow mark name
  follow_one y e p h = go (distance_of y (end e)) refl
    where
      t : ℕ
      t = end e

      z : Labels
      z = name e.start t (mark d t y)

      now : distance_of z t ≡ some (suc d)
      now = get_or-set_same y.distances t (some (suc d)) none (rw p.distances_all (place_below x.distances t h.far))

      by : parent_of z t ≡ some e.start
      by = get_or-set_same y.parents t (some e.start) none (rw p.parents_all (place_below x.parents t h.named))

      stand : (v : ℕ) → Dec (v ≡ t) → Stands x d v (distance_of z v) (parent_of z v)
      stand v (yes q) = rw q (final (suc d) h.far now (by ∙ sym h.named))
      stand v (no q) = rw (get_or-set_other y.distances t v (some (suc d)) none q, get_or-set_other y.parents t v (some e.start) none q) (p.each v)

      stay : (v k : ℕ) → distance_of y t ≡ none → distance_of y v ≡ some k → Dec (v ≡ t) → distance_of z v ≡ some k
      stay v k f r (yes q) = absurd (none-ne-some k (sym f ∙ rw q at r))
      stay v k f r (no q) = get_or-set_other y.distances t v (some (suc d)) none q ∙ r

      go : (o : Option ℕ) → distance_of y t ≡ o → Followed y (e ∷ []) (cond (is_set o) y z)
      go (some k) q = record {
        partly = p;
        stays = λ v j r. r;
        reached = λ f m. rw (Memᴰ.eq_of_singleton m) (q ∙ sym (set_final p t k q) ∙ h.far);
      }
      go none q = record {
        partly = record {
          distances_all = length-set y.distances t (some (suc d)) ∙ p.distances_all;
          parents_all = length-set y.parents t (some e.start) ∙ p.parents_all;
          each = λ v. stand v (ℕ_discrete v t);
        };
        stays = λ v k r. stay v k q r (ℕ_discrete v t);
        reached = λ f m. rw (Memᴰ.eq_of_singleton m) now;
      }

  -- many of them
  pub follow_tree : (y : Labels) (list : List EdgeAt) → Partly x d y → ((e : EdgeAt) → Memᴰ e list → TreeEdge e)
      → Followed y list (foldl (follow g d) y list)
  follow_tree y [] p h = record { partly = p; stays = λ v k r. r; reached = λ e m. absurd (Memᴰ.not-nil m) }
  follow_tree y (e ∷ list) p h =
      let one = follow_one y e p (h e (Memᴰ.head refl)) in
      let rest = follow_tree (follow g d y e) list one.partly (λ f m. h f (Memᴰ.tail m)) in
      record {
        partly = rest.partly;
        stays = λ v k r. rest.stays v k (one.stays v k r);
        reached = λ f m. go f (one.reached e (Memᴰ.head refl)) rest (Memᴰ.cases_cons m);
      }
    where
      after : Labels
      after = foldl (follow g d) (follow g d y e) list

      go : (f : EdgeAt) → distance_of (follow g d y e) (end e) ≡ some (suc d) → Followed (follow g d y e) list after
          → (f ≡ e) ⊎ Memᴰ f list → distance_of after (end f) ≡ some (suc d)
      go f now rest (inl q) = rw q (rest.stays (end e) (suc d) now)
      go f now rest (inr m) = rest.reached f m

  -- links whose ends are set change nothing
  pub follow_rest : (y : Labels) (list : List EdgeAt) → ((e : EdgeAt) → Memᴰ e list → is_set (distance_of y (end e)) ≡ true)
      → foldl (follow g d) y list ≡ y
  unfolding follow
  follow_rest y [] h = refl
  follow_rest y (e ∷ list) h = rw (h e (Memᴰ.head refl)) (follow_rest y list (λ f m. h f (Memᴰ.tail m)))

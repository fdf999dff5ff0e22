-- The link-by-link run that ends with a given certified result: each layer takes first the links by which the result's parents were named,
-- and then the others, which find their targets set.
use mathlib.Core.Path.{◌≡◌, refl, sym, ap, ◌∙◌, subst}
use mathlib.Core.Bool.{Bool, true, false, not}
use mathlib.Core.List.{List, ◌++◌, foldl, foldl-append, Memᴰ}
use mathlib.Core.Option.{Option, none, some}
use Prim.Native.Nat.{ℕ, zero, suc, ◌+◌, ◌-◌, ◌≤◌, ◌<◌}
use native.Mathlib.Nat.{zero-add, suc-add}
use native.Mathlib.Decide.{ℕ_discrete}
use native.Mathlib.Omega.{arith}
use lib.ListN.{length}
use lib.Seq.{ext_get_or}
use Rattle.lists.proofs.Members.{keep, keep_order, kept, keeps}
use Rattle.graph.specs.Graph.{Graph}
use Rattle.model.specs.Paths.{edge_target, Labels, distance_of, parent_of, is_set}
use Rattle.model.proofs.Certified.{Certified}
use Rattle.model.specs.State.{opening_labels}
use Rattle.model.specs.Serial.{EdgeAt, layer_edges, follow, any_at, Serial, ended, layer}
use Rattle.model.proofs.Alone.{alone_all, alone_own, alone_other}
use Rattle.model.proofs.LabelFacts.{label_below}
use Rattle.model.proofs.Certificate.{parent_before, not_zero}
use Rattle.model.proofs.LayerEdges.{at_some, at_none, InLayer, layer_has, layer_only}
use Rattle.model.proofs.Following.{Stands, final, blank, Partly, set_final, near_set, raise, is_tree, TreeEdge, tree_is, is-tree}
use Rattle.model.proofs.Following.{Followed, follow_tree, follow_rest}

module _ {g : Graph} {source : ℕ} {x : Labels} (c : Certified g source x) where
  -- beyond a distance that no vertex has there is none
  none_beyond : (d : ℕ) → ((v : ℕ) → distance_of x v ≡ some d → ⊥) → (j v : ℕ) → distance_of x v ≡ some (j + d) → ⊥
  none_beyond d h zero v e = h v (rw (zero-add d) at e)
  none_beyond d h (suc j) v e = let a = parent_before c v (j + d) (rw (suc-add j d) at e) in none_beyond d h j a.parent a.near

  -- the opening labels are on the way
  opening_partly : Partly x 0 (opening_labels (length g) source)
  unfolding opening_labels
  opening_partly = record {
    distances_all = alone_all n source 0 ∙ sym c.distances_all;
    parents_all = alone_all n source source ∙ sym c.parents_all;
    each = λ v. go v (ℕ_discrete v source);
  }
    where
      n : ℕ
      n = length g

      y : Labels
      y = opening_labels n source

      inside : source < n
      inside = label_below x source c.distances_all c.source

      go : (v : ℕ) → Dec (v ≡ source) → Stands x 0 v (distance_of y v) (parent_of y v)
      go v (yes q) = rw q (final 0 c.source (alone_own n source 0 inside) (alone_own n source source inside ∙ sym c.own_parent))
      go v (no q) = blank (not_zero c v q) (alone_other n source 0 v q) (alone_other n source source v q)

  -- labels on the way from distance d on, in which no vertex has distance d, are x
  whole : (d : ℕ) (y : Labels) → Partly x d y → any_at d y.distances ≡ false → y ≡ x
  whole d y p h = λ i. record {
    distances = ext_get_or none y.distances x.distances p.distances_all (λ v l. (agree v (rw (p.distances_all ∙ c.distances_all) at l)).0) i;
    parents = ext_get_or none y.parents x.parents p.parents_all (λ v l. (agree v (rw (p.parents_all ∙ c.parents_all) at l)).1) i;
  }
    where
      none_here : (v : ℕ) → distance_of x v ≡ some d → ⊥
      none_here v e = at_none d y.distances h v (near_set p v d e (omega arith))

      none_above : (v : ℕ) → ((k : ℕ) → distance_of x v ≡ some k → d < k) → (o : Option ℕ) → distance_of x v ≡ o → o ≡ none
      none_above v away none e = refl
      none_above v away (some k) e =
          let far = away k e in
          absurd (none_beyond d none_here (k - d) v (e ∙ ap {B = Option ℕ} some (omega arith)))

      agree : (v : ℕ) → v < length g → (distance_of y v ≡ distance_of x v) × (parent_of y v ≡ parent_of x v)
      agree v l = go (p.each v)
        where
          go : Stands x d v (distance_of y v) (parent_of y v) → (distance_of y v ≡ distance_of x v) × (parent_of y v ≡ parent_of x v)
          go (final k far here named) = (here ∙ sym far, named)
          go (blank away unset no_parent_lem) =
              let nowhere : distance_of x v ≡ none = none_above v away (distance_of x v) refl in
              (unset ∙ sym nowhere, no_parent_lem ∙ sym (c.no_parent_lem v l nowhere))

  -- there the run ends
  stop : (d : ℕ) (y : Labels) → Partly x d y → any_at d y.distances ≡ false → Serial g d y x
  stop d y p e = subst (Serial g d y) (whole d y p e) (ended e)

  -- the order in which a layer's links are taken: first those of the tree
  order_of : ℕ → Labels → List EdgeAt
  order_of d y = let list = layer_edges g d y in keep (is_tree g x d) list ++ keep (λ (e : EdgeAt). not (is_tree g x d e)) list

  -- it leads from distance d to d + 1
  layer_partly : (d : ℕ) (y : Labels) → Partly x d y → Partly x (suc d) (foldl (follow g d) y (order_of d y))
  unfolding order_of
  layer_partly d y p = rw (foldl-append (follow g d) y first rest, follow_rest g x d z rest rest_set) (raise done.partly (suc d) next_set)
    where
      list : List EdgeAt
      list = layer_edges g d y

      first : List EdgeAt
      first = keep (is_tree g x d) list

      rest : List EdgeAt
      rest = keep (λ (e : EdgeAt). not (is_tree g x d e)) list

      z : Labels
      z = foldl (follow g d) y first

      done : Followed g x d y first z
      done = follow_tree g x d y first p (λ e m. tree_is g x d e (kept (is_tree g x d) list m).1)

      next_set : (v k : ℕ) → distance_of x v ≡ some k → k ≤ suc d → distance_of z v ≡ some k
      next_set v k e l = go (ℕ_discrete k (suc d))
        where
          go : Dec (k ≡ suc d) → distance_of z v ≡ some k
          go (yes q) =
              let a = parent_before c v d (rw q at e) in
              let f : EdgeAt = record { start = a.parent; place = a.edge.place } in
              let by_it : TreeEdge g x d f = record { far = rw (a.edge.leads, ← q) e; named = rw a.edge.leads a.named } in
              let starts : InLayer g d y f = record { from = near_set p a.parent d a.near (omega arith); there = a.edge.there } in
              let among : Memᴰ f list = layer_has g d y f (label_below x a.parent c.distances_all a.near) starts in
              rw (a.edge.leads, ← q) at (done.reached f (keeps (is_tree g x d) among (is-tree g x d by_it)))
          go (no q) = near_set done.partly v k e (omega arith)

      rest_set : (e : EdgeAt) → Memᴰ e rest → is_set (distance_of z (edge_target g e.start e.place)) ≡ true
      rest_set e m =
          let l = layer_only g d y e (kept (λ (f : EdgeAt). not (is_tree g x d f)) list m).0 in
          let here : distance_of x e.start ≡ some d = set_final p e.start d l.from in
          let r = c.onward e.start d e.place (label_below x e.start c.distances_all here) here l.there in
          rw (next_set (edge_target g e.start e.place) r.0 r.1 r.2) refl

  -- the run from distance d on
  run_from : ((v d : ℕ) → distance_of x v ≡ some d → d < length g) → (fuel d : ℕ) (y : Labels) → d + fuel ≡ length g → Partly x d y
      → Serial g d y x
  unfolding order_of
  run_from below zero d y e p = go (any_at d y.distances) refl
    where
      go : (b : Bool) → any_at d y.distances ≡ b → Serial g d y x
      go true q =
          let r = at_some d y.distances q in
          let far = below r.0 d (set_final p r.0 d r.1) in
          absurd (omega arith)
      go false q = stop d y p q
  run_from below (suc fuel) d y e p =
      go (any_at d y.distances) refl (run_from below fuel (suc d) (foldl (follow g d) y (order_of d y)) (omega arith) (layer_partly d y p))
    where
      go : (b : Bool) → any_at d y.distances ≡ b → Serial g (suc d) (foldl (follow g d) y (order_of d y)) x → Serial g d y x
      go true q rest = layer q (order_of d y) (keep_order (is_tree g x d) (layer_edges g d y)) rest
      go false q rest = stop d y p q

module _ {g : Graph} {source : ℕ} where
  -- a certified result is the end of some link-by-link run
  pub serial_run : {x : Labels} → Certified g source x → ((v d : ℕ) → distance_of x v ≡ some d → d < length g)
      → Serial g 0 (opening_labels (length g) source) x
  serial_run {x} c below = run_from c below (length g) 0 (opening_labels (length g) source) (omega arith) (opening_partly c)

-- The labels before and after the moves that write: where the target in hand belongs, and that a mark and a name keep the labels sound.
use mathlib.Core.Path.{◌≡◌, refl, sym, ◌∙◌}
use mathlib.Core.Bool.{Bool, true, false, true≢false}
use mathlib.Core.Option.{Option, none, some, some-injective}
use Prim.Native.Nat.{ℕ, suc, ◌+◌, ◌≤◌, ◌<◌}
use native.Mathlib.Omega.{arith}
use lib.Dec.{leb}
use lib.ListN.{length, set, length-set}
use lib.Seq.{get_or-set_same, get_or-set_other}
use borrow.Author.Tests.{leb-true, leb-false}
use Rattle.lists.proofs.Sums.{sum_set}
use Rattle.lists.proofs.Replaced.{set_cases}
use Rattle.graph.specs.Graph.{Graph}
use Rattle.model.specs.Paths.{edge_target, Walk, Distance, Labels, distance_of, parent_of, is_set, Nearer}
use Rattle.model.specs.Table.{mark, name}
use Rattle.model.proofs.Counts.{unset_one, unsets}
use Rattle.model.proofs.Sound.{Ground, LabelsSound, AtEdge, WithMark}
use Rattle.model.proofs.Walks.{walk_below, walk_more, distance_unique, distance_source}
use Rattle.model.proofs.LabelFacts.{set_value, layer_is}

-- a parent that is nearer stays so while the distances that are set stay
nearer_kept : {g : Graph} {a b : Labels} {p v : ℕ} → ((u k : ℕ) → distance_of a u ≡ some k → distance_of b u ≡ some k) → Nearer g a p v → Nearer g b p v
nearer_kept {p = p} {v = v} keeps n =
    record { edge = n.edge; depth = n.depth; here = keeps p n.depth n.here; there = keeps v (suc n.depth) n.there }

module _ {g : Graph} {source d : ℕ} {a : Labels} (l : LabelsSound g source d a) where
  -- a label that is set is the distance
  pub written_is : {v k j : ℕ} → distance_of a v ≡ some k → Distance g source v j → k ≡ j
  written_is {v = v} {k = k} e far = distance_unique (l.written v k e) far

  -- the unset target of an edge of this layer is in the next one
  pub unset_next : {u i : ℕ} → AtEdge g source d u i → is_set (distance_of a (edge_target g u i)) ≡ false → Distance g source (edge_target g u i) (suc d)
  unset_next {u = u} {i = i} at unset = record {
    walk = walk_more at.far.walk i at.there;
    least = λ k w. go k w (leb k d) refl;
  }
    where
      go : (k : ℕ) → Walk g source (edge_target g u i) k → (b : Bool) → leb k d ≡ b → suc d ≤ k
      go k w true q = absurd (true≢false (sym (l.near (edge_target g u i) k w (leb-true k d q)) ∙ unset))
      go k w false q = leb-false k d q

module _ {g : Graph} {source : ℕ} (ground : Ground g source) {d : ℕ} {a : Labels} (l : LabelsSound g source d a) where
  module _ {t : ℕ} (next : Distance g source t (suc d)) where
    -- a vertex of the next layer has a place for its distance
    pub has_distance : t < length a.distances
    has_distance = rw l.distances_all (walk_below ground next.walk)

    -- and one for its parent
    has_parent : t < length a.parents
    has_parent = rw l.parents_all (walk_below ground next.walk)

    -- a mark writes the distance
    pub mark_writes : distance_of (mark d t a) t ≡ some (suc d)
    unfolding mark
    mark_writes = get_or-set_same a.distances t (some (suc d)) none has_distance

    -- a distance after a mark is that of the vertex marked, or is as it was
    pub mark_cases : {R : Type 0} (v : ℕ) (x : Option ℕ) → distance_of (mark d t a) v ≡ x
        → (v ≡ t → some (suc d) ≡ x → R) → ((v ≡ t → ⊥) → distance_of a v ≡ x → R) → R
    unfolding mark
    mark_cases v x e here there = set_cases a.distances t v (some (suc d)) none x has_distance e here there

    -- what is set stays as it is set
    pub mark_keeps : (v k : ℕ) → distance_of a v ≡ some k → distance_of (mark d t a) v ≡ some k
    mark_keeps v k e = mark_cases v (distance_of (mark d t a) v) refl
        (λ q r. let same = written_is l (rw q at e) next in sym r ∙ rw same)
        (λ apart r. sym r ∙ e)

    -- each layer up to that of the vertex marked has a vertex that is set
    mark_room : d + 2 + unsets (mark d t a).distances ≤ length g
    unfolding mark
    mark_room = go (distance_of a t) refl (sum_set unset_one a.distances t (some (suc d)) none has_distance)
      where
        after : ℕ
        after = unsets (set a.distances t (some (suc d)))

        go : (x : Option ℕ) → distance_of a t ≡ x → after + unset_one (distance_of a t) ≡ unsets a.distances + 0 → d + 2 + after ≤ length g
        go none e h = omega (arith, rw e at h, l.room)
        go (some k) e h = omega (arith, rw e at h, l.more_room t (rw (written_is l e next) at e))

    -- the labels stay sound
    pub mark_sound : LabelsSound g source d (mark d t a)
    unfolding mark
    mark_sound = record {
      distances_all = length-set a.distances t (some (suc d)) ∙ l.distances_all;
      parents_all = l.parents_all;
      written = λ v k e. mark_cases v (some k) e (λ q r. rw (q, ← some-injective (suc d) k r) next) (λ apart. l.written v k);
      not_far = λ v k e. mark_cases v (some k) e (λ q r. omega (arith, some-injective (suc d) k r)) (λ apart. l.not_far v k);
      near = λ v k w h. let x = set_value (distance_of a v) (l.near v k w h) in rw (mark_keeps v x.value x.is);
      some_vertex = l.some_vertex;
      room = omega (arith, mark_room);
      more_room = λ v e. mark_room;
      own_parent = l.own_parent;
      parent = λ v p apart e. nearer_kept mark_keeps (l.parent v p apart e);
    }

  module _ {u i t : ℕ} (w : WithMark g source d a u i t) where
    -- a marked vertex isn't the source
    name_apart : source ≡ t → ⊥
    name_apart q = omega (arith, distance_unique (rw (← q) at w.found.next) distance_source)

    -- a parent after a name is that of the vertex named, or is as it was
    pub name_cases : {R : Type 0} (v : ℕ) (x : Option ℕ) → parent_of (name u t a) v ≡ x
        → (v ≡ t → some u ≡ x → R) → ((v ≡ t → ⊥) → parent_of a v ≡ x → R) → R
    unfolding name
    name_cases v x e here there = set_cases a.parents t v (some u) none x (has_parent w.found.next) e here there

    -- the vertex whose edge led to it is nearer by one link
    name_nearer : Nearer g (name u t a) u t
    unfolding name
    name_nearer = record {
      edge = record { place = i; there = w.found.at.there; leads = w.found.leads };
      depth = d;
      here = layer_is l u w.found.at.far;
      there = w.marked;
    }

    -- the labels stay sound
    pub name_sound : LabelsSound g source d (name u t a)
    unfolding name
    name_sound = record {
      distances_all = l.distances_all;
      parents_all = length-set a.parents t (some u) ∙ l.parents_all;
      written = l.written;
      not_far = l.not_far;
      near = l.near;
      some_vertex = l.some_vertex;
      room = l.room;
      more_room = l.more_room;
      own_parent = get_or-set_other a.parents t source (some u) none name_apart ∙ l.own_parent;
      parent = λ v p apart e. name_cases v (some p) e
          (λ q r. rw (q, ← some-injective u p r) name_nearer)
          (λ other r. nearer_kept (λ z k s. s) (l.parent v p apart r));
    }

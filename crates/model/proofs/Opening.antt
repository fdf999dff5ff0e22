-- The opening state is sound and opens layer 0: the source alone is labelled, and it is alone in worker 0's input bag.
use mathlib.Core.Path.{◌≡◌, refl}
use mathlib.Core.Bool.{Bool, true, false}
use mathlib.Core.Option.{none, some}
use Prim.Native.Nat.{ℕ, ◌≤◌}
use native.Mathlib.Omega.{arith}
use lib.Dec.{eqb}
use lib.ListN.{length, get_or, replicate, length-replicate}
use borrow.Author.Tests.{eqb-true}
use Rattle.lists.proofs.Parts.{get_or_repeated}
use Rattle.graph.specs.Graph.{Graph}
use Rattle.pennant.specs.Bag.{empty_bag, bag_insert}
use Rattle.pennant.specs.Held.{only, copies}
use Rattle.pennant.proofs.Laws.{weigh_empty, weigh_insert, only_self, only_few, shaped_empty, shaped_insert}
use Rattle.model.specs.Paths.{Distance}
use Rattle.model.specs.State.{idle_worker, opening_labels, opening_state}
use Rattle.model.specs.Demand.{LayerOpen}
use Rattle.model.proofs.Alone.{alone, alone_all, alone_own, alone_only, alone_unsets}
use Rattle.model.proofs.Sound.{Ground, LabelsSound, Sound}
use Rattle.model.proofs.Walks.{walk_zero, distance_source}
use Rattle.model.proofs.LabelFacts.{set_value}
use Rattle.model.proofs.Fresh.{spare_idle, SpareCrew, LayerBag, fresh_sound, fresh_opens}

module _ {g : Graph} {source : ℕ} (ground : Ground g source) where
  -- Labels.

  -- what is set is the source's label
  only_source : {y v k : ℕ} → get_or (alone (length g) source y) v none ≡ some k → (v ≡ source) × (k ≡ y)
  only_source {y} {v} {k} e = alone_only (length g) source y v k ground.starts e

  -- the opening labels are sound
  opening_labels_lem : LabelsSound g source 0 (opening_labels (length g) source)
  unfolding opening_labels
  opening_labels_lem = record {
    distances_all = alone_all (length g) source 0;
    parents_all = alone_all (length g) source source;
    written = λ v k e. let q = only_source e in rw (q.0, q.1) distance_source;
    not_far = λ v k e. omega (arith, only_source e);
    near = λ v k w h. rw (walk_zero w (omega arith), alone_own (length g) source 0 ground.starts);
    some_vertex = (source, distance_source);
    room = omega (arith, alone_unsets (length g) source 0 ground.starts);
    more_room = λ v e. absurd (omega (arith, only_source e));
    own_parent = alone_own (length g) source source ground.starts;
    parent = λ v p apart e. absurd (apart (only_source e).0);
  }

  -- Workers.

  -- worker 0's input bag holds the source once
  opening_copies : (v : ℕ) → copies v (bag_insert source empty_bag) ≡ only v source
  opening_copies v = omega (arith, weigh_insert (only v) source empty_bag, weigh_empty (only v))

  -- which is layer 0
  opening_bag : (P : ℕ) → 1 ≤ P → LayerBag g source P 0 (bag_insert source empty_bag)
  opening_bag P p = record {
    every = λ v far. rw (walk_zero far.walk refl) (omega (arith, opening_copies source, only_self source));
    no_other = λ v h. there v (eqb source v) refl (omega (arith, opening_copies v));
    at_most = λ v. omega (arith, opening_copies v, only_few v source);
    shaped = shaped_insert source empty_bag shaped_empty;
  }
    where
      -- what is held is the source
      there : (v : ℕ) (b : Bool) → eqb source v ≡ b → 1 ≤ only v source → Distance g source v 0
      there v true e h = rw (← eqb-true source v e) distance_source
      there v false e h = absurd (omega (arith, rw e at h))

  -- all bags are empty before that
  opening_crew : (P : ℕ) → 1 ≤ P → SpareCrew P (replicate P idle_worker)
  opening_crew P p = record { some_worker = p; crew = length-replicate P idle_worker; each = λ w. rw (get_or_repeated P w idle_worker) spare_idle }

  -- the opening state is sound
  pub opening_sound : (P : ℕ) → 1 ≤ P → Sound g source P (opening_state (length g) source P)
  unfolding opening_state opening_labels
  opening_sound P p = record {
    labels_sound = opening_labels_lem;
    crew_sound = fresh_sound (opening_crew P p) (opening_bag P p)
        (λ v e. omega (arith, only_source e))
        (λ v e. let label = set_value (get_or (alone (length g) source 0) v none) e in
        rw ((only_source label.is).0, alone_own (length g) source source ground.starts) (omega arith));
  }

  -- and opens layer 0
  pub opening_opens : (P : ℕ) → 1 ≤ P → LayerOpen g source P (opening_state (length g) source P)
  unfolding opening_state
  opening_opens P p = fresh_opens (opening_crew P p) (opening_bag P p) (opening_labels (length g) source) false

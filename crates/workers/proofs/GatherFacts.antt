-- The close: bags united one after another into a first one, and that these are the output bags of idle workers and worker 0's input bag.
use mathlib.Core.Path.{◌≡◌, refl, sym, ap, ap₂, ◌∙◌}
use mathlib.Core.Bool.{true, and-eq-true_iff}
use mathlib.Core.List.{List, [], ◌∷◌, map, map-append, foldl, foldl-append}
use Prim.Native.Nat.{ℕ, suc, ◌+◌, ◌≤◌, ◌<◌}
use native.Mathlib.Numerals.{add-one}
use native.Mathlib.Omega.{arith}
use lib.ListN.{length, get_or, take, drop, replicate, length-map}
use lib.Seq.{take-suc, drop-cons, take-length, drop-length, length-take-le, get_or-take}
use Rattle.lists.proofs.Parts.{get_or_repeated}
use Rattle.lists.proofs.Replaced.{map_at}
use Rattle.pennant.specs.Bag.{Bag, empty_bag, is_empty, bag_union}
use Rattle.pennant.proofs.Laws.{empty_bag_lem}
use Rattle.bag.specs.declared.Bag as declared
use Rattle.bag.specs.Nodes.{held_by, new_bag, past_bag}
use Rattle.bag.specs.Promises.{weigh_nodes, AllFormed, Pooled, Moved, United}
use Rattle.bag.proofs.Family.{moved_pool, same_moved, moved_less, moved_again, weigh_both, weigh_bare, pool_two, family_two, family_held_two}
use Rattle.bag.proofs.FormedFacts.{formed_at, formed_first, formed_second}
use Rattle.bag.proofs.Free.{weigh_new}
use Rattle.bag.proofs.HeldFacts.{held_bare}
use Rattle.model.specs.State as model
use Rattle.model.specs.Table.{united_outputs}
use Rattle.workers.specs.Shown.{crew_of}
use Rattle.workers.specs.Steps.{Gathered}
use Rattle.workers.proofs.CrewFacts.{Even, crew_at, crew_outputs}
use Rattle.workers.proofs.BagsFacts.{bags_of, Enough}
use Rattle.workers.proofs.IdleFacts.{all_empty}

-- the numbers held by the first bag and the first w others, united in order
abbrev united_up_to : declared.Bag → List declared.Bag → List ℕ → List ℕ → List ℕ → ℕ → Bag
united_up_to first bags left right values w = foldl bag_union (held_by left right values first) (map (held_by left right values) (take w bags))

-- where w bags have been united into this one
pub record Gathering (first : declared.Bag) (bags : List declared.Bag) (left₀ right₀ : List ℕ) (w : ℕ) (left right : List ℕ) (bag : declared.Bag)
    : Type 0 where
  pub within : w ≤ length bags
  pub pool : Pooled left right (bag ∷ drop w bags)
  -- no node is lost
  pub moved : Moved left₀ right₀ (first ∷ bags) left right (bag ∷ drop w bags)
  -- the bag so far
  pub united : (values : List ℕ) → held_by left right values bag ≡ united_up_to first bags left₀ right₀ values w
  -- the bags still to come are as they were
  pub later : (values : List ℕ) → map (held_by left right values) (drop w bags) ≡ map (held_by left₀ right₀ values) (drop w bags)

-- at its start the bag is the first one
pub gather_start : (first : declared.Bag) (bags : List declared.Bag) (left right : List ℕ) → Pooled left right (first ∷ bags)
    → Gathering first bags left right 0 left right first
gather_start first bags left right pool = record {
  within = omega arith;
  pool = pool;
  moved = same_moved (λ f. refl) pool.formed;
  united = λ values. refl;
  later = λ values. refl;
}

-- two bags united, the second being left out, among others
module _ {left right left' right' : List ℕ} {a b bag : declared.Bag} (rest : List declared.Bag) (pool : Pooled left right (a ∷ b ∷ rest))
    (made : United left right a b left' right' bag) where
  -- no node is lost
  united_moved : Moved left right (a ∷ b ∷ rest) left' right' (bag ∷ rest)
  united_moved =
      moved_less (family_two left right left' right' (a ∷ b ∷ rest) 0 1 bag new_bag pool (omega arith) (omega arith)
      (λ (e : ◌≡◌ {A = ℕ} 0 1). omega arith) made.moved).moved

  -- and the others hold what they held
  united_kept : (values : List ℕ) → map (held_by left' right' values) rest ≡ map (held_by left right values) rest
  united_kept values =
      let all = family_held_two left right left' right' (a ∷ b ∷ rest) 0 1 bag new_bag pool (omega arith) (omega arith)
      (λ (e : ◌≡◌ {A = ℕ} 0 1). omega arith) made.moved values values (λ i h c. refl) in
      cc

-- one bag more
united_next : (first : declared.Bag) (bags : List declared.Bag) (left right values : List ℕ) (w : ℕ) → w < length bags
    → united_up_to first bags left right values (suc w) ≡ bag_union (united_up_to first bags left right values w) (held_by left right values (get_or bags w past_bag))
united_next first bags left right values w h =
    rw (take-suc bags w past_bag h, map-append (held_by left right values) (take w bags) (get_or bags w past_bag ∷ []))
    (foldl-append bag_union (held_by left right values first) (map (held_by left right values) (take w bags)) (held_by left right values (get_or bags w past_bag) ∷ []))

module _ (first : declared.Bag) (bags : List declared.Bag) (left₀ right₀ : List ℕ) (w : ℕ) (left right : List ℕ) (bag : declared.Bag)
    (gathering : Gathering first bags left₀ right₀ w left right bag) (below : w < length bags) where
  -- the bags still to come, the next of them first
  next_bag : drop w bags ≡ get_or bags w past_bag ∷ drop (suc w) bags
  next_bag = drop-cons bags w past_bag below

  -- the bags with it
  next_pool : Pooled left right (bag ∷ get_or bags w past_bag ∷ drop (suc w) bags)
  next_pool = rw next_bag at gathering.pool

  -- what a union requires
  pub gather_requires : Pooled left right (bag ∷ get_or bags w past_bag ∷ [])
  gather_requires =
      pool_two (bag ∷ get_or bags w past_bag ∷ drop (suc w) bags) 0 1 next_pool (omega arith) (omega arith) (λ (e : ◌≡◌ {A = ℕ} 0 1). omega arith)

  -- a union with the next bag
  pub gather_step : {left' right' : List ℕ} {bag' : declared.Bag} → United left right bag (get_or bags w past_bag) left' right' bag'
      → Gathering first bags left₀ right₀ (w + 1) left' right' bag'
  gather_step {left'} {right'} {bag'} made =
      rw add-one
      record {
        within = below;
        pool = moved_pool next_pool moved;
        moved = moved_again (rw next_bag at gathering.moved) moved;
        united = λ values.
            made.held values
            ∙ ap (λ (b : Bag). bag_union b (held_by left right values output)) (gathering.united values)
            ∙ ap (bag_union (united_up_to first bags left₀ right₀ values w)) (here values)
            ∙ sym (united_next first bags left₀ right₀ values w below);
        later = λ values. united_kept rest next_pool made values ∙ there values;
      }
    where
      output : declared.Bag
      output = get_or bags w past_bag

      rest : List declared.Bag
      rest = drop (suc w) bags

      moved : Moved left right (bag ∷ output ∷ rest) left' right' (bag' ∷ rest)
      moved = united_moved rest next_pool made

      still : (values : List ℕ) → map (held_by left right values) (output ∷ rest) ≡ map (held_by left₀ right₀ values) (output ∷ rest)
      still values = rw next_bag at (gathering.later values)

      here : (values : List ℕ) → held_by left right values output ≡ held_by left₀ right₀ values output
      here values = let same = still values in cc

      there : (values : List ℕ) → map (held_by left right values) rest ≡ map (held_by left₀ right₀ values) rest
      there values = let same = still values in cc

-- at its end all have been united
pub gather_end : (first : declared.Bag) (bags : List declared.Bag) (left₀ right₀ : List ℕ) (w : ℕ) (left right : List ℕ) (bag : declared.Bag)
    → Gathering first bags left₀ right₀ w left right bag → length bags ≤ w
    → Gathered first bags left₀ right₀ left right bag
gather_end first bags left₀ right₀ w left right bag gathering past =
    let all : w ≡ length bags = omega (arith, gathering.within) in
    record {
      united = λ values.
          gathering.united values
          ∙ ap (λ (l : List declared.Bag). foldl bag_union (held_by left₀ right₀ values first) (map (held_by left₀ right₀ values) l)) (ap (λ (n : ℕ). take n bags) all ∙ take-length bags);
      moved = rw (all, drop-length bags) at gathering.moved;
    }

-- Idle workers.

-- bags that all are empty have no nodes
empties_weigh : (f : ℕ → ℕ) (left right values : List ℕ) (bags : List declared.Bag) → all_empty (map (held_by left right values) bags) ≡ true
    → weigh_nodes f left right bags ≡ weigh_nodes f left right []
unfolding all_empty
empties_weigh f left right values [] empty = refl
empties_weigh f left right values (b ∷ bags) empty =
    let both = (and-eq-true_iff (is_empty (held_by left right values b)) (all_empty (map (held_by left right values) bags))).0 empty in
    omega (
      arith,
      weigh_both left right f (b ∷ []) bags,
      weigh_bare left right f values b both.0,
      empties_weigh f left right values bags both.1,
      weigh_new left right f 0,
    )

-- each of them is the empty bag
empties_bare : (left right values : List ℕ) (bags : List declared.Bag) → AllFormed bags → all_empty (map (held_by left right values) bags) ≡ true
    → map (held_by left right values) bags ≡ replicate (length bags) empty_bag
unfolding all_empty
empties_bare left right values [] formed empty = refl
empties_bare left right values (b ∷ bags) formed empty =
    let both = (and-eq-true_iff (is_empty (held_by left right values b)) (all_empty (map (held_by left right values) bags))).0 empty in
    ap₂ (λ (x : Bag) (l : List Bag). x ∷ l) (held_bare left right values b formed.0 both.0) (empties_bare left right values bags formed.1 both.1)

module _ {P : ℕ} {inputs outputs : List declared.Bag} (enough : Enough P inputs outputs) (some_worker : 1 ≤ P) {left right : List ℕ} (values : List ℕ)
    (pool : Pooled left right (bags_of P inputs outputs)) (empty : all_empty (map (held_by left right values) (take P inputs)) ≡ true) where
  -- so many inputs
  inputs_few : length (take P inputs) ≡ P
  inputs_few = length-take-le P inputs enough.inputs_there

  -- all of them hold nothing
  pub inputs_bare : map (held_by left right values) (take P inputs) ≡ replicate P empty_bag
  inputs_bare =
      empties_bare left right values (take P inputs) (formed_first (take P inputs) (take P outputs) pool.formed) empty
      ∙ ap (λ (n : ℕ). replicate n empty_bag) inputs_few

  -- nor does the first
  first_bare : is_empty (held_by left right values (get_or inputs 0 past_bag)) ≡ true
  first_bare =
      ap (λ (b : declared.Bag). is_empty (held_by left right values b)) (sym (get_or-take P inputs 0 past_bag some_worker))
      ∙ ap is_empty (sym (map_at (held_by left right values) (take P inputs) 0 past_bag empty_bag (rw inputs_few some_worker)))
      ∙ ap (λ (l : List Bag). is_empty (get_or l 0 empty_bag)) inputs_bare
      ∙ ap is_empty (get_or_repeated P 0 empty_bag)
      ∙ empty_bag_lem

  -- the bags that are gathered have all nodes
  gather_moved : Moved left right (bags_of P inputs outputs) left right (get_or inputs 0 past_bag ∷ take P outputs)
  gather_moved =
      same_moved
      (λ f. omega (
        arith,
        weigh_both left right f (get_or inputs 0 past_bag ∷ []) (take P outputs),
        weigh_bare left right f values (get_or inputs 0 past_bag) first_bare,
        weigh_both left right f (take P inputs) (take P outputs),
        empties_weigh f left right values (take P inputs) empty,
        weigh_new left right f 0,
      )) (
        rw (get_or-take P inputs 0 past_bag some_worker)
            at (formed_at (take P inputs) 0 past_bag (formed_first (take P inputs) (take P outputs) pool.formed) (rw inputs_few some_worker)),
        formed_second (take P inputs) (take P outputs) pool.formed,
      )

  -- what gathering them requires
  pub gather_pooled : Pooled left right (get_or inputs 0 past_bag ∷ take P outputs)
  gather_pooled = moved_pool pool gather_moved

  -- and no node is lost where it is done
  pub gathered_moved : {left' right' : List ℕ} {bag : declared.Bag} → Gathered (get_or inputs 0 past_bag) (take P outputs) left right left' right' bag
      → Moved left right (bags_of P inputs outputs) left' right' (bag ∷ [])
  gathered_moved gathered = moved_again gather_moved gathered.moved

  -- the table's union
  pub gathered_held : {left' right' : List ℕ} {bag : declared.Bag} (phases : List model.Phase) → length phases ≡ P
      → Gathered (get_or inputs 0 past_bag) (take P outputs) left right left' right' bag
      → held_by left' right' values bag
      ≡ united_outputs (crew_of (map (held_by left right values) (take P inputs)) (map (held_by left right values) (take P outputs)) phases)
  unfolding united_outputs
  gathered_held phases long gathered =
      gathered.united values
      ∙ ap₂ (λ (b : Bag) (l : List Bag). foldl bag_union b l)
      (ap (held_by left right values) (sym (get_or-take P inputs 0 past_bag some_worker))
      ∙ sym (map_at (held_by left right values) (take P inputs) 0 past_bag empty_bag (rw inputs_few some_worker))
      ∙ ap (λ (x : model.Worker). x.input) (sym (crew_at held_inputs held_outputs phases 0 even)))
      (sym (crew_outputs held_inputs held_outputs phases even))
    where
      held_inputs : List Bag
      held_inputs = map (held_by left right values) (take P inputs)

      held_outputs : List Bag
      held_outputs = map (held_by left right values) (take P outputs)

      even : Even P held_inputs held_outputs phases
      even = record {
        inputs_long = length-map (take P inputs) (held_by left right values) ∙ inputs_few;
        outputs_long = length-map (take P outputs) (held_by left right values) ∙ length-take-le P outputs enough.outputs_there;
        phases_long = long;
      }

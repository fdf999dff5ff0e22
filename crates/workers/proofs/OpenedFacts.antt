-- A layer that opens: eight bags of which the first is given, eight empty ones and eight free phases. What the first P of them hold, which workers
-- they stand for, and that no node is lost where the given bag has them all.
use mathlib.Core.Path.{◌≡◌, sym, ap, ap₂, ◌∙◌}
use mathlib.Core.List.{List, [], ◌∷◌, ◌++◌, map}
use Prim.Native.Nat.{ℕ, ◌≤◌}
use native.Mathlib.Omega.{arith}
use lib.ListN.{get_or, set, take, replicate, length-replicate}
use lib.Seq.{take-set-lt}
use Rattle.numbers.specs.Numbers.{max_workers}
use Rattle.lists.specs.Lists.{sum_of}
use Rattle.lists.proofs.Parts.{get_or_repeated, take_repeated, set_alike}
use Rattle.lists.proofs.Replaced.{map_set, map_repeated}
use Rattle.lists.proofs.Sums.{sum_replicate, sum_first}
use Rattle.pennant.specs.Bag.{Bag, empty_bag}
use Rattle.pennant.specs.Held.{size, one}
use Rattle.pennant.proofs.Laws.{weigh_empty}
use Rattle.bag.specs.declared.Bag as declared
use Rattle.bag.specs.Nodes.{held_by, new_bag}
use Rattle.bag.specs.Promises.{weigh_nodes, Formed, Moved}
use Rattle.bag.proofs.Family.{weigh_both, weigh_first, same_moved}
use Rattle.bag.proofs.FormedFacts.{all_new, formed_set, formed_append}
use Rattle.bag.proofs.Free.{weigh_new}
use Rattle.bag.proofs.HeldFacts.{held_none}
use Rattle.model.specs.State as model
use Rattle.workers.specs.declared.Phase.TheVariants.{Free}
use Rattle.workers.specs.Shown.{crew_of, phase_of, workers_of}
use Rattle.workers.specs.Steps.{held_of, first_of_eight, all_free}
use Rattle.workers.proofs.CrewFacts.{crew_set, crew_alike}
use Rattle.workers.proofs.BagsFacts.{bags_of}

module _ (P : ℕ) (some_worker : 1 ≤ P) (few_workers : P ≤ max_workers) where
  -- the first P of eight bags
  first_taken : (b : declared.Bag) → take P (first_of_eight b) ≡ set (replicate P new_bag) 0 b
  first_taken b =
      take-set-lt P (replicate max_workers new_bag) 0 b some_worker
      ∙ ap (λ (l : List declared.Bag). set l 0 b) (take_repeated P max_workers new_bag few_workers)

  none_taken : take P (first_of_eight new_bag) ≡ replicate P new_bag
  none_taken = first_taken new_bag ∙ set_alike P 0 new_bag

  free_taken : take P all_free ≡ replicate P Free
  free_taken = take_repeated P max_workers Free few_workers

  -- the workers that they stand for
  pub opened_workers : (offsets left right values : List ℕ) (b : declared.Bag)
      → workers_of offsets left right values (take P (first_of_eight b)) (take P (first_of_eight new_bag)) (take P all_free)
      ≡ set (replicate P model.idle_worker) 0 (model.worker_with (held_by left right values b) empty_bag model.free)
  unfolding phase_of
  opened_workers offsets left right values b =
      rw (
        first_taken b,
        none_taken,
        free_taken,
        map_set held (replicate P new_bag) 0 b,
        map_repeated held P new_bag,
        map_repeated (phase_of offsets) P Free,
        held_none left right values,
      )
      (ap₂ (λ (l : List Bag) (k : List model.Phase). crew_of (set (replicate P empty_bag) 0 (held b)) l k)
      (sym (set_alike P 0 empty_bag)) (sym (set_alike P 0 model.free))
      ∙ crew_set (replicate P empty_bag) (replicate P empty_bag) (replicate P model.free) 0 (held b) empty_bag model.free
      ∙ ap (λ (l : List model.Worker). set l 0 (model.worker_with (held b) empty_bag model.free)) (crew_alike P empty_bag empty_bag model.free))
    where
      held : declared.Bag → Bag
      held = held_by left right values

  -- they have the nodes that the one bag has
  pub opened_moved : {left right : List ℕ} {b : declared.Bag} → Formed b
      → Moved left right (b ∷ []) left right (bags_of P (first_of_eight b) (first_of_eight new_bag))
  opened_moved {left} {right} {b} formed =
      same_moved
      (λ f. ap (weigh_nodes f left right) both
      ∙ weigh_both left right f (set (replicate P new_bag) 0 b) (replicate P new_bag)
      ∙ omega (arith, weigh_new left right f P, weigh_first left right f P b some_worker))
      (rw both (formed_append (set (replicate P new_bag) 0 b) (replicate P new_bag) (formed_set (replicate P new_bag) 0 b (all_new P) formed) (all_new P)))
    where
      both : bags_of P (first_of_eight b) (first_of_eight new_bag) ≡ set (replicate P new_bag) 0 b ++ replicate P new_bag
      both = ap₂ (λ (l k : List declared.Bag). l ++ k) (first_taken b) none_taken

  -- they hold what the one bag holds
  pub opened_size : (left right values : List ℕ) (b : declared.Bag)
      → sum_of size (map (held_by left right values) (take P (first_of_eight b))) ≡ size (held_by left right values b)
  opened_size left right values b =
      rw (first_taken b, map_set (held_by left right values) (replicate P new_bag) 0 b, map_repeated (held_by left right values) P new_bag, held_none left right values)
      (sum_first size empty_bag (replicate P empty_bag) (held_by left right values b) (rw length-replicate some_worker)
      (λ i. ap size (get_or_repeated P i empty_bag) ∙ weigh_empty one))

  -- none of them holds a vertex
  pub opened_unheld : sum_of held_of (take P all_free) ≡ 0
  unfolding held_of
  opened_unheld = ap (sum_of held_of) free_taken ∙ sum_replicate held_of P Free ∙ omega arith

-- all are free
pub opened_free : (w : ℕ) → get_or all_free w Free ≡ Free
opened_free w = get_or_repeated max_workers w Free

-- Workers whose input bags, output bags and phases stand in three lists: how many, one of them, all of them with one replaced, what they hold.
use mathlib.Core.Path.{◌≡◌, refl, ap}
use mathlib.Core.List.{List, [], ◌∷◌, map}
use Prim.Native.Nat.{ℕ, zero, suc, ◌+◌}
use native.Mathlib.Omega.{arith}
use lib.ListN.{length, get_or, set, replicate}
use lib.Seq.{set-get_or}
use Rattle.lists.specs.Lists.{sum_of}
use Rattle.pennant.specs.Bag.{Bag, empty_bag}
use Rattle.pennant.specs.Held.{size}
use Rattle.model.specs.State as model
use Rattle.model.specs.Demand.{held}
use Rattle.workers.specs.Shown.{crew_of}

-- three lists of one length
pub record Even (n : ℕ) (inputs outputs : List Bag) (phases : List model.Phase) : Type 0 where
  pub inputs_long : length inputs ≡ n
  pub outputs_long : length outputs ≡ n
  pub phases_long : length phases ≡ n

-- without their first
shorter : {n : ℕ} {a b : Bag} {p : model.Phase} {inputs outputs : List Bag} {phases : List model.Phase}
    → Even (suc n) (a ∷ inputs) (b ∷ outputs) (p ∷ phases) → Even n inputs outputs phases
shorter even = record {
  inputs_long = omega (arith, even.inputs_long);
  outputs_long = omega (arith, even.outputs_long);
  phases_long = omega (arith, even.phases_long);
}

-- as many workers
pub crew_long : {n : ℕ} (inputs outputs : List Bag) (phases : List model.Phase) → Even n inputs outputs phases
    → length (crew_of inputs outputs phases) ≡ n
unfolding crew_of
crew_long [] outputs phases even = even.inputs_long
crew_long {n = n} (a ∷ inputs) [] phases even = even.outputs_long
crew_long {n = n} (a ∷ inputs) (b ∷ outputs) [] even = even.phases_long
crew_long {n = zero} (a ∷ inputs) (b ∷ outputs) (p ∷ phases) even = absurd (omega (arith, even.inputs_long))
crew_long {n = suc n} (a ∷ inputs) (b ∷ outputs) (p ∷ phases) even = ap suc (crew_long inputs outputs phases (shorter even))

-- one of them
pub crew_at : {n : ℕ} (inputs outputs : List Bag) (phases : List model.Phase) (w : ℕ) → Even n inputs outputs phases
    → model.worker_at (crew_of inputs outputs phases) w
    ≡ model.worker_with (get_or inputs w empty_bag) (get_or outputs w empty_bag) (get_or phases w model.free)
unfolding crew_of
crew_at {n = suc n} [] outputs phases w even = absurd (omega (arith, even.inputs_long))
crew_at {n = zero} [] [] [] w even = refl
crew_at {n = zero} [] (b ∷ outputs) phases w even = absurd (omega (arith, even.outputs_long))
crew_at {n = zero} [] [] (p ∷ phases) w even = absurd (omega (arith, even.phases_long))
crew_at {n = zero} (a ∷ inputs) outputs phases w even = absurd (omega (arith, even.inputs_long))
crew_at {n = suc n} (a ∷ inputs) [] phases w even = absurd (omega (arith, even.outputs_long))
crew_at {n = suc n} (a ∷ inputs) (b ∷ outputs) [] w even = absurd (omega (arith, even.phases_long))
crew_at {n = suc n} (a ∷ inputs) (b ∷ outputs) (p ∷ phases) zero even = refl
crew_at {n = suc n} (a ∷ inputs) (b ∷ outputs) (p ∷ phases) (suc w) even = crew_at inputs outputs phases w (shorter even)

-- all of them with one replaced
pub crew_set : (inputs outputs : List Bag) (phases : List model.Phase) (w : ℕ) (a b : Bag) (p : model.Phase)
    → crew_of (set inputs w a) (set outputs w b) (set phases w p) ≡ set (crew_of inputs outputs phases) w (model.worker_with a b p)
unfolding crew_of
crew_set [] outputs phases w a b p = refl
crew_set (x ∷ inputs) [] phases zero a b p = refl
crew_set (x ∷ inputs) [] phases (suc w) a b p = refl
crew_set (x ∷ inputs) (y ∷ outputs) [] zero a b p = refl
crew_set (x ∷ inputs) (y ∷ outputs) [] (suc w) a b p = refl
crew_set (x ∷ inputs) (y ∷ outputs) (q ∷ phases) zero a b p = refl
crew_set (x ∷ inputs) (y ∷ outputs) (q ∷ phases) (suc w) a b p =
    ap (λ (l : List model.Worker). model.worker_with x y q ∷ l) (crew_set inputs outputs phases w a b p)

module _ (inputs outputs : List Bag) (phases : List model.Phase) (w : ℕ) where
  -- the input bag is replaced
  pub crew_input : (a : Bag) → crew_of (set inputs w a) outputs phases
      ≡ set (crew_of inputs outputs phases) w (model.worker_with a (get_or outputs w empty_bag) (get_or phases w model.free))
  crew_input a =
      rw (set-get_or outputs w empty_bag, set-get_or phases w model.free) at (crew_set inputs outputs phases w a (get_or outputs w empty_bag) (get_or phases w model.free))

  -- the output bag
  pub crew_output : (b : Bag) → crew_of inputs (set outputs w b) phases
      ≡ set (crew_of inputs outputs phases) w (model.worker_with (get_or inputs w empty_bag) b (get_or phases w model.free))
  crew_output b =
      rw (set-get_or inputs w empty_bag, set-get_or phases w model.free) at (crew_set inputs outputs phases w (get_or inputs w empty_bag) b (get_or phases w model.free))

-- the output bags of all
pub crew_outputs : {n : ℕ} (inputs outputs : List Bag) (phases : List model.Phase) → Even n inputs outputs phases
    → map (λ (x : model.Worker). x.output) (crew_of inputs outputs phases) ≡ outputs
unfolding crew_of
crew_outputs {n = zero} [] [] phases even = refl
crew_outputs {n = suc n} [] outputs phases even = absurd (omega (arith, even.inputs_long))
crew_outputs {n = zero} [] (b ∷ outputs) phases even = absurd (omega (arith, even.outputs_long))
crew_outputs {n = zero} (a ∷ inputs) outputs phases even = absurd (omega (arith, even.inputs_long))
crew_outputs {n = suc n} (a ∷ inputs) [] phases even = refl
crew_outputs {n = suc n} (a ∷ inputs) (b ∷ outputs) [] even = absurd (omega (arith, even.phases_long))
crew_outputs {n = suc n} (a ∷ inputs) (b ∷ outputs) (p ∷ phases) even =
    ap (λ (l : List Bag). b ∷ l) (crew_outputs inputs outputs phases (shorter even))

-- all alike
pub crew_alike : (n : ℕ) (a b : Bag) (p : model.Phase)
    → crew_of (replicate n a) (replicate n b) (replicate n p) ≡ replicate n (model.worker_with a b p)
unfolding crew_of
crew_alike zero a b p = refl
crew_alike (suc n) a b p = ap (λ (l : List model.Worker). model.worker_with a b p ∷ l) (crew_alike n a b p)

-- they hold what their bags hold
pub crew_loads : {n : ℕ} (inputs outputs : List Bag) (phases : List model.Phase) → Even n inputs outputs phases
    → held (crew_of inputs outputs phases) ≡ sum_of size inputs + sum_of size outputs
unfolding crew_of held sum_of
crew_loads {n = zero} [] [] phases even = refl
crew_loads {n = suc n} [] outputs phases even = absurd (omega (arith, even.inputs_long))
crew_loads {n = zero} [] (b ∷ outputs) phases even = absurd (omega (arith, even.outputs_long))
crew_loads {n = zero} (a ∷ inputs) outputs phases even = absurd (omega (arith, even.inputs_long))
crew_loads {n = suc n} (a ∷ inputs) [] phases even = absurd (omega (arith, even.outputs_long))
crew_loads {n = suc n} (a ∷ inputs) (b ∷ outputs) [] even = absurd (omega (arith, even.phases_long))
crew_loads {n = suc n} (a ∷ inputs) (b ∷ outputs) (p ∷ phases) even = omega (arith, crew_loads inputs outputs phases (shorter even))

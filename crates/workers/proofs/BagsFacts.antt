-- The bags of P workers over one pool, input bags before output bags: what a step with one or two of them requires, and what all of them hold
-- after it.
use mathlib.Core.Path.{◌≡◌, refl, sym, ap, ap₂, ◌∙◌}
use mathlib.Core.List.{List, [], ◌∷◌, ◌++◌, map, map-append}
use Prim.Native.Nat.{ℕ, ◌+◌, ◌≤◌, ◌<◌}
use native.Mathlib.Omega.{arith}
use lib.ListN.{length, get_or, set, take, length-append, length-set, length-map, get_or-append}
use lib.Seq.{length-take-le, get_or-take, get_or-append-add, set-append_left, take-set-lt}
use Rattle.lists.proofs.Parts.{parts_same, set_second}
use Rattle.pennant.specs.Bag.{Bag}
use Rattle.bag.specs.declared.Bag as declared
use Rattle.bag.specs.Nodes.{held_by, past_bag}
use Rattle.bag.specs.Promises.{uses, Pooled, Moved}
use Rattle.bag.proofs.Family.{pool_one, pool_two, family_one, family_two, family_held_one, family_held_two}

-- the bags of the first P workers
abbrev pub bags_of : ℕ → List declared.Bag → List declared.Bag → List declared.Bag
bags_of P inputs outputs = take P inputs ++ take P outputs

-- there are as many
pub record Enough (P : ℕ) (inputs outputs : List declared.Bag) : Type 0 where
  pub inputs_there : P ≤ length inputs
  pub outputs_there : P ≤ length outputs

-- and with one replaced
enough_input : {P : ℕ} {inputs outputs : List declared.Bag} → Enough P inputs outputs → (w : ℕ) (a : declared.Bag) → Enough P (set inputs w a) outputs
enough_input {inputs = inputs} enough w a = record { inputs_there = rw (length-set inputs w a) enough.inputs_there; outputs_there = enough.outputs_there }

enough_output : {P : ℕ} {inputs outputs : List declared.Bag} → Enough P inputs outputs → (w : ℕ) (a : declared.Bag) → Enough P inputs (set outputs w a)
enough_output {outputs = outputs} enough w a = record { inputs_there = enough.inputs_there; outputs_there = rw (length-set outputs w a) enough.outputs_there }

-- all bags after a step: no node is lost, and the inputs and the outputs hold these
pub record BagsAfter (P : ℕ) (inputs outputs : List declared.Bag) (left right left' right' values' : List ℕ) (inputs' outputs' : List declared.Bag)
    (held_inputs held_outputs : List Bag) : Type 0 where
  pub moved : Moved left right (bags_of P inputs outputs) left' right' (bags_of P inputs' outputs')
  pub inputs_held : map (held_by left' right' values') (take P inputs') ≡ held_inputs
  pub outputs_held : map (held_by left' right' values') (take P outputs') ≡ held_outputs

-- numbers change only at nodes of these bags and at free ones
abbrev pub Agree : List ℕ → List ℕ → List declared.Bag → List ℕ → List ℕ → Type 0
Agree left right bags values values' = (x : ℕ) → 0 < x → uses x left right bags ≡ 0 → get_or values' x 0 ≡ get_or values x 0

-- A family of bags, of which the one at place i, or those at i and j, are known.

module _ {left right left' right' : List ℕ} (bags : List declared.Bag) (pool : Pooled left right bags) (values values' : List ℕ) where
  -- a step with one of them
  one_after : (i : ℕ) {a a' : declared.Bag} → get_or bags i past_bag ≡ a → i < length bags → Moved left right (a ∷ []) left' right' (a' ∷ [])
      → Agree left right (a ∷ []) values values'
      → Moved left right bags left' right' (set bags i a')
      × (map (held_by left' right' values') (set bags i a') ≡ set (map (held_by left right values) bags) i (held_by left' right' values' a'))
  one_after i {a} {a'} at inside moved agree = (
    (family_one left right left' right' bags i a' pool inside (rw at moved)).moved,
    family_held_one left right left' right' bags i a' pool inside (rw at moved) values values' (rw at agree),
  )

  -- a step with two of them
  two_after : (i j : ℕ) {a b a' b' : declared.Bag} → get_or bags i past_bag ≡ a → get_or bags j past_bag ≡ b → i < length bags → j < length bags
      → (i ≡ j → ⊥) → Moved left right (a ∷ b ∷ []) left' right' (a' ∷ b' ∷ []) → Agree left right (a ∷ b ∷ []) values values'
      → Moved left right bags left' right' (set (set bags i a') j b')
      × (map (held_by left' right' values') (set (set bags i a') j b')
      ≡ set (set (map (held_by left right values) bags) i (held_by left' right' values' a')) j (held_by left' right' values' b'))
  two_after i j {a} {b} {a'} {b'} at_i at_j inside-i inside-j apart moved agree = (
    (family_two left right left' right' bags i j a' b' pool inside-i inside-j apart (rw (at_i, at_j) moved)).moved,
    family_held_two left right left' right' bags i j a' b' pool inside-i inside-j apart (rw (at_i, at_j) moved) values values' (rw (at_i, at_j) agree),
  )

module _ {P : ℕ} {inputs outputs : List declared.Bag} (enough : Enough P inputs outputs) where
  -- P inputs, P outputs
  inputs_few : length (take P inputs) ≡ P
  inputs_few = length-take-le P inputs enough.inputs_there

  bags_long : length (bags_of P inputs outputs) ≡ P + P
  bags_long =
      length-append (take P inputs) (take P outputs) ∙ ap₂ (λ (a b : ℕ). a + b) inputs_few (length-take-le P outputs enough.outputs_there)

  module _ (w : ℕ) (here : w < P) where
    -- input bag w stands at place w
    input_at : get_or (bags_of P inputs outputs) w past_bag ≡ get_or inputs w past_bag
    input_at = get_or-append (take P inputs) (take P outputs) past_bag w (rw inputs_few here) ∙ get_or-take P inputs w past_bag here

    input_set : (a : declared.Bag) → set (bags_of P inputs outputs) w a ≡ bags_of P (set inputs w a) outputs
    input_set a =
        set-append_left (take P inputs) (take P outputs) w a (rw inputs_few here)
        ∙ ap (λ (l : List declared.Bag). l ++ take P outputs) (sym (take-set-lt P inputs w a here))

    -- output bag w at place P + w
    output_at : get_or (bags_of P inputs outputs) (P + w) past_bag ≡ get_or outputs w past_bag
    output_at =
        ap (λ (k : ℕ). get_or (bags_of P inputs outputs) (k + w) past_bag) (sym inputs_few)
        ∙ get_or-append-add (take P inputs) (take P outputs) w past_bag
        ∙ get_or-take P outputs w past_bag here

    output_set : (b : declared.Bag) → set (bags_of P inputs outputs) (P + w) b ≡ bags_of P inputs (set outputs w b)
    output_set b =
        ap (λ (k : ℕ). set (bags_of P inputs outputs) (k + w) b) (sym inputs_few)
        ∙ set_second (take P inputs) (take P outputs) w b
        ∙ ap (λ (l : List declared.Bag). take P inputs ++ l) (sym (take-set-lt P outputs w b here))

    -- they are places of the family
    pub input_inside : w < length (bags_of P inputs outputs)
    input_inside = omega (arith, bags_long)

    pub output_inside : P + w < length (bags_of P inputs outputs)
    output_inside = omega (arith, bags_long)

-- From the bags of both lists to each of the two.

module _ {P : ℕ} {inputs outputs : List declared.Bag} (enough : Enough P inputs outputs) (f : declared.Bag → Bag) where
  -- what inputs and outputs are mapped to
  abbrev before_inputs : List Bag
  before_inputs = map f (take P inputs)

  abbrev before_outputs : List Bag
  before_outputs = map f (take P outputs)

  before_long : length before_inputs ≡ P
  before_long = length-map (take P inputs) f ∙ length-take-le P inputs enough.inputs_there

  both_before : map f (bags_of P inputs outputs) ≡ before_inputs ++ before_outputs
  both_before = map-append f (take P inputs) (take P outputs)

  -- with one of the inputs replaced
  input_put : (w : ℕ) → w < P → (x : Bag) → set (map f (bags_of P inputs outputs)) w x ≡ set before_inputs w x ++ before_outputs
  input_put w here x = ap (λ (l : List Bag). set l w x) both_before ∙ set-append_left before_inputs before_outputs w x (rw before_long here)

  -- with one of the outputs replaced
  output_put : (w : ℕ) (x : Bag) → set (map f (bags_of P inputs outputs)) (P + w) x ≡ before_inputs ++ set before_outputs w x
  output_put w x =
      ap (λ (l : List Bag). set l (P + w) x) both_before
      ∙ ap (λ (k : ℕ). set (before_inputs ++ before_outputs) (k + w) x) (sym before_long)
      ∙ set_second before_inputs before_outputs w x

-- both lists after a step, from all of their bags
after_both : (P : ℕ) {inputs outputs inputs' outputs' : List declared.Bag} {left right left' right' values' : List ℕ} {held_inputs held_outputs : List Bag}
    → Moved left right (bags_of P inputs outputs) left' right' (bags_of P inputs' outputs')
    → map (held_by left' right' values') (bags_of P inputs' outputs') ≡ held_inputs ++ held_outputs
    → P ≤ length inputs' → length held_inputs ≡ P
    → BagsAfter P inputs outputs left right left' right' values' inputs' outputs' held_inputs held_outputs
after_both P {inputs' = inputs'} {outputs' = outputs'} {left' = left'} {right' = right'} {values' = values'} {held_inputs = held_inputs} {held_outputs = held_outputs}
    moved held there long =
    let f = held_by left' right' values' in
    let parts = parts_same (map f (take P inputs')) (map f (take P outputs')) held_inputs held_outputs
    (length-map (take P inputs') f ∙ length-take-le P inputs' there ∙ sym long) (sym (map-append f (take P inputs') (take P outputs')) ∙ held) in
    record { moved = moved; inputs_held = parts.0; outputs_held = parts.1 }

-- The steps.

module _ {P : ℕ} {inputs outputs : List declared.Bag} (enough : Enough P inputs outputs) {left right : List ℕ}
    (pool : Pooled left right (bags_of P inputs outputs)) where
  abbrev bags : List declared.Bag
  bags = bags_of P inputs outputs

  -- One bag.

  module _ (w : ℕ) (here : w < P) where
    -- what a step with an input bag requires
    pub input_pooled : Pooled left right (get_or inputs w past_bag ∷ [])
    input_pooled = rw (input_at enough w here) at (pool_one bags w pool (input_inside enough w here))

    -- and with an output bag
    pub output_pooled : Pooled left right (get_or outputs w past_bag ∷ [])
    output_pooled = rw (output_at enough w here) at (pool_one bags (P + w) pool (output_inside enough w here))

    module _ {left' right' : List ℕ} {a : declared.Bag} (values values' : List ℕ) where
      -- after a step with an input bag
      pub input_after : Moved left right (get_or inputs w past_bag ∷ []) left' right' (a ∷ []) → Agree left right (get_or inputs w past_bag ∷ []) values values'
          → BagsAfter P inputs outputs left right left' right' values' (set inputs w a) outputs
          (set (map (held_by left right values) (take P inputs)) w (held_by left' right' values' a)) (map (held_by left right values) (take P outputs))
      input_after moved agree =
          let all = one_after bags pool values values' w (input_at enough w here) (input_inside enough w here) moved agree in
          let put = input_set enough w here a in
          after_both P (rw put at all.0)
          (rw put at all.1 ∙ input_put enough (held_by left right values) w here (held_by left' right' values' a))
          (rw (length-set inputs w a) enough.inputs_there)
          (length-set (map (held_by left right values) (take P inputs)) w (held_by left' right' values' a) ∙ before_long enough (held_by left right values))

      -- and with an output bag
      pub output-after : Moved left right (get_or outputs w past_bag ∷ []) left' right' (a ∷ []) → Agree left right (get_or outputs w past_bag ∷ []) values values'
          → BagsAfter P inputs outputs left right left' right' values' inputs (set outputs w a)
          (map (held_by left right values) (take P inputs)) (set (map (held_by left right values) (take P outputs)) w (held_by left' right' values' a))
      output-after moved agree =
          let all = one_after bags pool values values' (P + w) (output_at enough w here) (output_inside enough w here) moved agree in
          let put = output_set enough w here a in
          after_both P (rw put at all.0)
          (rw put at all.1 ∙ output_put enough (held_by left right values) w (held_by left' right' values' a))
          enough.inputs_there
          (before_long enough (held_by left right values))

  -- Two bags, of v and w.

  module _ (w v : ℕ) (here : w < P) (there : v < P) (off : w ≡ v → ⊥) where
    -- what a step with two input bags requires
    pub inputs_pooled : Pooled left right (get_or inputs v past_bag ∷ get_or inputs w past_bag ∷ [])
    inputs_pooled =
        rw (input_at enough v there, input_at enough w here)
        at (pool_two bags v w pool (input_inside enough v there) (input_inside enough w here) (λ (e : v ≡ w). off (sym e)))

    -- and with two output bags
    pub outputs_pooled : Pooled left right (get_or outputs v past_bag ∷ get_or outputs w past_bag ∷ [])
    outputs_pooled =
        rw (output_at enough v there, output_at enough w here)
        at (pool_two bags (P + v) (P + w) pool (output_inside enough v there) (output_inside enough w here) (λ (e : P + v ≡ P + w). off (omega arith)))

    module _ {left' right' : List ℕ} {b a : declared.Bag} (values : List ℕ) where
      -- after a step with two input bags
      pub inputs_after : Moved left right (get_or inputs v past_bag ∷ get_or inputs w past_bag ∷ []) left' right' (b ∷ a ∷ [])
          → BagsAfter P inputs outputs left right left' right' values (set (set inputs v b) w a) outputs
          (set (set (map (held_by left right values) (take P inputs)) v (held_by left' right' values b)) w (held_by left' right' values a))
          (map (held_by left right values) (take P outputs))
      inputs_after moved =
          let all = two_after bags pool values values v w (input_at enough v there) (input_at enough w here) (input_inside enough v there)
          (input_inside enough w here) (λ (e : v ≡ w). off (sym e)) moved (λ x h c. refl) in
          let put = ap (λ (l : List declared.Bag). set l w a) (input_set enough v there b) ∙ input_set (enough_input enough v b) w here a in
          let held = held_by left right values in
          after_both P (rw put at all.0)
          (rw put at all.1
          ∙ ap (λ (l : List Bag). set l w (held_by left' right' values a)) (input_put enough held v there (held_by left' right' values b))
          ∙ set-append_left (set (map held (take P inputs)) v (held_by left' right' values b)) (map held (take P outputs)) w (held_by left' right' values a)
          (simp length-set (rw (before_long enough held) here)))
          (simp length-set enough.inputs_there)
          (simp length-set (before_long enough held))

      -- and with two output bags
      pub outputs_after : Moved left right (get_or outputs v past_bag ∷ get_or outputs w past_bag ∷ []) left' right' (b ∷ a ∷ [])
          → BagsAfter P inputs outputs left right left' right' values inputs (set (set outputs v b) w a)
          (map (held_by left right values) (take P inputs))
          (set (set (map (held_by left right values) (take P outputs)) v (held_by left' right' values b)) w (held_by left' right' values a))
      outputs_after moved =
          let all = two_after bags pool values values (P + v) (P + w) (output_at enough v there) (output_at enough w here) (output_inside enough v there)
          (output_inside enough w here) (λ (e : P + v ≡ P + w). off (omega arith)) moved (λ x h c. refl) in
          let put = ap (λ (l : List declared.Bag). set l (P + w) a) (output_set enough v there b) ∙ output_set (enough_output enough v b) w here a in
          let held = held_by left right values in
          after_both P (rw put at all.0)
          (rw put at all.1
          ∙ ap (λ (l : List Bag). set l (P + w) (held_by left' right' values a)) (output_put enough held v (held_by left' right' values b))
          ∙ ap (λ (k : ℕ). set (map held (take P inputs) ++ set (map held (take P outputs)) v (held_by left' right' values b)) (k + w) (held_by left' right' values a))
          (sym (before_long enough held))
          ∙ set_second (map held (take P inputs)) (set (map held (take P outputs)) v (held_by left' right' values b)) w (held_by left' right' values a))
          enough.inputs_there
          (before_long enough held)

-- Facts about the numbers of answers that are enums: no refusal has the number of success, and what leaves by a `?` is the refusal that it met.
use mathlib.Core.Path.{◌≡◌, refl, sym, ap, ◌∙◌}
use mathlib.Core.Bool.{Bool, true, false, not, true≢false}
use Prim.Native.Nat.{◌<◌}
use native.Mathlib.Omega.{arith}
use Rattle.std.specs.Prelude.{Result, Ok, Err, IsErrAnd}
use Rattle.std.specs.Result.{result_eq}
use Rattle.numbers.specs.Told.{number_of, told}
use Rattle.numbers.specs.declared.refused.Refused.{Refused}
use Rattle.numbers.specs.declared.refused.Refused.TheVariants.{BadLength, BadSize, BadTarget, BadIndex, Repeated, Unreached}
use Rattle.numbers.specs.declared.refused.Refused.TheVariants.{BadSource, BadWorkers, BadSchedule, BadResult, BadRows, BadSleepers, ShortList}

-- a refusal's number is above 0
pub number_positive : (refused : Refused) → 0 < number_of refused
number_positive BadLength = omega arith
number_positive BadSize = omega arith
number_positive BadTarget = omega arith
number_positive BadIndex = omega arith
number_positive Repeated = omega arith
number_positive Unreached = omega arith
number_positive BadSource = omega arith
number_positive BadWorkers = omega arith
number_positive BadSchedule = omega arith
number_positive BadResult = omega arith
number_positive BadRows = omega arith
number_positive BadSleepers = omega arith
number_positive ShortList = omega arith

-- so it is not 0
pub number_some : (refused : Refused) → number_of refused ≡ 0 → ⊥
number_some refused e = let p = number_positive refused in omega arith

-- what leaves by a `?`
pub left_by : {T : Type 0} (refused : Refused) (r : Result T Refused) → IsErrAnd r (λ x. x ≡ refused) → r ≡ Err refused
left_by refused (Ok value) h = absurd h
left_by refused (Err other) h = ap Err h

-- An answer without a value, held against that of a call that turned nothing down.
module _ (same_unit : Unit {0} → Unit {0} → Bool) (same : Refused → Refused → Bool) where
  -- where they are equal, its number is 0
  pub whole_told : (r : Result (Unit {0}) Refused) → result_eq same_unit same r (Ok tt) ≡ true → told r ≡ 0
  whole_told (Ok value) e = refl
  whole_told (Err refused) e = absurd (true≢false (sym e))

  -- and where they differ, it is another
  pub broken_told : (r : Result (Unit {0}) Refused) → (same_unit tt tt ≡ true) → result_eq same_unit same r (Ok tt) ≡ false → told r ≡ 0 → ⊥
  broken_told (Ok value) t e = absurd (true≢false (sym t ∙ e))
  broken_told (Err refused) t e = number_some refused

  -- the same of a test that they differ
  pub whole_same : (r : Result (Unit {0}) Refused) → not (result_eq same_unit same r (Ok tt)) ≡ false → told r ≡ 0
  whole_same (Ok value) e = refl
  whole_same (Err refused) e = absurd (true≢false e)

  pub broken_other : (r : Result (Unit {0}) Refused) → (same_unit tt tt ≡ true) → not (result_eq same_unit same r (Ok tt)) ≡ true → told r ≡ 0 → ⊥
  broken_other (Ok value) t e = absurd (true≢false (sym e ∙ ap not t))
  broken_other (Err refused) t e = number_some refused

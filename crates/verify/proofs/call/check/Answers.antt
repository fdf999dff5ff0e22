-- `verify::call::check` meets its contract: each return is one of the ways out, and all that is promised follows from its outcome.
use mathlib.Core.Path.{◌≡◌, refl}
use Prim.Native.Nat.{ℕ}
use Rattle.numbers.proofs.Numbering.{number_some, left_by}
use Rattle.graph.specs.Steps.{Unchained}
use Rattle.verify.specs.Check.{CheckLent, lent_lengths, outcome_of_check}
use Rattle.verify.specs.Promise.{lent_lists, check_exit, Judged}
use Rattle.verify.proofs.JudgeFacts.{EarlyPassed, early_passed}
use Rattle.verify.proofs.CallFacts.{call_judged, check_early_lem, check_chains, check_ready, check_wrong, check_right}
use Rattle.verify.proofs.call.check.Goals.{Start, In_ok-survey, In_ok-unchain}
use Rattle.verify.proofs.call.check.Goals as goal

-- What a call promises: the outcome, and what follows from it.
module _ (s : Start) where
  -- the lists that were lent for writing
  abbrev lent : CheckLent
  lent = let a = s.args in lent_lists a.offsets.now a.targets.now a.marks.now

  -- both clauses
  abbrev Promised : ℕ → CheckLent → Type 0
  Promised number after =
      let a = s.args in record {
        marks_after : check_exit number after ≡ outcome_of_check a.file.now a.source a.distances.now a.parents.now lent;
        judged : Judged a.file.now a.source a.distances.now a.parents.now lent number;
      }

  -- the second follows
  abbrev promised : {number : ℕ} {after : CheckLent} → check_exit number after ≡ outcome_of_check s.args.file.now s.args.source s.args.distances.now s.args.parents.now lent → Promised number after
  promised e = let a = s.args in record { marks_after = e; judged = call_judged a.file.now a.source a.distances.now a.parents.now lent e }

pub returns-in_err-survey : goal.returns-in_err-survey
returns-in_err-survey c =
    let a = c.args in
    let refused = c.in_err-survey.field-0.0 in
    let s = (goal.at.returns-in_err-survey c).Start in
    rw (left_by refused c.from_residual.result c.from_residual.ensures.1)
    (promised s (check_early_lem a.file.now a.source a.distances.now a.parents.now (lent s) c.in_err-survey.ensures.value (number_some refused)))

-- the tests before the chains are passed
passed : (c : In_ok-survey) → let a = c.args in
    EarlyPassed a.file.now a.source (lent_lengths a.distances.now a.parents.now (lent_lists a.offsets.now a.targets.now a.marks.now))
    (record { number = 0; vertices = c.in_ok-survey.survey.vertices; edges = c.in_ok-survey.survey.edges })
passed c = let a = c.args in early_passed a.file.now a.source (lent_lengths a.distances.now a.parents.now (lent_lists a.offsets.now a.targets.now a.marks.now)) c.in_ok-survey.ensures.value refl

pub unchain-requires : goal.unchain-requires
unchain-requires c =
    let long = (passed (goal.at.unchain-requires c).In_ok-survey).long in
    record { offsets_long = long.offsets_there; targets_long = long.targets_there; marks_long = long.marks_there }

pub returns-in_err-unchain : goal.returns-in_err-unchain
returns-in_err-unchain c =
    let a = c.args in
    let refused = c.in_err-unchain.field-0.0 in
    let s = (goal.at.returns-in_err-unchain c).Start in
    rw (left_by refused c.from_residual-in_err-unchain.result c.from_residual-in_err-unchain.ensures.1)
    (promised s (check_chains a.file.now a.source a.distances.now a.parents.now (lent s) c.in_ok-survey.ensures.value refl
    (rw c.in_ok-survey.ensures.same_file at c.in_err-unchain.ensures) (number_some refused)))

-- and those of the chains
walked : (c : In_ok-unchain) → let a = c.args in
    Unchained a.file.now c.in_ok-survey.survey.edges 0 a.offsets.now a.targets.now a.marks.now c.unchain.new.offsets c.unchain.new.targets c.unchain.new.marks
walked c = rw c.in_ok-survey.ensures.same_file at c.in_ok-unchain.ensures

pub result_wrong_in-requires : goal.result_wrong_in-requires
result_wrong_in-requires c =
    let a = c.args in
    check_ready a.file.now a.source a.distances.now a.parents.now (lent (goal.at.result_wrong_in-requires c).Start) c.in_ok-survey.ensures.value refl
    (walked (goal.at.result_wrong_in-requires c).In_ok-unchain) refl

pub returns-then-result_wrong_in : goal.returns-then-result_wrong_in
returns-then-result_wrong_in c =
    let a = c.args in
    let s = (goal.at.returns-then-result_wrong_in c).Start in
    promised s (check_wrong a.file.now a.source a.distances.now a.parents.now (lent s) c.in_ok-survey.ensures.value refl
    (walked (goal.at.returns-then-result_wrong_in c).In_ok-unchain) refl c.result_wrong_in.ensures c.if-result_wrong_in.true)

pub returns : goal.returns
returns c =
    let a = c.args in
    let s = (goal.at.returns c).Start in
    promised s (check_right a.file.now a.source a.distances.now a.parents.now (lent s) c.in_ok-survey.ensures.value refl
    (walked (goal.at.returns c).In_ok-unchain) refl c.result_wrong_in.ensures c.if-result_wrong_in.false)

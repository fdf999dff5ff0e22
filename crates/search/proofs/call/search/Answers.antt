-- `search::call::search` meets its contract: each return is one of the ways out, and all that is promised follows from its outcome.
use mathlib.Core.Path.{◌≡◌, refl}
use Rattle.numbers.proofs.Numbering.{number_some, left_by}
use Rattle.graph.specs.Steps.{Unchained}
use Rattle.model.specs.Call.{Answer, Lent, lengths_of, outcome_of_search}
use Rattle.search.specs.Promise.{lent_lists, search_exit, Kept}
use Rattle.search.proofs.JudgeFacts.{early_passed}
use Rattle.search.proofs.CallFacts.{search_early, search_chains, search_playable, search_played}
use Rattle.search.proofs.KeptFacts.{call_keeps}
use Rattle.search.proofs.call.search.Goals.{Start, In_ok-survey, In_ok-unchain}
use Rattle.search.proofs.call.search.Goals as goal

-- What a call promises: the outcome, and what follows from it.
module _ (s : Start) where
  -- the lists that were lent
  abbrev lent : Lent
  lent =
      let a = s.args in
      lent_lists a.offsets.now a.targets.now a.marks.now a.distances.now a.parents.now a.histogram.now a.left.now a.right.now
      a.values.now

  -- both clauses
  abbrev Promised : Answer → Lent → Type 0
  Promised answer after =
      let a = s.args in record {
        values_after : search_exit answer after ≡ outcome_of_search a.file.now a.source a.workers a.schedule.now lent;
        kept : Kept a.file.now a.source a.workers a.schedule.now lent answer after;
      }

  -- the second follows
  abbrev promised : {answer : Answer} {after : Lent} → search_exit answer after ≡ outcome_of_search s.args.file.now s.args.source s.args.workers s.args.schedule.now lent
      → Promised answer after
  promised e = let a = s.args in record { values_after = e; kept = call_keeps a.file.now a.source a.workers a.schedule.now lent e }

pub returns-in_err-survey : goal.returns-in_err-survey
returns-in_err-survey c =
    let a = c.args in
    let refused = c.in_err-survey.field-0.0 in
    let s = (goal.at.returns-in_err-survey c).Start in
    rw (left_by refused c.from_residual.result c.from_residual.ensures.1)
    (promised s (search_early a.file.now a.source a.workers a.schedule.now (lent s) c.in_err-survey.ensures.value (number_some refused)))

pub unchain-requires : goal.unchain-requires
unchain-requires c =
    let a = c.args in
    let long = (early_passed a.file.now a.source a.workers a.schedule.now (lengths_of (lent (goal.at.unchain-requires c).Start)) c.in_ok-survey.ensures.value refl).long in
    record { offsets_long = long.offsets_there; targets_long = long.targets_there; marks_long = long.marks_there }

pub returns-in_err-unchain : goal.returns-in_err-unchain
returns-in_err-unchain c =
    let a = c.args in
    let refused = c.in_err-unchain.field-0.0 in
    let s = (goal.at.returns-in_err-unchain c).Start in
    rw (left_by refused c.from_residual-in_err-unchain.result c.from_residual-in_err-unchain.ensures.1)
    (promised s (search_chains a.file.now a.source a.workers a.schedule.now (lent s) c.in_ok-survey.ensures.value refl
    (rw c.in_ok-survey.ensures.same_file at c.in_err-unchain.ensures) (number_some refused)))

-- the tests before the chains are passed, and those of the chains
walked : (c : In_ok-unchain) → let a = c.args in
    Unchained a.file.now c.in_ok-survey.survey.edges 0 a.offsets.now a.targets.now a.marks.now c.unchain.new.offsets c.unchain.new.targets c.unchain.new.marks
walked c = rw c.in_ok-survey.ensures.same_file at c.in_ok-unchain.ensures

pub play-requires : goal.play-requires
play-requires c =
    let a = c.args in
    search_playable a.file.now a.source a.workers a.schedule.now (lent (goal.at.play-requires c).Start) c.in_ok-survey.ensures.value refl
    (walked (goal.at.play-requires c).In_ok-unchain) refl

pub returns : goal.returns
returns c =
    let a = c.args in
    let s = (goal.at.returns c).Start in
    promised s (search_played a.file.now a.source a.workers a.schedule.now (lent s) c.in_ok-survey.ensures.value refl
    (walked (goal.at.returns c).In_ok-unchain) refl c.play.ensures)

-- `search::call::lengths_short` meets its contract: each return has the tests that lead to it.
use mathlib.Core.Path.{refl, sym, ◌∙◌}
use borrow.Author.Tests.{lt-ltb, le-ltb}
use Rattle.search.proofs.JudgeFacts.{short_by}
use Rattle.search.specs.Input.{lengths_in}
use Rattle.search.proofs.call.lengths_short.Goals.{then-lengths-n-via-then-lengths-n, then-lengths-n-via-else-lengths-n+then-lengths-n-2}
use Rattle.search.proofs.call.lengths_short.Goals.{then-lengths-places-via-then-lengths-places, then-lengths-places-via-else-lengths-places+then-lengths-places-2}
use Rattle.search.proofs.call.lengths_short.Goals as goal

pub returns-then-rows_short : goal.returns-then-rows_short
returns-then-rows_short c =
    let a = c.args in
    short_by a.survey.now.vertices a.survey.now.edges a.workers (lengths_in a.lengths) (sym c.rows_short.ensures ∙ c.if-rows_short.true) refl refl refl refl refl refl

pub returns-then-lengths-n : goal.returns-then-lengths-n
returns-then-lengths-n c =
    let a = c.args in
    let rows = sym c.rows_short.ensures ∙ c.if-rows_short.false in
    elim c.then-lengths-n.branch [
      | then-lengths-n-via-then-lengths-n w ↦
          short_by a.survey.now.vertices a.survey.now.edges a.workers (lengths_in a.lengths) rows (lt-ltb _ _ w.if-lengths-n.true) refl refl refl refl refl
      | then-lengths-n-via-else-lengths-n+then-lengths-n-2 w ↦
          short_by a.survey.now.vertices a.survey.now.edges a.workers (lengths_in a.lengths) rows (le-ltb _ _ w.if-lengths-n.false) (lt-ltb _ _ w.if-lengths-n-2.true) refl refl refl refl
    ]

pub returns-then-lengths-n-3 : goal.returns-then-lengths-n-3
returns-then-lengths-n-3 c =
    let a = c.args in
    let rows = sym c.rows_short.ensures ∙ c.if-rows_short.false in
    short_by a.survey.now.vertices a.survey.now.edges a.workers (lengths_in a.lengths) rows (le-ltb _ _ c.if-lengths-n.false) (le-ltb _ _ c.if-lengths-n-2.false) (lt-ltb _ _ c.if-lengths-n-3.true) refl refl refl

pub returns-then-lengths-places : goal.returns-then-lengths-places
returns-then-lengths-places c =
    let a = c.args in
    let rows = sym c.rows_short.ensures ∙ c.if-rows_short.false in
    let distances = le-ltb _ _ c.if-lengths-n.false in
    let parents = le-ltb _ _ c.if-lengths-n-2.false in
    let histogram = le-ltb _ _ c.if-lengths-n-3.false in
    elim c.then-lengths-places.branch [
      | then-lengths-places-via-then-lengths-places w ↦
          short_by a.survey.now.vertices a.survey.now.edges a.workers (lengths_in a.lengths) rows distances parents histogram (lt-ltb _ _ w.if-lengths-places.true) refl refl
      | then-lengths-places-via-else-lengths-places+then-lengths-places-2 w ↦
          short_by a.survey.now.vertices a.survey.now.edges a.workers (lengths_in a.lengths) rows distances parents histogram (le-ltb _ _ w.if-lengths-places.false) (lt-ltb _ _ w.if-lengths-places-2.true) refl
    ]

pub returns : goal.returns
returns c =
    let a = c.args in
    let rows = sym c.rows_short.ensures ∙ c.if-rows_short.false in
    short_by a.survey.now.vertices a.survey.now.edges a.workers (lengths_in a.lengths) rows (le-ltb _ _ c.if-lengths-n.false) (le-ltb _ _ c.if-lengths-n-2.false) (le-ltb _ _ c.if-lengths-n-3.false)
    (le-ltb _ _ c.if-lengths-places.false) (le-ltb _ _ c.if-lengths-places-2.false) refl

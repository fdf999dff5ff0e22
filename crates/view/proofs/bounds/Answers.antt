-- `view::bounds` meets its contract: each way out rewrites the view's test with the tests that led there.
use borrow.Author.Tests.{lt-ltb, le-ltb}
use mathlib.Core.Bool.{or-true}
use Rattle.graph.specs.Links.{out_of_view}
use Rattle.view.proofs.InView.{test_falls}
use Rattle.view.proofs.bounds.Goals as goal

pub returns-then-offsets-lt2 : goal.returns-then-offsets-lt2
unfolding out_of_view
returns-then-offsets-lt2 c = simp (lt-ltb _ _ c.if-offsets-lt2.true)

pub returns-then-offsets-vertex : goal.returns-then-offsets-vertex
unfolding out_of_view
returns-then-offsets-vertex c = simp (le-ltb _ _ c.if-offsets-lt2.false, le-ltb _ _ c.if-offsets-vertex.true)

pub returns-then-past : goal.returns-then-past
unfolding out_of_view
returns-then-past c = simp (← c.element-end.ensures.value, lt-ltb _ c.element-end.result c.if-past.true, or-true)

pub returns : goal.returns
returns c =
    let start = c.element-start.ensures.value in
    let end = c.element-end.ensures.value in (
      test_falls _ _ _ _ _ c.if-offsets-lt2.false c.if-offsets-vertex.false start end c.if-past.false,
      start,
      end,
      c.if-past.false,
    )

-- `writer::index_after` meets its contract: each way out rewrites the index with the test that led there.
use mathlib.Core.Path.{refl}
use native.Mathlib.Numerals.{add-one}
use borrow.Author.Tests.{eq-eqb, ne_eqb}
use Rattle.writer.specs.Steps.{index_after}
use borrow.Author.Rules.{rules}
use Rattle.writer.proofs.index_after.Goals as goal

pub returns-then-k-end : goal.returns-then-k-end
unfolding index_after
returns-then-k-end c = record { value = simp (eq-eqb _ _ c.if-k-end.true); upper_bound = search rules }

pub returns : goal.returns
unfolding index_after
returns c = record { value = simp (ne_eqb _ _ c.if-k-end.false, add-one) refl; upper_bound = search rules }

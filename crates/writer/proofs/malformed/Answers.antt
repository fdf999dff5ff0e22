-- `writer::malformed` meets its contract: each way out rewrites the tests with what led there.
use mathlib.Core.Bool.{true, false, not, ◌||◌, or-false}
use mathlib.Core.Path.{◌≡◌, sym, ◌∙◌}
use mathlib.Core.List.{List}
use Prim.Native.Nat.{ℕ, ◌-◌}
use native.Mathlib.Numerals.{sub-one}
use lib.Dec.{eqb}
use lib.ListN.{length, get_or}
use borrow.Author.Tests.{eq-eqb, ne_eqb}
use Rattle.lists.specs.Lists.{falls_from, reaches}
use Rattle.graph.specs.Read.{outside_sizes}
use Rattle.graph.specs.Write.{row_count}
use Rattle.graph.specs.Write.{malformed as Write·malformed}
use Rattle.writer.proofs.malformed.Goals as goal

module _ (offsets targets : List ℕ) where
  -- no offset at all
  no_offset : length offsets ≡ 0 → true ≡ Write·malformed offsets targets
  unfolding Write·malformed outside_sizes
  no_offset h = rw h

  module _ (some : length offsets ≡ 0 → ⊥) where
    -- with an offset, the tests that the code makes
    tests : Write·malformed offsets targets
        ≡ (outside_sizes (length offsets - 1) (length targets)
        || falls_from 0 offsets
        || not (eqb (get_or offsets 0 0) 0)
        || not (eqb (get_or offsets (length offsets - 1) 0) (length targets))
        || reaches (length offsets - 1) targets)
    unfolding Write·malformed
    tests =
        let one : length offsets - 1 ≡ row_count offsets = sub-one (length offsets) in
        simp (ne_eqb (length offsets) 0 some, or-false, one)

    outside : outside_sizes (length offsets - 1) (length targets) ≡ true → true ≡ Write·malformed offsets targets
    outside h = sym (tests ∙ simp h)

    module _ (sizes : outside_sizes (length offsets - 1) (length targets) ≡ false) where
      fall : falls_from 0 offsets ≡ true → true ≡ Write·malformed offsets targets
      fall h = sym (tests ∙ simp (sizes, h))

      module _ (rise : falls_from 0 offsets ≡ false) where
        not_zero : (get_or offsets 0 0 ≡ 0 → ⊥) → true ≡ Write·malformed offsets targets
        not_zero h = sym (tests ∙ simp (sizes, rise, ne_eqb _ _ h))

        module _ (from : get_or offsets 0 0 ≡ 0) where
          not_all : (get_or offsets (length offsets - 1) 0 ≡ length targets → ⊥) → true ≡ Write·malformed offsets targets
          not_all h = sym (tests ∙ simp (sizes, rise, eq-eqb _ _ from, ne_eqb _ _ h))

          rest : get_or offsets (length offsets - 1) 0 ≡ length targets → reaches (length offsets - 1) targets ≡ Write·malformed offsets targets
          rest h = sym (tests ∙ simp (sizes, rise, eq-eqb _ _ from, eq-eqb _ _ h))

pub returns-then-offsets-eq0 : goal.returns-then-offsets-eq0
returns-then-offsets-eq0 c = no_offset _ _ c.if-offsets-eq0.true

pub returns-then-outside_sizes : goal.returns-then-outside_sizes
returns-then-outside_sizes c = outside _ _ c.if-offsets-eq0.false (sym c.outside_sizes.ensures ∙ c.if-outside_sizes.true)

pub returns-then-falls : goal.returns-then-falls
returns-then-falls c = fall _ _ c.if-offsets-eq0.false (sym c.outside_sizes.ensures ∙ c.if-outside_sizes.false) (sym c.falls.ensures ∙ c.if-falls.true)

pub returns-then-element-ne0 : goal.returns-then-element-ne0
returns-then-element-ne0 c =
    not_zero _ _ c.if-offsets-eq0.false (sym c.outside_sizes.ensures ∙ c.if-outside_sizes.false)
    (sym c.falls.ensures ∙ c.if-falls.false) (λ z. c.if-element-ne0.true (c.element.ensures.value ∙ z))

pub returns-then-element-targets : goal.returns-then-element-targets
returns-then-element-targets c =
    not_all _ _ c.if-offsets-eq0.false (sym c.outside_sizes.ensures ∙ c.if-outside_sizes.false)
    (sym c.falls.ensures ∙ c.if-falls.false) (sym c.element.ensures.value ∙ c.if-element-ne0.false)
    (λ z. c.if-element-targets.true (c.element-2.ensures.value ∙ z))

pub returns : goal.returns
returns c =
    c.any_target_reaches.ensures
    ∙ rest _ _ c.if-offsets-eq0.false (sym c.outside_sizes.ensures ∙ c.if-outside_sizes.false)
    (sym c.falls.ensures ∙ c.if-falls.false) (sym c.element.ensures.value ∙ c.if-element-ne0.false)
    (sym c.element-2.ensures.value ∙ c.if-element-targets.false)

-- A whole call's outcome, one fact for each way out, and what is promised besides.
use mathlib.Core.Path.{◌≡◌, refl, sym, ap, ◌∙◌}
use mathlib.Core.Bool.{cond}
use mathlib.Core.List.{List, [], ◌∷◌, ◌++◌}
use Prim.Native.Nat.{ℕ, ◌≤◌, ◌<◌}
use native.Mathlib.Omega.{arith}
use lib.Dec.{eqb}
use lib.ListN.{length, take}
use borrow.Author.Tests.{lt-ltb, le-ltb, ne_eqb, eq-eqb}
use Rattle.numbers.specs.Numbers.{success, short_list}
use Rattle.numbers.specs.Refusals.{Refusal, ◌gives◌, first}
use Rattle.numbers.proofs.First.{Positive, first_stop, first_skip, first_append, first_append_stop, first_split}
use Rattle.lists.specs.Lists.{overlay}
use Rattle.lists.proofs.Overlay.{overlay_front}
use Rattle.graph.specs.File.{vertex_count}
use Rattle.verify.specs.Check.{CheckLent, CheckOutcome, check_refusals, check_number, outcome_of_check}
use Rattle.verify.specs.Promise.{check_exit}
use Rattle.text.specs.Printed.{Prints}
use Rattle.text.proofs.PrintFacts.{prints_start}
use Rattle.page.specs.Layout.{page_text, page_need}
use Rattle.page.specs.Columns.{read_pages}
use Rattle.page.specs.Page.{page_short, page_refusals, page_answer, PageOutcome, outcome_of_page}
use Rattle.page.specs.Promise.{page_exit, OnPaper}
use Rattle.verify.proofs.Judging.{checks_positive}
use Rattle.page.proofs.ReadBack.{accepted, accepted_length, accepted_read}

module _ (file : List ℕ) (source : ℕ) (distances parents : List ℕ) (lent : CheckLent) where
  -- the checker's tests
  abbrev checks : List Refusal
  checks = check_refusals file source distances parents lent

  -- they have positive numbers
  positive : Positive checks
  positive = checks_positive file source distances parents lent

  -- the checker's number
  abbrev checked : ℕ
  checked = check_number file source distances parents lent

  -- it is that of its tests
  checked_first : checked ≡ first checks
  unfolding check_number
  checked_first = refl

  -- The call's number, by the page list's length.
  module _ (room : ℕ) where
    -- the call's number
    abbrev number : ℕ
    number = page_answer file source distances parents lent room

    -- the test of the page list
    abbrev last : List Refusal
    last = page_short file room gives short_list ∷ []

    -- the checker's tests come first
    number_parts : number ≡ first (checks ++ last)
    unfolding page_answer page_refusals
    number_parts = refl

    -- with 0 the checker's number is 0
    pub number_passed : number ≡ success → checked ≡ success
    number_passed z = checked_first ∙ (first_split checks last positive (sym number_parts ∙ z)).0

    -- a refusal of the checker's is the call's
    pub number_stopped : (checked ≡ success → ⊥) → number ≡ checked
    number_stopped h =
        let found : first checks ≡ 0 → ⊥ = λ z. h (checked_first ∙ z) in
        number_parts ∙ first_append_stop checks last (omega arith) ∙ sym checked_first

    -- past the checker the number is that of the page list
    number_last : checked ≡ success → number ≡ first last
    number_last z = number_parts ∙ first_append checks last positive (sym checked_first ∙ z)

    -- 20
    pub number_short : checked ≡ success → room < page_need (vertex_count file) → number ≡ short_list
    unfolding page_short
    number_short z h = number_last z ∙ first_stop (page_short file room) short_list [] (lt-ltb room (page_need (vertex_count file)) h)

    -- or 0
    pub number_long : checked ≡ success → page_need (vertex_count file) ≤ room → number ≡ success
    unfolding page_short first
    number_long z h = number_last z ∙ first_skip (page_short file room) short_list [] (le-ltb room (page_need (vertex_count file)) h)

  module _ (bytes : List ℕ) where
    -- an outcome by its number and its lists
    outcome_by : {k : ℕ} {after : CheckLent} {written : List ℕ} → number (length bytes) ≡ k → after ≡ (outcome_of_check file source distances parents lent).lent
        → written ≡ cond (eqb k success) (overlay (page_text (vertex_count file) distances parents) bytes) bytes
        → page_exit k after written ≡ outcome_of_page file source distances parents lent bytes
    unfolding outcome_of_page
    outcome_by {k} {after} {written} e l w =
        (λ i. page_exit k (l i) (w i))
        ∙ ap (λ (x : ℕ). page_exit x (outcome_of_check file source distances parents lent).lent
        (cond (eqb x success) (overlay (page_text (vertex_count file) distances parents) bytes) bytes)) (sym e)

    -- The ways out, after the checker's answer.
    module _ {r : ℕ} {after : CheckLent} (told : check_exit r after ≡ outcome_of_check file source distances parents lent) where
      -- its number
      same_number : r ≡ checked
      unfolding outcome_of_check
      same_number = ap (λ (o : CheckOutcome). o.number) told

      -- its lists
      same_lists : after ≡ (outcome_of_check file source distances parents lent).lent
      same_lists = ap (λ (o : CheckOutcome). o.lent) told

      -- a refusal of the checker's
      pub page_refused : (r ≡ success → ⊥) → page_exit r after bytes ≡ outcome_of_page file source distances parents lent bytes
      page_refused h = outcome_by (number_stopped (length bytes) (λ z. h (same_number ∙ z)) ∙ sym same_number) same_lists (rw (ne_eqb r success h))

      module _ (passed : r ≡ success) {n : ℕ} (counted : n ≡ vertex_count file) where
        -- a page list that is too short
        pub page_short_lem : length bytes < page_need n → page_exit short_list after bytes ≡ outcome_of_page file source distances parents lent bytes
        page_short_lem h = outcome_by (number_short (length bytes) (sym same_number ∙ passed) (omega arith)) same_lists refl

        -- or the pages are printed
        pub page_printed : {written : List ℕ} {at : ℕ} → page_need n ≤ length bytes → Prints (page_text n distances parents) bytes 0 written at
            → page_exit success after written ≡ outcome_of_page file source distances parents lent bytes
        page_printed h p =
            outcome_by (number_long (length bytes) (sym same_number ∙ passed) (omega arith)) same_lists
            ((p bytes [] (prints_start bytes)).laid ∙ ap (λ (k : ℕ). overlay (page_text k distances parents) bytes) counted)

    -- What is promised besides.

    -- the pages at the front of the page list
    front : checked ≡ success → take (page_need (vertex_count file)) (overlay (page_text (vertex_count file) distances parents) bytes)
        ≡ page_text (vertex_count file) distances parents
    front z = overlay_front (page_text (vertex_count file) distances parents) bytes (page_need (vertex_count file)) (accepted_length file source distances parents lent z)

    -- follows from the outcome
    pub page_on_paper : {r : ℕ} {after : CheckLent} {written : List ℕ} → page_exit r after written ≡ outcome_of_page file source distances parents lent bytes
        → OnPaper file source distances parents r written
    unfolding outcome_of_page
    page_on_paper {r} {after} {written} e =
        let same : r ≡ number (length bytes) = ap (λ (o : PageOutcome). o.number) e in
        let text : List ℕ = page_text (vertex_count file) distances parents in
        let laid : written ≡ cond (eqb (number (length bytes)) success) (overlay text bytes) bytes = ap (λ (o : PageOutcome). o.bytes) e in
        record {
          right = λ z. (accepted file source distances parents lent (number_passed (length bytes) (sym same ∙ z))).1;
          read_back = λ z.
              let zeroth = sym same ∙ z in
              let passed = number_passed (length bytes) zeroth in
              ap (λ (l : List ℕ). read_pages (take (page_need (vertex_count file)) l)) (laid ∙ rw (eq-eqb (number (length bytes)) success zeroth))
              ∙ ap read_pages (front passed)
              ∙ accepted_read file source distances parents lent passed;
        }

-- The program's output: the line of a refusal, or the pages, by what the call for the pages answered.
use mathlib.Core.Path.{◌≡◌, refl, sym, ap, ◌∙◌}
use mathlib.Core.Bool.{cond}
use mathlib.Core.List.{List, [], ◌++◌}
use Prim.Native.Nat.{ℕ, ◌≤◌}
use native.Mathlib.Decide.{ℕ_discrete}
use native.Mathlib.Omega.{arith}
use lib.Dec.{eqb}
use lib.ListN.{length}
use borrow.Author.Tests.{ne_eqb, eq-eqb}
use Rattle.numbers.specs.Numbers.{max_vertices, success}
use Rattle.numbers.specs.Refusals.{first}
use Rattle.numbers.proofs.First.{Positive, first_append, first_append_stop}
use Rattle.lists.specs.Lists.{overlay}
use Rattle.graph.specs.File.{vertex_count}
use Rattle.verify.specs.Check.{CheckLent, check_number}
use Rattle.text.specs.Output.{respond_exit}
use Rattle.text.specs.Printed.{Printed, Prints}
use Rattle.text.proofs.OutputFacts.{respond_printed}
use Rattle.text.proofs.PrintFacts.{prints_start}
use Rattle.page.specs.Layout.{page_text, page_need}
use Rattle.page.specs.Page.{page_answer, page_refusals, PageOutcome, outcome_of_page}
use Rattle.page.specs.Promise.{page_exit}
use Rattle.page.proofs.CallFacts.{number_passed, number_stopped, number_long}
use Rattle.page.proofs.ReadBack.{accepted_few, accepted_length}
use Rattle.page_report.specs.Input.{source_in, distances_in, parents_in, file_in, own_refusals, program_lists}
use Rattle.page_report.specs.Respond.{output_places, respond_refusals, number_line, response, outcome_of_respond}

-- A call for pages with room for any.
module _ (file : List ℕ) (source : ℕ) (distances parents : List ℕ) (lent : CheckLent) where
  -- the pages have no more bytes than those of the most vertices, and no fewer than said
  pages_fit : check_number file source distances parents lent ≡ success
      → (page_need (vertex_count file) ≤ output_places) × (length (page_text (vertex_count file) distances parents) ≡ page_need (vertex_count file))
  pages_fit z =
      let few = accepted_few file source distances parents lent z in
      (omega (arith, few), accepted_length file source distances parents lent z)

  -- so more room changes nothing
  same_room : (room : ℕ) → output_places ≤ room
      → page_answer file source distances parents lent room ≡ page_answer file source distances parents lent output_places
  same_room room h = elim (ℕ_discrete (check_number file source distances parents lent) success) [
    | yes z ↦
        number_long file source distances parents lent room z (omega (arith, pages_fit z))
        ∙ sym (number_long file source distances parents lent output_places z (omega (arith, pages_fit z)))
    | no apart ↦
        number_stopped file source distances parents lent room apart
        ∙ sym (number_stopped file source distances parents lent output_places apart)
  ]

-- The program's number.
module _ (input : List ℕ) where
  -- the pages' number, with the program's lists
  abbrev paged : ℕ → ℕ
  paged room = page_answer (file_in input) (source_in input) (distances_in input) (parents_in input) program_lists room

  -- the program's own tests come first
  number_parts : first (respond_refusals input)
      ≡ first (own_refusals input ++ page_refusals (file_in input) (source_in input) (distances_in input) (parents_in input) program_lists output_places)
  unfolding respond_refusals
  number_parts = refl

  -- they have positive numbers
  own_positive : Positive (own_refusals input)
  unfolding own_refusals
  own_positive = omega arith

  -- past them the number is that of the pages
  pub number_later : first (own_refusals input) ≡ success → first (respond_refusals input) ≡ paged output_places
  unfolding page_answer
  number_later e =
      number_parts
      ∙ first_append (own_refusals input)
      (page_refusals (file_in input) (source_in input) (distances_in input) (parents_in input) program_lists output_places) own_positive e

  -- the line of a refusal
  pub refusal_line : {number : ℕ} → first (respond_refusals input) ≡ number → (number ≡ success → ⊥) → response input ≡ number_line number
  unfolding response
  refusal_line {number} e h = rw (e, ne_eqb number success h)

  -- of the program's own
  pub own_line : {number : ℕ} → number ≡ first (own_refusals input) → (number ≡ success → ⊥) → response input ≡ number_line number
  own_line e h =
      let found : first (own_refusals input) ≡ 0 → ⊥ = λ z. h (e ∙ z) in
      refusal_line (number_parts ∙ first_append_stop (own_refusals input)
      (page_refusals (file_in input) (source_in input) (distances_in input) (parents_in input) program_lists output_places) (omega arith) ∙ sym e) h

  -- the pages
  pub pages_shown : first (respond_refusals input) ≡ success → response input ≡ page_text (vertex_count (file_in input)) (distances_in input) (parents_in input)
  unfolding response
  pages_shown e = rw (eq-eqb (first (respond_refusals input)) success e)

-- a call for the pages of the input's parts is the program's
pub paged_as : (input output : List ℕ) {source : ℕ} {file distances parents : List ℕ} {o : PageOutcome} → file ≡ file_in input → source ≡ source_in input
    → distances ≡ distances_in input → parents ≡ parents_in input → o ≡ outcome_of_page file source distances parents program_lists output
    → o ≡ outcome_of_page (file_in input) (source_in input) (distances_in input) (parents_in input) program_lists output
paged_as input output f s d p told = rw (← f, ← s, ← d, ← p) told

-- What is printed after the call for the pages.
module _ (input output : List ℕ) (passed : first (own_refusals input) ≡ success) (room : output_places ≤ length output) {r : ℕ} {after : CheckLent}
    {output' : List ℕ}
    (told : page_exit r after output' ≡ outcome_of_page (file_in input) (source_in input) (distances_in input) (parents_in input) program_lists output) where
  -- its number is the program's
  same_number : r ≡ paged input (length output)
  unfolding outcome_of_page
  same_number = ap (λ (o : PageOutcome). o.number) told

  shown_number : first (respond_refusals input) ≡ r
  shown_number =
      number_later input passed
      ∙ sym (same_room (file_in input) (source_in input) (distances_in input) (parents_in input) program_lists (length output) room)
      ∙ sym same_number

  -- with 0 n is within its size
  pub vertices_few : r ≡ success → vertex_count (file_in input) ≤ max_vertices
  vertices_few z =
      accepted_few (file_in input) (source_in input) (distances_in input) (parents_in input) program_lists
      (number_passed (file_in input) (source_in input) (distances_in input) (parents_in input) program_lists (length output) (sym same_number ∙ z))

  -- the output that it leaves
  left : output' ≡ cond (eqb r success) (overlay (page_text (vertex_count (file_in input)) (distances_in input) (parents_in input)) output) output
  unfolding outcome_of_page
  left = rw same_number (ap (λ (o : PageOutcome). o.bytes) told)

  -- a refusal: its line
  pub refused_printed : {output'' : List ℕ} {at : ℕ} → (r ≡ success → ⊥) → Prints (number_line r) output' 0 output'' at
      → Printed output (response input) output'' at
  refused_printed {output''} {at} h p =
      let kept : output' ≡ output = left ∙ rw (ne_eqb r success h) in
      rw (refusal_line input shown_number h) (p output [] (rw kept (prints_start output)))

  -- or the pages
  pub pages_printed : {n at : ℕ} → r ≡ success → n ≡ vertex_count (file_in input) → at ≡ page_need n → Printed output (response input) output' at
  pages_printed {n} {at} z count last =
      let text : List ℕ = page_text (vertex_count (file_in input)) (distances_in input) (parents_in input) in
      let checked = number_passed (file_in input) (source_in input) (distances_in input) (parents_in input) program_lists (length output) (sym same_number ∙ z) in
      let fit = pages_fit (file_in input) (source_in input) (distances_in input) (parents_in input) program_lists checked in
      rw (pages_shown input (shown_number ∙ z)) (record {
        laid = left ∙ rw (eq-eqb r success z);
        used = last ∙ ap page_need count ∙ sym fit.1;
        room = omega (arith, fit);
      })

-- The whole answer.
module _ (input output : List ℕ) where
  module _ {output' : List ℕ} {count : ℕ} (room : output_places ≤ length output) where
    -- a refusal of the program's own order
    pub own_printed : {number : ℕ} → number ≡ first (own_refusals input) → (number ≡ success → ⊥) → Prints (number_line number) output 0 output' count
        → (respond_exit count output' ≡ outcome_of_respond input output) × (count ≤ length output')
    own_printed e h p = respond_printed output_places (response input) output room (rw (own_line input e h) (p output [] (prints_start output)))

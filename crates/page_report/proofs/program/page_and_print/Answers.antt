-- `page_report::program::page_and_print` meets its contract: the words of the input copied, the call for the pages of the input's parts, and the line of
-- a refusal where it gives one.
use mathlib.Core.Path.{◌≡◌, refl, sym}
use mathlib.Core.List.{List}
use Prim.Native.Nat.{ℕ, ◌+◌, ◌*◌, ◌-◌, ◌≤◌}
use native.Mathlib.Omega.{arith}
use lib.ListN.{length, take, drop}
use lib.Seq.{length-take-le}
use borrow.Author.Rules.{part_to_end}
use Rattle.numbers.specs.Numbers.{max_vertices}
use Rattle.numbers.proofs.Numbering.{number_some}
use Rattle.graph.proofs.WordRuns.{count_as}
use Rattle.page.specs.Page.{PageOutcome, outcome_of_page}
use Rattle.page_report.specs.Input.{source_in, count_in, distances_in, parents_in, file_in, program_lists}
use Rattle.page_report.proofs.InputFacts.{OwnPassed, own_passed, words_front, file_as, distances_as, parents_as}
use Rattle.page_report.proofs.RespondFacts.{paged_as, vertices_few, refused_printed, pages_printed}
use Rattle.page_report.proofs.program.page_and_print.Goals.{After-page-paged, After-word-count, Start}
use Rattle.page_report.proofs.program.page_and_print.Goals as goal

-- the input passes the program's own order
passes : (c : Start) → OwnPassed c.args.input.now
passes c = own_passed c.args.input.now c.requires.input_value

-- the count that was read is the input's
counted : (c : After-word-count) → c.word-count.result ≡ count_in c.args.input.now
unfolding count_in
counted c = c.word-count.ensures.value

-- so it is within the lists
few : (c : After-word-count) → c.word-count.result ≤ max_vertices
few c = omega (arith, counted c, (passes (goal.at.After-word-count c).Start).few)

pub word-count-requires : goal.word-count-requires
word-count-requires c = omega (arith, (passes (goal.at.word-count-requires c).Start).there)

pub slice_bounds-page-end : goal.slice_bounds-page-end
slice_bounds-page-end c =
    sym (length-take-le c.word-count.result c.copy_words.new.list
    (omega (arith, few (goal.at.slice_bounds-page-end c).After-word-count, c.copy_words.auto.list)))

pub slice_bounds-page-end-2 : goal.slice_bounds-page-end-2
slice_bounds-page-end-2 c =
    sym (length-take-le c.word-count.result c.copy_words-2.new.list
    (omega (arith, few (goal.at.slice_bounds-page-end-2 c).After-word-count, c.copy_words-2.auto.list)))

-- the input
abbrev input_of : After-page-paged → List ℕ
input_of c = c.args.input.now

-- how many distances it has
abbrev count_of : After-page-paged → ℕ
count_of c = c.word-count.result

-- the file
abbrev file_of : After-page-paged → List ℕ
file_of c = take (length (input_of c) - (4 + 4 * count_of c)) (drop (4 + 4 * count_of c) (input_of c))

-- it is the input's
same_file : (c : After-page-paged) → file_of c ≡ file_in (input_of c)
same_file c = file_as (input_of c) c.word-count.ensures.value (part_to_end (input_of c) (4 + 4 * count_of c))

-- the call is the program's
told : (c : After-page-paged) {o : PageOutcome}
    → o ≡ outcome_of_page (file_of c) c.word.result (take (count_of c) c.copy_words.new.list)
    (take (count_of c) c.copy_words-2.new.list) program_lists c.args.output.now
    → o ≡ outcome_of_page (file_in (input_of c)) (source_in (input_of c)) (distances_in (input_of c)) (parents_in (input_of c)) program_lists c.args.output.now
unfolding source_in
told c = paged_as (input_of c) c.args.output.now (same_file c) c.word.ensures.value
    (distances_as (input_of c) c.word-count.ensures.value (words_front (input_of c) 2 (count_of c) _ c.copy_words.ensures))
    (parents_as (input_of c) c.word-count.ensures.value (words_front (input_of c) (2 + count_of c) (count_of c) _ c.copy_words-2.ensures))

pub returns-in-Err : goal.returns-in-Err
unfolding program_lists
returns-in-Err c =
    let s = (goal.at.returns-in-Err c).After-page-paged in
    refused_printed (input_of s) c.args.output.now c.requires.input_value c.requires.output_places_in_bounds (told s c.in-Err.ensures.bytes_after)
    (number_some c.in-Err.refused) (rw c.number.ensures at c.put_number_line.ensures)

pub page_need-requires : goal.page_need-requires
unfolding program_lists
page_need-requires c =
    let s = (goal.at.page_need-requires c).After-page-paged in
    omega (
      arith,
      count_as (same_file s) c.word-in-Ok.ensures.value,
      vertices_few (input_of s) c.args.output.now c.requires.input_value c.requires.output_places_in_bounds (told s c.in-Ok.ensures.bytes_after) refl,
    )

pub returns-in-Ok : goal.returns-in-Ok
unfolding program_lists
returns-in-Ok c =
    let s = (goal.at.returns-in-Ok c).After-page-paged in
    pages_printed (input_of s) c.args.output.now c.requires.input_value c.requires.output_places_in_bounds (told s c.in-Ok.ensures.bytes_after)
    refl (count_as (same_file s) c.word-in-Ok.ensures.value) c.page_need.ensures

-- `report::program::search_and_print` meets its contract: the search of the input's parts, line one, and the vertices' lines with 0 and 21.
use mathlib.Core.Path.{◌≡◌, sym, ap, ◌∙◌}
use mathlib.Core.List.{List}
use Prim.Native.Nat.{ℕ, ◌+◌, ◌-◌, ◌≤◌}
use native.Mathlib.Omega.{arith}
use lib.ListN.{length, take, drop}
use borrow.Author.Rules.{part_to_end}
use Rattle.graph.specs.File.{word}
use Rattle.graph.proofs.WordRuns.{count_as}
use Rattle.model.specs.Call.{Outcome, outcome_of_search, plays}
use Rattle.report.specs.Input.{program_vertices, events_in, file_in, program_lists}
use Rattle.report.specs.Respond.{searched}
use Rattle.report.proofs.InputFacts.{SizesPassed, own_passed, file_as}
use Rattle.report.proofs.RespondFacts.{plays_success, plays_unfinished, plays_neither, events_part, searched_as, search_and_print_line, search_and_print_lines}
use Rattle.report.proofs.program.search_and_print.Goals.{After-search-found, After-word-start, Start}
use Rattle.report.proofs.program.search_and_print.Goals.{then-finished-via-then-finished, then-finished-via-else-finished+then-number-eq-UNFINISHED}
use Rattle.std.proofs.Common.{◌≡◌, true}
use Rattle.report.proofs.program.search_and_print.Goals as goal

-- the input passes the program's own order
passes : (c : Start) → SizesPassed c.args.input.now
passes c = own_passed c.args.input.now c.requires.input_value

-- so it has three words and more
long : (c : Start) → 10 ≤ length c.args.input.now
long c = omega (arith, (passes c).file_there)

pub word-start-requires : goal.word-start-requires
word-start-requires c = omega (arith, long (goal.at.word-start-requires c).Start)

-- the file starts within the input
file_start : (c : After-word-start) → 6 + c.word-start.result ≤ length c.args.input.now
unfolding events_in
file_start c = omega (arith, (passes (goal.at.After-word-start c).Start).file_there, c.word-start.ensures.value)

pub slice_bounds-file-count : goal.slice_bounds-file-count
slice_bounds-file-count c = file_start c

pub slice_bounds-file-start : goal.slice_bounds-file-start
slice_bounds-file-start c = file_start c

pub word-requires : goal.word-requires
word-requires c = omega (arith, long (goal.at.word-requires c).Start)

pub word-requires-2 : goal.word-requires-2
word-requires-2 c = omega (arith, long (goal.at.word-requires-2 c).Start)

pub slice_bounds-search-end : goal.slice_bounds-search-end
slice_bounds-search-end c = file_start (goal.at.slice_bounds-search-end c).After-word-start

-- the input
abbrev input_of : After-search-found → List ℕ
input_of c = c.args.input.now

-- where its file starts
abbrev start_of : After-search-found → ℕ
start_of c = 6 + c.word-start.result

-- the file
abbrev file_of : After-search-found → List ℕ
file_of c = take (length (input_of c) - start_of c) (drop (start_of c) (input_of c))

-- it is the input's
same_file : (c : After-search-found) → file_of c ≡ file_in (input_of c)
same_file c = file_as (input_of c) c.word-start.ensures.value (part_to_end (input_of c) (start_of c))

-- its n is within the program's own size
few-vertices : (c : After-search-found) {n : ℕ} → n ≡ word (file_of c) 0 → n ≤ program_vertices
few-vertices c e = omega (arith, count_as (same_file c) e, (passes (goal.at.After-search-found c).Start).sizes.few-vertices)

-- the search is the program's
told : (c : After-search-found) {o : Outcome} → o ≡ outcome_of_search (file_of c) c.word.result c.word-2.result (take (start_of c - 6) (drop 6 (input_of c))) program_lists
    → o ≡ searched (input_of c)
told c =
    searched_as (input_of c) c.word-start.ensures.value c.word.ensures.value c.word-2.ensures.value
    (part_to_end (input_of c) (start_of c)) (events_part (input_of c) c.word-start.result)

pub put_first_line-next-requires : goal.put_first_line-next-requires
put_first_line-next-requires c = omega (arith, c.requires.output_places_in_bounds)

pub word-requires-then-finished : goal.word-requires-then-finished
word-requires-then-finished c = omega (arith, (passes (goal.at.word-requires-then-finished c).Start).four, ap length (same_file (goal.at.word-requires-then-finished c).After-search-found))

pub put_vertex_lines-requires : goal.put_vertex_lines-requires
put_vertex_lines-requires c =
    let few : c.word-then-finished.result ≤ program_vertices = few-vertices (goal.at.put_vertex_lines-requires c).After-search-found c.word-then-finished.ensures.value in
    let short : c.put_first_line-next.result ≤ 84 = c.put_first_line-next.ensures.upper_bound in
    record {
      n_in_bounds = omega (arith, few, short, c.requires.output_places_in_bounds);
      n_le_program_vertices = few;
      n_in_bounds_2 = omega (arith, few, c.search-found.auto.distances);
      n_in_bounds_3 = omega (arith, few, c.search-found.auto.parents);
    }

pub returns-then-finished : goal.returns-then-finished
unfolding program_lists
returns-then-finished c =
    let s = (goal.at.returns-then-finished c).After-search-found in
    let played : plays c.number-number.result ≡ true =
    elim c.then-finished.branch [
      | then-finished-via-then-finished w ↦ plays_success w.if-finished.true
      | then-finished-via-else-finished+then-number-eq-UNFINISHED w ↦ plays_unfinished w.if-finished.false w.if-number-eq-UNFINISHED.true
    ] in
    search_and_print_lines (input_of s) c.args.output.now (told s c.search-found.ensures.values_after)
    (ap plays (sym c.number-number.ensures) ∙ played)
    (count_as (same_file s) c.word-then-finished.ensures.value) c.put_first_line-next.ensures.prints c.put_vertex_lines.ensures

pub returns : goal.returns
unfolding program_lists
returns c =
    let s = (goal.at.returns c).After-search-found in
    search_and_print_line (input_of s) c.args.output.now (told s c.search-found.ensures.values_after)
    (ap plays (sym c.number-number.ensures) ∙ plays_neither c.if-finished.false c.if-number-eq-UNFINISHED.false) c.put_first_line-next.ensures.prints

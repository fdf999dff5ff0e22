-- The program's output: a line, or a line and the vertices' lines, printed at the front of the output, by what the search answered.
use mathlib.Core.Path.{◌≡◌, refl, ap}
use mathlib.Core.Bool.{true, false}
use mathlib.Core.List.{List, []}
use Prim.Native.Nat.{ℕ, ◌+◌, ◌-◌, ◌≤◌}
use native.Mathlib.Omega.{arith}
use lib.ListN.{length, take, drop}
use borrow.Author.Tests.{ne_eqb, eq-eqb}
use Rattle.numbers.specs.Numbers.{success, unfinished}
use Rattle.numbers.specs.Refusals.{first}
use Rattle.lists.specs.Lists.{elem}
use Rattle.graph.specs.File.{word, vertex_count}
use Rattle.model.specs.Call.{Lent, Outcome, Answer, plays, outcome_of_search}
use Rattle.search.specs.Promise.{search_exit}
use Rattle.report.specs.Input.{source_in, workers_in, events_in, schedule_in, file_in, own_refusals, program_lists}
use Rattle.report.specs.Lines.{first_line, vertex_lines}
use Rattle.report.specs.Respond.{searched, lines, refused_with, response, output_places, outcome_of_respond}
use Rattle.text.specs.Output.{respond_exit}
use Rattle.text.specs.Printed.{Printed, Prints}
use Rattle.text.proofs.OutputFacts.{respond_printed}
use Rattle.text.proofs.PrintFacts.{prints_start}
use Rattle.report.proofs.OutputFacts.{one_line, own_line}

-- The numbers with which the schedule was played.

-- 0 is one
pub plays_success : {number : ℕ} → number ≡ success → plays number ≡ true
unfolding plays elem
plays_success e = rw e refl

-- 21 is one
pub plays_unfinished : {number : ℕ} → (number ≡ success → ⊥) → number ≡ unfinished → plays number ≡ true
unfolding plays elem
plays_unfinished {number} h e = rw (ne_eqb number success h, eq-eqb number unfinished e)

-- no other is
pub plays_neither : {number : ℕ} → (number ≡ success → ⊥) → (number ≡ unfinished → ⊥) → plays number ≡ false
unfolding plays elem
plays_neither {number} h e = rw (ne_eqb number success h, ne_eqb number unfinished e)

-- The call of the search.

-- the events are what lies between the words and the file
pub events_part : (input : List ℕ) (events : ℕ) → take (6 + events - 6) (drop 6 input) ≡ take events (drop 6 input)
events_part input events = let same : 6 + events - 6 ≡ events = omega arith in ap (λ (k : ℕ). take k (drop 6 input)) same

-- a search of the input's parts is the program's
pub searched_as : (input : List ℕ) {events source workers : ℕ} {file schedule : List ℕ} {o : Outcome} → events ≡ word input 2 → source ≡ word input 0
    → workers ≡ word input 1 → file ≡ drop (6 + events) input → schedule ≡ take events (drop 6 input)
    → o ≡ outcome_of_search file source workers schedule program_lists → o ≡ searched input
unfolding searched source_in workers_in events_in schedule_in file_in
searched_as input e s w f g told = rw (← e, ← s, ← w, ← f, ← g) told

-- What is printed after it.
module _ (input output : List ℕ) {r : Answer} {after : Lent} (told : search_exit r after ≡ searched input) where
  -- line one
  abbrev line : List ℕ
  line = first_line (record { number = r.number; used = r.used; effective = r.effective; layer = r.layer })

  -- line one is all
  pub search_and_print_line : {next : ℕ} {output' : List ℕ} → plays r.number ≡ false → Prints line output 0 output' next
      → Printed output (lines (vertex_count (file_in input)) (searched input)) output' next
  search_and_print_line e p =
      rw (← told, one_line (vertex_count (file_in input)) (search_exit r after) e) (p output [] (prints_start output))

  -- the vertices' lines follow
  pub search_and_print_lines : {n next at : ℕ} {middle output' : List ℕ} → plays r.number ≡ true → n ≡ vertex_count (file_in input)
      → Prints line output 0 middle next → Prints (vertex_lines n after.distances after.parents) middle next output' at
      → Printed output (lines (vertex_count (file_in input)) (searched input)) output' at
  unfolding lines
  search_and_print_lines {n} {next} {at} {middle} {output'} e k p q =
      rw (← told, ← k, e) (q output line (p output [] (prints_start output)))

-- The whole answer.
module _ (input output : List ℕ) where
  module _ {output' : List ℕ} {count : ℕ} (room : output_places ≤ length output) where
    -- a refusal of the program's own order
    pub respond_refused : {number : ℕ} → number ≡ first (own_refusals input) → (number ≡ success → ⊥)
        → Prints (first_line (refused_with number)) output 0 output' count
        → (respond_exit count output' ≡ outcome_of_respond input output) × (count ≤ length output')
    respond_refused e h p = respond_printed output_places (response input) output room (rw (own_line input e h) (p output [] (prints_start output)))

    -- or the search's lines
    pub respond_lines : {number : ℕ} → number ≡ first (own_refusals input) → number ≡ success
        → Printed output (lines (vertex_count (file_in input)) (searched input)) output' count
        → (respond_exit count output' ≡ outcome_of_respond input output) × (count ≤ length output')
    unfolding response
    respond_lines {number} e h p = respond_printed output_places (response input) output room (rw (← e, eq-eqb number success h) p)

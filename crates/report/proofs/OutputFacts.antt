-- The program's output as a whole: a refusal is one line, and an input longer than any that can be accepted is answered as its first bytes are.
use mathlib.Core.Path.{◌≡◌, refl, sym, ap, ◌∙◌}
use mathlib.Core.Bool.{Bool, true, false}
use mathlib.Core.List.{List, [], ◌∷◌, ◌++◌, append-nil}
use Prim.Native.Nat.{ℕ, zero, suc, ◌+◌, ◌≤◌, ◌<◌}
use native.Mathlib.Omega.{arith}
use lib.Dec.{ltb}
use lib.ListN.{length, take, length-drop}
use lib.Seq.{length-take-le}
use borrow.Author.Tests.{ltb-true, ltb-false, le-ltb, ne_eqb}
use Rattle.numbers.specs.Numbers.{success, bad_length, short_list}
use Rattle.numbers.specs.Refusals.{◌gives◌, first}
use Rattle.numbers.proofs.First.{Positive, first_append, first_append_stop}
use Rattle.lists.specs.Lists.{elem}
use Rattle.graph.specs.File.{word, vertex_count, edge_count, file_length}
use Rattle.graph.specs.Read.{outside_sizes, header_refusals}
use Rattle.graph.proofs.WordRuns.{part_word}
use Rattle.model.specs.Call.{Lent, Outcome, plays, search_number, search_refusals, input_refusals, early_refusals}
use Rattle.model.proofs.Calls.{call_refused}
use Rattle.report.specs.Input.{program_events, source_in, workers_in, events_in, schedule_in, file_in, program_lists, longest_input}
use Rattle.report.specs.Input.{sizes_refusals, own_refusals}
use Rattle.report.specs.Lines.{first_line}
use Rattle.report.specs.Respond.{searched, lines, refused_with, response}
use Rattle.report.proofs.InputFacts.{sizes_passed, own_events, own_sizes}

-- Refusals.

-- "otherwise line one is all"
pub one_line : (n : ℕ) (o : Outcome) → plays o.answer.number ≡ false → lines n o ≡ first_line o.answer
unfolding lines
one_line n o e = rw e (append-nil (first_line o.answer))

module _ (input : List ℕ) where
  -- a refusal of the program's own order
  pub own_line : {number : ℕ} → number ≡ first (own_refusals input) → (number ≡ success → ⊥) → response input ≡ first_line (refused_with number)
  unfolding response
  own_line {number} e h = rw (← e, ne_eqb number success h)

  -- the search's number
  abbrev number : ℕ
  number = search_number (file_in input) (source_in input) (workers_in input) (schedule_in input) program_lists

  -- a refusal of the search
  pub search_line : first (own_refusals input) ≡ success → plays number ≡ false → response input ≡ first_line (refused_with number)
  unfolding response searched
  search_line e h =
      let told = call_refused (file_in input) (source_in input) (workers_in input) (schedule_in input) program_lists h in
      rw e (one_line (vertex_count (file_in input)) (searched input) (ap (λ (o : Outcome). plays o.answer.number) told ∙ h)
      ∙ ap (λ (o : Outcome). first_line o.answer) told)

-- 1: a file that is longer than its n and m say
too_long : (file : List ℕ) (source P : ℕ) (schedule : List ℕ) (lent : Lent) → 4 ≤ length file
    → outside_sizes (vertex_count file) (edge_count file) ≡ false → file_length (vertex_count file) (edge_count file) < length file
    → search_number file source P schedule lent ≡ bad_length
unfolding search_number search_refusals input_refusals early_refusals header_refusals first
too_long file source P schedule lent four inside far =
    let size = file_length (vertex_count file) (edge_count file) in
    let apart : length file ≡ size → ⊥ = λ e. omega arith in
    rw (le-ltb (length file) 4 four, inside, ne_eqb (length file) size apart)

-- with 1 the schedule is not played
length_refused : plays bad_length ≡ false
unfolding plays elem
length_refused = refl

-- Inputs that are too long.

-- their number by n and m: 2, 20 or, at last, 1
last_number : ℕ → ℕ → ℕ
last_number n m = first (sizes_refusals n m ++ (true gives bad_length ∷ []))

-- the numbers of the sizes are positive
positive_sizes : (n m : ℕ) → Positive (sizes_refusals n m)
unfolding sizes_refusals
positive_sizes n m = omega arith

-- n and m are refused
last_sizes : {k : ℕ} (n m : ℕ) → first (sizes_refusals n m) ≡ suc k → last_number n m ≡ suc k
unfolding last_number
last_sizes n m e = first_append_stop (sizes_refusals n m) (true gives bad_length ∷ []) (omega arith) ∙ e

-- n and m pass
last_length : (n m : ℕ) → first (sizes_refusals n m) ≡ 0 → last_number n m ≡ bad_length
unfolding last_number first
last_length n m e = first_append (sizes_refusals n m) (true gives bad_length ∷ []) (positive_sizes n m) e

module _ (input : List ℕ) (long : longest_input < length input) where
  -- 20 where its schedule is too long
  long_events : program_events < events_in input → response input ≡ first_line (refused_with short_list)
  unfolding events_in
  long_events h = own_line input (own_events input (omega arith) refl h) (λ z. absurd (omega arith))

  -- the file
  abbrev file : List ℕ
  file = file_in input

  -- its n
  abbrev n : ℕ
  n = vertex_count file

  -- its m
  abbrev m : ℕ
  m = edge_count file

  -- otherwise by n and m
  long_file : events_in input ≤ program_events → response input ≡ first_line (refused_with (last_number n m))
  unfolding events_in file_in vertex_count edge_count
  long_file few = go (first (sizes_refusals n m)) refl
    where
      own : first (sizes_refusals n m) ≡ first (own_refusals input)
      own = own_sizes input (omega arith) refl few refl (omega arith) refl refl refl

      size : length file + (6 + events_in input) ≡ length input
      size = omega (arith, length-drop (6 + events_in input) input)

      go : (k : ℕ) → first (sizes_refusals n m) ≡ k → response input ≡ first_line (refused_with (last_number n m))
      go zero e =
          let fit = sizes_passed n m e in
          let one = too_long file (source_in input) (workers_in input) (schedule_in input) program_lists (omega (arith, size)) fit.inside
          (omega (arith, size, fit.few-vertices, fit.few-edges)) in
          search_line input (sym own ∙ e) (ap plays one ∙ length_refused) ∙ ap (λ (x : ℕ). first_line (refused_with x)) (one ∙ sym (last_length n m e))
      go (suc k) e =
          own_line input (sym e ∙ own) (λ z. absurd (omega arith)) ∙ ap (λ (x : ℕ). first_line (refused_with x)) (sym (last_sizes n m e))

-- An input longer than any that can be accepted, and its first k bytes, still longer than any such.
module _ (input : List ℕ) (k : ℕ) (far : longest_input < k) (there : k ≤ length input) where
  -- these bytes
  abbrev short : List ℕ
  short = take k input

  -- as many as k
  size : length short ≡ k
  size = length-take-le k input there

  -- their schedule is as long
  events : events_in short ≡ events_in input
  unfolding events_in
  events = part_word 0 k input 2 (omega arith)

  -- the file has the same n and m
  same : events_in input ≤ program_events → (i : ℕ) → i ≤ 1 → word (file_in short) i ≡ word (file_in input) i
  unfolding file_in
  same few i h = rw events (part_word (6 + events_in input) k input i (omega arith))

  -- they are answered as the input is
  pub long_part : response short ≡ response input
  unfolding vertex_count edge_count
  long_part = go (ltb program_events (events_in input)) refl
    where
      go : (b : Bool) → ltb program_events (events_in input) ≡ b → response short ≡ response input
      go true e =
          let many = ltb-true program_events (events_in input) e in
          long_events short (omega (arith, size)) (omega (arith, events)) ∙ sym (long_events input (omega arith) many)
      go false e =
          let few = ltb-false program_events (events_in input) e in
          long_file short (omega (arith, size)) (omega (arith, events))
          ∙ ap (λ (n : ℕ). first_line (refused_with (last_number n (word (file_in short) 1)))) (same few 0 (omega arith))
          ∙ ap (λ (m : ℕ). first_line (refused_with (last_number (word (file_in input) 0) m))) (same few 1 (omega arith))
          ∙ sym (long_file input (omega arith) few)

-- so the program may stop reading one byte past that length
pub long_input : (input : List ℕ) → longest_input < length input → response (take (suc longest_input) input) ≡ response input
long_input input h = long_part input (suc longest_input) (omega arith) h

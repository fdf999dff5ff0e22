-- The tests of a call that begins as the reader does: those of the file, then others of its own. One fact for each way through them; the search and
-- the checker differ in the others alone.
use mathlib.Core.Path.{◌≡◌, sym, ap, ◌∙◌}
use mathlib.Core.List.{List, ◌++◌}
use Prim.Native.Nat.{ℕ}
use native.Mathlib.Omega.{arith}
use Rattle.numbers.specs.Refusals.{Refusal, first}
use Rattle.numbers.proofs.First.{first_append, first_append_stop, first_split}
use Rattle.graph.specs.File.{vertex_count, edge_count}
use Rattle.graph.specs.Read.{refusal_answer, answer_with}
use Rattle.graph.specs.Steps.{file_refusals, file_answer, Scanned}
use Rattle.graph.specs.Read.{ReadAnswer}
use Rattle.graph.proofs.ReadFacts.{answer_number, answer_whole, answer-by, positive_file, passed_scanned, file_number, file_whole}

module _ (file : List ℕ) (others : List Refusal) where
  -- all these tests
  abbrev pub refusals : List Refusal
  refusals = file_refusals file ++ others

  -- their answer: n and m beside 0
  abbrev pub answer : ReadAnswer
  answer = answer_with (first refusals) (vertex_count file) (edge_count file)

  -- what an answer with 0 tells
  pub record Passed (head : ReadAnswer) : Type 0 where
    pub none : first refusals ≡ 0
    pub scanned : Scanned file head.vertices head.edges
    pub others_none : first others ≡ 0

  module _ {head : ReadAnswer} (judged : head ≡ answer) where
    -- the answer's number
    pub early_number : head.number ≡ first refusals
    early_number = ap (λ (x : ReadAnswer). x.number) judged ∙ answer_number (first refusals) (vertex_count file) (edge_count file)

    -- with 0 each test is passed
    pub early_passed : head.number ≡ 0 → Passed head
    early_passed e =
        let zeroth : first refusals ≡ 0 = sym early_number ∙ e in
        let same : head ≡ record { number = 0; vertices = vertex_count file; edges = edge_count file } =
        judged ∙ answer_whole (first refusals) (vertex_count file) (edge_count file) zeroth in
        let p = first_split (file_refusals file) others (positive_file file) zeroth in
        record { none = zeroth; scanned = rw same (passed_scanned file p.0); others_none = p.1 }

  module _ {head : ReadAnswer} (answered : head ≡ file_answer file) where
    -- refused by the file's tests
    pub by_file : (head.number ≡ 0 → ⊥) → head ≡ answer
    unfolding file_answer
    by_file h =
        let found : first (file_refusals file) ≡ 0 → ⊥ = λ z. h (file_number file answered ∙ z) in
        let stopped = first_append_stop (file_refusals file) others (omega arith) in
        answered ∙ ap (λ (x : ℕ). answer_with x (vertex_count file) (edge_count file)) (sym stopped)

    module _ (whole : head.number ≡ 0) where
      -- past them
      number_others : first refusals ≡ first others
      number_others = first_append (file_refusals file) others (positive_file file) (sym (file_number file answered) ∙ whole)

      -- refused by the others
      pub by_others : {k : ℕ} → first others ≡ k → (k ≡ 0 → ⊥) → refusal_answer k ≡ answer
      by_others f h = answer-by refusals (vertex_count file) (edge_count file) (number_others ∙ f) h

      -- or by nothing: n and m are the file's
      pub by_none : first others ≡ 0 → head ≡ answer
      by_none f = file_whole file answered whole ∙ sym (answer_whole (first refusals) (vertex_count file) (edge_count file) (number_others ∙ f))

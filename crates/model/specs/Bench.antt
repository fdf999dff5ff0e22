-- Document 01's bench cases A to J, "as a table of inputs and outcomes".
use Rattle.std.specs.Prelude.{List, [], ◌∷◌, ◌++◌, ℕ, replicate}
use Rattle.graph.specs.BenchFiles.{words_a, words_c, words_e, words_f, words_g}
use Rattle.graph.specs.Encode.{bytes_of}
use Rattle.pennant.specs.Bag.{split_first, split_second}
use Rattle.pennant.specs.Held.{size, up_to}
use Rattle.model.specs.Call.{Lent, Outcome, outcome_of_search}

-- a search of a file given by its words, with distances, parents and counts of so many places;
-- or a split of a bag of so many numbers
pub data Case : Type 0 where
  searching : (words : List ℕ) (source P : ℕ) (schedule : List ℕ) (places : ℕ) → Case
  splitting : (elements : ℕ) → Case

-- line one of the output, then distances, parents and counts as the lists hold them;
-- or the sizes of the bags that a split leaves and gives
pub data Expected : Type 0 where
  answers : (number used effective layer : ℕ) (distances parents histogram : List ℕ) → Expected
  sizes : (first second : ℕ) → Expected

-- lists that are long enough for every case that gets as far as 20, with 7 in every place
unfoldable pub lent_for : ℕ → Lent
lent_for places =
    let nine : List ℕ = replicate 9 7 in
    record {
      offsets = nine;
      targets = nine;
      marks = nine;
      distances = replicate places 7;
      parents = replicate places 7;
      histogram = replicate places 7;
      left = nine;
      right = nine;
      values = nine;
    }

-- what a search answers, and distances, parents and counts at exit
unfoldable pub answers_of : Outcome → Expected
answers_of o =
    answers o.answer.number o.answer.used o.answer.effective o.answer.layer
    o.lent.distances o.lent.parents o.lent.histogram

-- the outcome of a case
unfoldable pub outcome_of_case : Case → Expected
outcome_of_case (searching words source P schedule places) =
    answers_of (outcome_of_search (bytes_of words) source P schedule (lent_for places))
outcome_of_case (splitting elements) =
    sizes (size (split_first (up_to elements))) (size (split_second (up_to elements)))

-- A: "Sheet: 0 nine times, 192, 72, 0, 8, 0, 8, 0, 8," and then events 18 and 19, "0, 8, 192, 0, 0, 192" (§14.1)
abbrev pub schedule_a : ℕ → ℕ → List ℕ
schedule_a event18 event19 =
    replicate 9 0
    ++ 192 ∷ 72 ∷ 0 ∷ 8 ∷ 0 ∷ 8 ∷ 0 ∷ 8 ∷ event18 ∷ event19 ∷ 0 ∷ 8 ∷ 192 ∷ 0 ∷ 0 ∷ 192 ∷ []

-- C: "sheet 0, 192". "What E to I leave unsaid is as in C." (§14.2)
abbrev pub schedule_c : List ℕ
schedule_c = 0 ∷ 192 ∷ []

-- A's outcome, and B's, by the parent of 3: "as A, but the last line is `3 2 2`" (§14.2)
abbrev pub answers_a : ℕ → Expected
answers_a parent = answers 0 25 25 2 (0 ∷ 1 ∷ 1 ∷ 2 ∷ []) (0 ∷ 0 ∷ 0 ∷ parent ∷ []) (1 ∷ 2 ∷ 1 ∷ 0 ∷ [])

-- a refusal: zeros beside its number, and the one place of distances, parents and counts as it was
abbrev pub refused : ℕ → Expected
refused number = answers number 0 0 0 (7 ∷ []) (7 ∷ []) (7 ∷ [])

-- the table: A, B, C and D; then E to I; then J (§14.2)
unfoldable pub bench_table : List (Case × Expected)
bench_table =
    (searching words_a 0 2 (schedule_a 8 0) 4, answers_a 1)
    ∷ (searching words_a 0 2 (schedule_a 0 8) 4, answers_a 2)
    ∷ (searching words_c 0 1 schedule_c 1, answers 0 2 2 0 (0 ∷ []) (0 ∷ []) (1 ∷ []))
    ∷ (searching words_c 0 1 [] 1, answers 21 0 0 0 (0 ∷ []) (0 ∷ []) (1 ∷ []))
    ∷ (searching words_e 0 1 schedule_c 1, refused 6)
    ∷ (searching words_f 0 1 schedule_c 1, refused 5)
    ∷ (searching words_g 0 1 schedule_c 1, refused 2)
    ∷ (searching words_c 0 9 schedule_c 1, refused 8)
    ∷ (searching words_c 0 1 (72 ∷ []) 1, refused 9)
    ∷ (splitting 23, sizes 12 11)
    ∷ []

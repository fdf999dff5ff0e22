-- The numbers 7 and 12 of a source and a list of sleepers: one fact for each way through the tests, and what passing them tells.
use mathlib.Core.Path.{◌≡◌, refl, sym, ap, ◌∙◌}
use mathlib.Core.Bool.{Bool, true, false, cond, not, ◌||◌}
use mathlib.Core.List.{List, [], ◌∷◌, ◌++◌}
use Prim.Native.Nat.{ℕ, zero, suc, ◌≤◌, ◌<◌, max}
use native.Mathlib.Omega.{arith}
use lib.Dec.{leb, ltb, eqb}
use lib.ListN.{length, replicate, length-replicate}
use borrow.Author.Tests.{leb-false, eqb-true, not-false, le-leb, lt-leb, eq-eqb, ne_eqb}
use Rattle.std.specs.List.{fold}
use Rattle.numbers.specs.Numbers.{success, bad_source, bad_sleepers}
use Rattle.numbers.specs.Refusals.{Refusal, ◌gives◌, first}
use Rattle.numbers.proofs.First.{Positive, first_stop, first_skip, first_passed, first_split}
use Rattle.lists.specs.Lists.{largest, reaches}
use Rattle.lists.proofs.Or.{or_none}
use Rattle.lists.proofs.Tests.{reaches_largest}
use Rattle.graph.specs.File.{vertex_count}
use Rattle.graph.specs.Read.{header_refusals, scan_refusals}
use Rattle.forwarding.specs.Sleepers.{sleepers_wrong, source_refusals, source_number}

-- the larger of two, one byte after another, is the largest
largest_from : (found : ℕ) (bytes : List ℕ) → fold max found bytes ≡ max found (largest bytes)
unfolding largest
largest_from found [] = omega arith
largest_from found (byte ∷ bytes) = largest_from (max found byte) bytes ∙ omega arith

pub largest_fold : (bytes : List ℕ) → fold max 0 bytes ≡ largest bytes
largest_fold bytes = largest_from 0 bytes ∙ omega arith

-- The list.
module _ (n : ℕ) (sleepers : List ℕ) where
  -- it has not n bytes
  pub wrong_length : (length sleepers ≡ n → ⊥) → true ≡ sleepers_wrong n sleepers
  unfolding sleepers_wrong
  wrong_length h = rw (ne_eqb (length sleepers) n h)

  -- it has n bytes: the largest one decides
  pub wrong_largest : length sleepers ≡ n → {found : ℕ} → found ≡ largest sleepers → ltb 1 found ≡ sleepers_wrong n sleepers
  unfolding sleepers_wrong
  wrong_largest h e = rw (eq-eqb (length sleepers) n h, e) (sym (reaches_largest 2 sleepers (omega arith)))

-- an all-zero list has no byte above 1
zero_low : (n : ℕ) → reaches 2 (replicate n 0) ≡ false
unfolding reaches
zero_low zero = refl
zero_low (suc n) = zero_low n

-- so one of n bytes is never refused
pub zero_right : (n : ℕ) → sleepers_wrong n (replicate n 0) ≡ false
unfolding sleepers_wrong
zero_right n = rw (eq-eqb (length (replicate {A = ℕ} n 0)) n (length-replicate n 0)) (zero_low n)

-- The two tests.
module _ (n source : ℕ) (sleepers : List ℕ) where
  -- 7
  pub source_far : n ≤ source → bad_source ≡ source_number n source sleepers
  unfolding source_number source_refusals
  source_far h = sym (first_stop (leb n source) bad_source _ (le-leb n source h))

  module _ (near : source < n) {wrong : Bool} (told : wrong ≡ sleepers_wrong n sleepers) where
    -- 12
    pub sleepers_refused : wrong ≡ true → bad_sleepers ≡ source_number n source sleepers
    unfolding source_number source_refusals
    sleepers_refused e =
        sym (first_skip (leb n source) bad_source _ (lt-leb n source near) ∙ first_stop (sleepers_wrong n sleepers) bad_sleepers [] (sym told ∙ e))

    -- or neither
    pub sleepers_taken : wrong ≡ false → success ≡ source_number n source sleepers
    unfolding source_number source_refusals first
    sleepers_taken e = rw (lt-leb n source near, ← told, e)

  -- both numbers are positive
  pub positive_source : Positive (source_refusals n source sleepers)
  unfolding source_refusals
  positive_source = omega arith

  -- a source and a list that neither 7 nor 12 refuses
  pub record SourceTaken : Type 0 where
    pub near : source < n
    pub long : length sleepers ≡ n
    pub low : reaches 2 sleepers ≡ false

  pub source_passed : first (source_refusals n source sleepers) ≡ 0 → SourceTaken
  unfolding source_refusals sleepers_wrong
  source_passed e =
      let other = not (eqb (length sleepers) n) in
      let high = reaches 2 sleepers in
      let p = first_passed (leb n source) bad_source ((other || high) gives bad_sleepers ∷ []) (omega arith) e in
      let q = first_passed (other || high) bad_sleepers [] (omega arith) p.1 in
      let both = or_none other high q.0 in
      record {
        near = leb-false n source p.0;
        long = eqb-true (length sleepers) n (not-false (eqb (length sleepers) n) both.0);
        low = both.1;
      }

  -- what neither refuses passes
  pub source_takes : SourceTaken → first (source_refusals n source sleepers) ≡ 0
  unfolding source_refusals sleepers_wrong first
  source_takes t = rw (lt-leb n source t.near, eq-eqb (length sleepers) n t.long, t.low)

-- a list that is refused: whatever the tests before and after, the number is that of the tests before, or 7, or 12
wrong_number : (n source : ℕ) (sleepers : List ℕ) → sleepers_wrong n sleepers ≡ true → (before after : List Refusal)
    → first (before ++ (source_refusals n source sleepers ++ after)) ≡ first (before ++ leb n source gives bad_source ∷ true gives bad_sleepers ∷ [])
unfolding source_refusals first
wrong_number n source sleepers wrong [] after = rw wrong
wrong_number n source sleepers wrong (test gives number ∷ before) after =
    ap (λ (k : ℕ). cond test number k) (wrong_number n source sleepers wrong before after)

-- A call with more sleepers than vertices: 12, unless a test before it holds.
module _ (file : List ℕ) (source : ℕ) where
  -- the tests of the file
  abbrev pub file_tests : List Refusal
  file_tests = header_refusals file ++ scan_refusals file

  -- its number, by file and source alone
  abbrev pub over_number : ℕ
  over_number = first (file_tests ++ leb (vertex_count file) source gives bad_source ∷ true gives bad_sleepers ∷ [])

  -- whatever is tested after it
  pub over-number : (sleepers : List ℕ) → vertex_count file < length sleepers → (after : List Refusal)
      → first (file_tests ++ (source_refusals (vertex_count file) source sleepers ++ after)) ≡ over_number
  over-number sleepers more after =
      wrong_number (vertex_count file) source sleepers (sym (wrong_length (vertex_count file) sleepers (λ e. omega (arith, more)))) file_tests after

  -- it is a refusal
  pub over_refused : over_number ≡ success → ⊥
  unfolding header_refusals scan_refusals first
  over_refused z =
      let last : List Refusal = leb (vertex_count file) source gives bad_source ∷ true gives bad_sleepers ∷ [] in
      let both = first_split file_tests last (omega arith) z in
      let other = first_passed (leb (vertex_count file) source) bad_source (true gives bad_sleepers ∷ []) (omega arith) both.1 in
      omega (arith, other.1)

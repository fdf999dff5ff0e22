-- Facts about the view's test: what it comes to where a vertex has two offsets, and what the view gives by its outcome.
use mathlib.Core.Bool.{Bool, true, false, not, ◌||◌, or-false}
use mathlib.Core.Path.{◌≡◌, sym, ◌∙◌}
use mathlib.Core.List.{List, []}
use Prim.Native.Nat.{ℕ, ◌+◌, ◌-◌, ◌≤◌, ◌<◌}
use native.Mathlib.Numerals.{add-one}
use native.Mathlib.Omega.{arith}
use lib.Dec.{ltb}
use lib.ListN.{length, get_or, take, drop}
use borrow.Author.Tests.{lt-ltb, le-ltb, ltb-true, ltb-false, not-false}
use Rattle.lists.proofs.Or.{or_none}
use Rattle.graph.specs.Links.{out_of_view, links_of, links_start}
use Rattle.graph.proofs.Bridge.{offsets_count, row_at}

-- where the vertex has two offsets and the second is within the targets, the test is whether they fall
pub test_falls : (offsets targets : List ℕ) (u start end : ℕ) → 2 ≤ length offsets → u < length offsets - 1 → start ≡ get_or offsets u 0 → end ≡ get_or offsets (u + 1) 0
    → end ≤ length targets → ltb end start ≡ out_of_view offsets targets u
unfolding out_of_view
test_falls offsets targets u start end two inside s e h = simp (le-ltb _ _ two, lt-ltb _ _ inside, ← s, ← e, le-ltb _ _ h, or-false)

-- a vertex in view has two offsets
two_offsets : (offsets targets : List ℕ) (u : ℕ) → out_of_view offsets targets u ≡ false → u + 1 < length offsets
unfolding out_of_view
two_offsets offsets targets u all =
    let few : Bool = ltb (length offsets) 2 in
    let out : Bool = not (ltb u (length offsets - 1)) in
    let fall : Bool = ltb (get_or offsets (u + 1) 0) (get_or offsets u 0) in
    let pass : Bool = ltb (length targets) (get_or offsets (u + 1) 0) in
    let two = or_none few out (or_none (few || out) fall (or_none (few || out || fall) pass all).0).0 in
    let some : 2 ≤ length offsets = ltb-false _ _ two.0 in
    let below : u < length offsets - 1 = ltb-true _ _ (not-false _ two.1) in
    omega arith

-- what the view gives where the test holds
module _ (offsets targets : List ℕ) (u : ℕ) (out : out_of_view offsets targets u ≡ true) where
  -- an empty part
  pub none_part : [] ≡ links_of offsets targets u
  unfolding links_of
  none_part = simp out

  -- .. that begins at the front
  pub none_start : 0 ≡ links_start offsets targets u
  unfolding links_start
  none_start = simp out

-- what the view gives, by the test on the two offsets that `bounds` returns
module _ (offsets targets : List ℕ) (u start end : ℕ) (test : ltb end start ≡ out_of_view offsets targets u) where
  -- an empty part where they fall
  pub no_part : end < start → [] ≡ links_of offsets targets u
  unfolding links_of
  no_part h = simp (← test, lt-ltb _ _ h)

  -- .. that begins at the front
  pub no_start : end < start → 0 ≡ links_start offsets targets u
  unfolding links_start
  no_start h = simp (← test, lt-ltb _ _ h)

  -- otherwise it begins at the first offset
  pub part_start : start ≤ end → start ≡ get_or offsets u 0 → start ≡ links_start offsets targets u
  unfolding links_start
  part_start h s = simp (← test, le-ltb _ _ h) s

  -- .. and goes on up to the second
  pub part_between : start ≤ end → start ≡ get_or offsets u 0 → end ≡ get_or offsets (u + 1) 0 → take (end - start) (drop start targets) ≡ links_of offsets targets u
  unfolding links_of
  part_between h s e =
      let inside = two_offsets offsets targets u (sym test ∙ le-ltb _ _ h) in
      let count = offsets_count offsets (omega arith) in
      simp (← test, le-ltb _ _ h) (rw (s, e, add-one) (sym (row_at offsets targets u (omega arith))))

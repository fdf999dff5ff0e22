-- `writer::any_target_reaches` meets its contract: its chain makes the test of each target.
use mathlib.Core.Bool.{◌||◌}
use mathlib.Core.Path.{◌≡◌, refl, sym, ap, ◌∙◌}
use mathlib.Core.List.{List, [], ◌∷◌}
use Prim.Native.Nat.{ℕ}
use lib.Dec.{leb}
use Rattle.std.proofs.Common.{rules, tests}
use Rattle.std.proofs.lemmas.Iterator.{YieldsList-from_slice}
use Rattle.std.proofs.lemmas.Iterator.Search.{any_from_yields_List}
use Rattle.std.specs.List.{list_any}
use Rattle.lists.specs.Lists.{reaches}
use Rattle.writer.proofs.any_target_reaches.Goals as goal

reaches_any : (limit : ℕ) (xs : List ℕ) → reaches limit xs ≡ list_any (λ x. leb limit x) xs
unfolding reaches
reaches_any limit [] = refl
reaches_any limit (x ∷ xs) = ap (λ rest. leb limit x || rest) (reaches_any limit xs)

pub returns : goal.returns
returns c =
    any_from_yields_List (λ x. leb c.args.limit x) _ _ _ c.any.ensures.ran (YieldsList-from_slice c.args.targets.now cc) (λ x b q k. search (rules, tests))
    ∙ sym (reaches_any c.args.limit c.args.targets.now)

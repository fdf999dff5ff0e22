-- `bag::nodes::halve` meets its contract: where there is a pennant its left child becomes the root of the half, else nothing is done.
use borrow.Author.Rules.{rules}
use mathlib.Core.Path.{ap, ◌∙◌}
use Prim.Native.Nat.{ℕ}
use lib.ListN.{set, get_or}
use Rattle.bag.proofs.Pairs.{halve_zero, halve_some}
use Rattle.bag.proofs.nodes.halve.Goals as goal

pub returns-then-x-eq0 : goal.returns-then-x-eq0
returns-then-x-eq0 c = λ k p. halve_zero c.args.left.now c.args.right.now k c.args.x c.if-x-eq0.true

pub returns : goal.returns
returns c =
    let a = c.args in
    let half = c.at-y.ensures in
    λ k p. halve_some a.left.now a.right.now k a.x (search rules) half
    (c.put.ensures ∙ ap (λ (n : ℕ). set a.left.now a.x n) (c.at.ensures ∙ ap (λ (n : ℕ). get_or a.right.now n 0) half)) p

-- `bag::store::pool` meets its contract. The invariant: the first i places have the chain, the rest is as it was.
use Rattle.std.proofs.Common.{◌≡◌, [], ◌∷◌, ◌++◌, take}
use Rattle.lists.specs.Lists.{overlay, numbers_from}
use Rattle.bag.proofs.store.pool.Given as goal

abbrev pub invariant-loop-i : goal.invariant-loop-i
invariant-loop-i l = l.left ≡ overlay (take l.i (numbers_from 1 l.nodes ++ 0 ∷ [])) l.initial.left

-- `bag::store::pool` meets its contract. The invariant: the first i places have the chain, the rest is as it was.
use native.Mathlib.Omega.{arith}
use mathlib.Core.Path.{◌≡◌, refl, sym, ◌∙◌}
use mathlib.Core.List.{List, [], ◌∷◌, ◌++◌}
use Prim.Native.Nat.{ℕ, ◌+◌, ◌<◌}
use Rattle.lists.specs.Lists.{overlay, numbers_from}
use Rattle.lists.proofs.Overlay.{overlay_store, overlay_all}
use Rattle.bag.proofs.Free.{chain_length, chain_next, chain_end}
use Rattle.bag.proofs.store.pool.Goals as goal

pub loop-i-init : goal.loop-i-init
unfolding overlay
loop-i-init c = refl

pub loop-i-preserved : goal.loop-i-preserved
loop-i-preserved c =
    let nodes = c.args.nodes in
    let i = c.loop-i.i in
    let below : i < nodes = omega arith in
    overlay_store (numbers_from 1 nodes ++ 0 ∷ []) c.args.left.now c.loop-i.invariant (sym (chain_next nodes i below)) (omega (arith, chain_length nodes)) (omega arith)

pub returns : goal.returns
returns c =
    let nodes = c.args.nodes in
    let new : List ℕ = numbers_from 1 nodes ++ 0 ∷ [] in
    let left₀ : List ℕ = c.args.left.now in
    let ended : c.loop-i.i ≡ nodes = omega arith in
    overlay_store new left₀ (rw ended at c.loop-i.invariant) (sym (chain_end nodes)) (omega (arith, chain_length nodes)) (omega arith)
    ∙ overlay_all new left₀ (nodes + 1) (omega (arith, chain_length nodes))

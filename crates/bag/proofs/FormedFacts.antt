-- Bags of 16 slots: one of a family, a family with one replaced, families put together and cut, and new ones.
use Prim.Native.Nat.{ℕ, zero, suc, ◌<◌}
use native.Mathlib.Omega.{arith}
use mathlib.Core.Path.{refl}
use mathlib.Core.List.{List, [], ◌∷◌, ◌++◌}
use lib.ListN.{length, get_or, set, take, replicate}
use Rattle.bag.specs.declared.Bag as declared
use Rattle.bag.specs.Nodes.{new_bag}
use Rattle.bag.specs.Promises.{Formed, AllFormed}

-- a new bag
pub new_formed : Formed new_bag
new_formed = record { sixteen = refl }

-- any number of them
pub all_new : (count : ℕ) → AllFormed (replicate count new_bag)
all_new zero = tt
all_new (suc count) = (new_formed, all_new count)

-- one of a family
pub formed_at : (bags : List declared.Bag) (i : ℕ) (d : declared.Bag) → AllFormed bags → i < length bags → Formed (get_or bags i d)
formed_at [] i d all h = absurd (omega arith)
formed_at (b ∷ bags) zero d all h = all.0
formed_at (b ∷ bags) (suc i) d all h = formed_at bags i d all.1 (omega arith)

-- a family with one replaced
pub formed_set : (bags : List declared.Bag) (i : ℕ) (x : declared.Bag) → AllFormed bags → Formed x → AllFormed (set bags i x)
formed_set [] i x all formed = tt
formed_set (b ∷ bags) zero x all formed = (formed, all.1)
formed_set (b ∷ bags) (suc i) x all formed = (all.0, formed_set bags i x all.1 formed)

-- two families
pub formed_append : (first second : List declared.Bag) → AllFormed first → AllFormed second → AllFormed (first ++ second)
formed_append [] second all more = more
formed_append (b ∷ first) second all more = (all.0, formed_append first second all.1 more)

-- the first so many of a family
pub formed_take : (n : ℕ) (bags : List declared.Bag) → AllFormed bags → AllFormed (take n bags)
formed_take zero bags all = tt
formed_take (suc n) [] all = tt
formed_take (suc n) (b ∷ bags) all = (all.0, formed_take n bags all.1)

-- the second of two families
pub formed_second : (first second : List declared.Bag) → AllFormed (first ++ second) → AllFormed second
formed_second [] second all = all
formed_second (b ∷ first) second all = formed_second first second all.1

-- the first
pub formed_first : (first second : List declared.Bag) → AllFormed (first ++ second) → AllFormed first
formed_first [] second all = tt
formed_first (b ∷ first) second all = (all.0, formed_first first second all.1)

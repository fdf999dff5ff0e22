-- What is counted over the workers: how often a vertex is in an input bag, in an output bag, in hand, about to be named, and how many workers
-- are at an edge of it or before. Every clause of the invariant is about these sums.
use mathlib.Core.Bool.{cond, ◌&&◌}
use mathlib.Core.List.{List}
use mathlib.Core.Option.{Option, none, some}
use Prim.Native.Nat.{ℕ}
use lib.Dec.{eqb, leb}
use Rattle.lists.specs.Lists.{sum_of}
use Rattle.pennant.specs.Held.{only, copies}
use Rattle.model.specs.State.{Phase, free, holding, in_hand, marked, named, Worker}

-- 1 for an unset label
abbrev pub unset_one : Option ℕ → ℕ
unset_one none = 1
unset_one (some x) = 0

-- how many of the labels are unset
abbrev pub unsets : List (Option ℕ) → ℕ
unsets l = sum_of unset_one l

-- whether v is in hand, marked or named: the worker will stow it
abbrev pub hand_of : ℕ → Phase → ℕ
hand_of v free = 0
hand_of v (holding u i) = 0
hand_of v (in_hand u i t) = only v t
hand_of v (marked u i t) = only v t
hand_of v (named u i t) = only v t

-- whether v is marked: the worker will name it
abbrev pub naming_of : ℕ → Phase → ℕ
naming_of v free = 0
naming_of v (holding u i) = 0
naming_of v (in_hand u i t) = 0
naming_of v (marked u i t) = only v t
naming_of v (named u i t) = 0

-- whether the worker is at vertex u, at edge i of it or before
abbrev pub at_of : ℕ → ℕ → Phase → ℕ
at_of u i free = 0
at_of u i (holding x j) = cond (eqb x u && leb j i) 1 0
at_of u i (in_hand x j t) = cond (eqb x u && leb j i) 1 0
at_of u i (marked x j t) = cond (eqb x u && leb j i) 1 0
at_of u i (named x j t) = cond (eqb x u && leb j i) 1 0

-- copies of v in all input bags
abbrev pub inputs : ℕ → List Worker → ℕ
inputs v workers = sum_of (λ (w : Worker). copies v w.input) workers

-- copies of v in all output bags
abbrev pub outputs : ℕ → List Worker → ℕ
outputs v workers = sum_of (λ (w : Worker). copies v w.output) workers

-- workers with v in hand, marked or named
abbrev pub hands : ℕ → List Worker → ℕ
hands v workers = sum_of (λ (w : Worker). hand_of v w.phase) workers

-- workers that have marked v and not yet named it
abbrev pub namings : ℕ → List Worker → ℕ
namings v workers = sum_of (λ (w : Worker). naming_of v w.phase) workers

-- workers at u, at edge i or before
abbrev pub ats : ℕ → ℕ → List Worker → ℕ
ats u i workers = sum_of (λ (w : Worker). at_of u i w.phase) workers

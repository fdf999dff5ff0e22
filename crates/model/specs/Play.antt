-- Playing a schedule: the run after each byte, full rounds, the bound.
use Rattle.std.specs.Prelude.{Bool, true, false, cond, ◌&&◌, ℕ, suc, ◌+◌, ◌*◌, eqb, length, get_or, take}
use mathlib.Core.List.{List, [], ◌∷◌, ◌++◌, map, foldl}
use Rattle.std.proofs.Math.Option.{Option, none, some}
use Rattle.lists.specs.Lists.{numbers_from, some_one}
use Rattle.graph.specs.Graph.{Graph, targets_of}
use Rattle.schedule.specs.Events.{event_of}
use Rattle.model.specs.State.{State, opening_state}
use Rattle.model.specs.Table.{act}

-- a state, the events used so far, and those of them whose condition was met at their turn
pub record Run : Type 0 where
  pub state : State
  pub used : ℕ
  pub effective : ℕ

-- "The effective events reported are the number of used bytes whose condition, by that table, was met at their turn."
-- (§6.9)
unfoldable pub tally : Run → Option State → Run
tally r none = record { state = r.state; used = suc r.used; effective = r.effective }
tally r (some s) = record { state = s; used = suc r.used; effective = suc r.effective }

-- one byte: "up to the finishing event"; after it nothing is used (§6.9)
unfoldable pub step : Graph → Run → ℕ → Run
step g r byte = cond r.state.finished r (tally r (act g r.state (event_of byte)))

-- "each event gets the state that the one before it left" (§6.9)
unfoldable pub play_from : Graph → Run → List ℕ → Run
play_from g r schedule = foldl (step g) r schedule

-- before the first byte
abbrev pub opening_run : Graph → ℕ → ℕ → Run
opening_run g source P = record { state = opening_state (length g) source P; used = 0; effective = 0 }

-- "The list is played from the opening state" (§6.9)
unfoldable pub play : Graph → ℕ → ℕ → List ℕ → Run
play g source P schedule = play_from g (opening_run g source P) schedule

-- the state after the first k bytes
unfoldable pub state_at : Graph → ℕ → ℕ → List ℕ → ℕ → State
state_at g source P schedule k = (play g source P (take k schedule)).state

-- 1 where the condition of byte k is met at its turn (§6.9)
unfoldable pub met_at : Graph → ℕ → ℕ → List ℕ → ℕ → ℕ
met_at g source P schedule k = some_one (act g (state_at g source P schedule k) (event_of (get_or schedule k 0)))

-- "A full round is work by 0 to P - 1, then close, in adjacent bytes." (§5.4)
unfoldable pub round_bytes : ℕ → List ℕ
round_bytes P = map (λ (w : ℕ). 8 * w) (numbers_from 0 P) ++ 192 ∷ []

-- whether the second list begins with the first
unfoldable pub starts_with : List ℕ → List ℕ → Bool
starts_with [] bytes = true
starts_with (x ∷ xs) [] = false
starts_with (x ∷ xs) (y ∷ ys) = eqb x y && starts_with xs ys

-- the number of places at which a full round stands, whatever stands between (§5.4)
unfoldable pub rounds : ℕ → List ℕ → ℕ
rounds P [] = 0
rounds P (byte ∷ bytes) = cond (starts_with (round_bytes P) (byte ∷ bytes)) 1 0 + rounds P bytes

-- "Their count is at most P × (6 × n + m) + n." (§7.4)
unfoldable pub event_bound : Graph → ℕ → ℕ
event_bound g P = P * (6 * length g + length (targets_of g)) + length g

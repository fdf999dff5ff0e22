-- Which bytes are used, and that the effective count is the number of those whose condition was met at their turn.
use mathlib.Core.Path.{◌≡◌, refl, sym, ◌∙◌, ap, subst}
use mathlib.Core.Bool.{Bool, true, false, true≢false}
use mathlib.Core.List.{List, [], ◌∷◌}
use Prim.Native.Nat.{ℕ, zero, suc, ◌+◌, ◌≤◌, ◌<◌}
use native.Mathlib.Nat.{zero-add}
use native.Mathlib.Omega.{arith}
use lib.ListN.{length, get_or, take}
use lib.Seq.{take-suc, take-length}
use Rattle.lists.specs.Lists.{numbers_from, sum_of}
use Rattle.lists.proofs.Sums.{sum_last}
use Rattle.graph.specs.Graph.{Graph}
use Rattle.schedule.specs.Events.{event_of}
use Rattle.model.specs.State.{opening_state}
use Rattle.model.specs.Table.{act}
use Rattle.model.specs.Play.{Run, tally, step, play_from, play, state_at, met_at}
use Rattle.model.specs.Demand.{Finisher}
use Rattle.model.proofs.Plays.{tally_counts, step_over, step_on, play_append}

module _ (g : Graph) (source P : ℕ) (schedule : List ℕ) where
  -- one more byte is one more step
  pub play_more : (k : ℕ) → k < length schedule → play g source P (take (suc k) schedule) ≡ step g (play g source P (take k schedule)) (get_or schedule k 0)
  unfolding play play_from
  play_more k below = rw (take-suc schedule k 0 below) (play_append g _ (take k schedule) (get_or schedule k 0 ∷ []))

  -- what is told of a run after k bytes
  pub record Told (k : ℕ) (r : Run) : Type 0 where
    pub counted : r.effective ≡ sum_of (met_at g source P schedule) (numbers_from 0 r.used)
    pub spent : r.state.finished ≡ false → r.used ≡ k
    pub ended : r.state.finished ≡ true → Finisher g source P schedule r.used

  -- at the start
  told_start : Told 0 (play g source P [])
  unfolding play play_from opening_state numbers_from sum_of
  told_start = record { counted = refl; spent = λ f. refl; ended = λ f. absurd (true≢false (sym f)) }

  -- a byte more
  told_more : (k : ℕ) → k < length schedule → (f : Bool) → (play g source P (take k schedule)).state.finished ≡ f
      → Told k (play g source P (take k schedule)) → Told (suc k) (play g source P (take (suc k) schedule))
  unfolding state_at met_at
  told_more k below true e t =
      let same = play_more k below ∙ step_over g (play g source P (take k schedule)) (get_or schedule k 0) e in
      subst (Told (suc k)) (sym same) (record { counted = t.counted; spent = λ f. absurd (true≢false (sym e ∙ f)); ended = t.ended })
  told_more k below false e t =
      let r = play g source P (take k schedule) in
      let q = play g source P (take (suc k) schedule) in
      let o = act g r.state (event_of (get_or schedule k 0)) in
      let same : q ≡ tally r o = play_more k below ∙ step_on g r (get_or schedule k 0) e in
      let used : q.used ≡ suc k = ap (λ (x : Run). x.used) same ∙ (tally_counts r o).0 ∙ ap suc (t.spent e) in
      let so_far : r.effective ≡ sum_of (met_at g source P schedule) (numbers_from 0 k) = rw (t.spent e) at t.counted in
      let one_more = rw (zero-add k) at (sum_last (met_at g source P schedule) 0 k) in
      let met : q.effective ≡ r.effective + met_at g source P schedule k = ap (λ (x : Run). x.effective) same ∙ (tally_counts r o).1 in
      record {
        counted = rw used (omega (arith, met, so_far, one_more));
        spent = λ f. used;
        ended = λ f. record { place = k; last_used = used; before = e; after = f };
      }

  -- after every number of bytes
  told_at : (k : ℕ) → k ≤ length schedule → Told k (play g source P (take k schedule))
  told_at zero below = told_start
  told_at (suc k) below = told_more k (omega arith) _ refl (told_at k (omega arith))

  -- and so at the end
  pub told_all : Told (length schedule) (play g source P schedule)
  told_all = rw (take-length schedule) at (told_at (length schedule) (omega arith))

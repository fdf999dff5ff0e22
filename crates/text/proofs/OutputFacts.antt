-- A program's output list: left as it is where it is too short, or with the text at its front.
use mathlib.Core.Path.{◌≡◌}
use mathlib.Core.List.{List}
use Prim.Native.Nat.{ℕ, ◌≤◌, ◌<◌}
use native.Mathlib.Omega.{arith}
use lib.ListN.{length}
use borrow.Author.Tests.{le-ltb, lt-ltb}
use Rattle.lists.proofs.Overlay.{overlay_long}
use Rattle.text.specs.Output.{respond_exit, respond_by}
use Rattle.text.specs.Printed.{Printed}

module _ (places : ℕ) (text output : List ℕ) where
  -- too short an output is left as it is
  pub respond_short : length output < places → (respond_exit 0 output ≡ respond_by places text output) × (0 ≤ length output)
  unfolding respond_by
  respond_short h = (rw (lt-ltb (length output) places h), omega arith)

  -- the text is printed
  pub respond_printed : {output' : List ℕ} {count : ℕ} → places ≤ length output → Printed output text output' count
      → (respond_exit count output' ≡ respond_by places text output) × (count ≤ length output')
  unfolding respond_by
  respond_printed room p = (
    rw (le-ltb (length output) places room) (λ i. record { count = p.used i; output = p.laid i }),
    rw (p.laid, p.used) (overlay_long text output),
  )

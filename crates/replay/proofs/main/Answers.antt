-- The buffers are as long as they are made.
use mathlib.Core.Path.{sym}
use Prim.Native.Nat.{ℕ}
use lib.ListN.{length-replicate}
use Rattle.replay.proofs.main.Goals as goal

pub slice_bounds-run-end : goal.slice_bounds-run-end
slice_bounds-run-end c = sym (length-replicate {A = ℕ} 32769 0)

pub slice_bounds-run-end-2 : goal.slice_bounds-run-end-2
slice_bounds-run-end-2 c = sym (length-replicate {A = ℕ} 819225 0)

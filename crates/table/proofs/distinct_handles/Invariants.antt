-- The invariant: the handles of all places are distinct where those of the places that are left are.
use Prim.Native.Nat.{◌/◌}
use mathlib.Core.Path.{◌≡◌}
use lib.ListN.{length}
use Rattle.paper.specs.Sound.{distinct}
use Rattle.table.specs.Places.{handles_in}
use Rattle.table.proofs.distinct_handles.Given as goal

abbrev pub invariant-loop-place : goal.invariant-loop-place
invariant-loop-place l = distinct (handles_in l.places 0 l.stride (length l.places / l.stride)) ≡ distinct (handles_in l.left 0 l.stride (length l.left / l.stride))

abbrev pub decreases-loop-place : goal.decreases-loop-place
decreases-loop-place l = length l.left

use lib.ListN.{length}
use Rattle.area.proofs.Counting.{Counting}
use Rattle.area.proofs.cursors.count_images.Given as goal

abbrev pub invariant-loop-behind : goal.invariant-loop-behind
invariant-loop-behind l = Counting l.images l.rest l.count

abbrev pub decreases-loop-behind : goal.decreases-loop-behind
decreases-loop-behind l = length l.rest

use Prim.Native.Nat.{◌-◌}
use lib.ListN.{length}
use Rattle.run.proofs.Checking.{Checking}
use Rattle.run.proofs.image.records_check.Given as goal

abbrev pub invariant-loop-last : goal.invariant-loop-last
invariant-loop-last l = Checking l.records l.tally l.last

abbrev pub decreases-loop-last : goal.decreases-loop-last
decreases-loop-last l = length l.records - l.last.ve

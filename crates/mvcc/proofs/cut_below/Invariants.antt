-- The invariant: what stays of the history is what stays of the entries that are left.
use Rattle.std.proofs.Common.{length}
use Rattle.mvcc.proofs.Pruning.{Cutting}
use Rattle.mvcc.proofs.cut_below.Given as goal

abbrev pub invariant-loop-entry : goal.invariant-loop-entry
invariant-loop-entry l = Cutting l.history l.watermark l.stays

abbrev pub decreases-loop-entry : goal.decreases-loop-entry
decreases-loop-entry l = length l.stays

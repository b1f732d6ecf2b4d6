-- The invariant: the history keeps the rules where the entries that are left keep what is left of them.
use Rattle.std.proofs.Common.{length}
use Rattle.mvcc.proofs.Checking.{Checking}
use Rattle.mvcc.proofs.history_check.Given as goal

abbrev pub invariant-loop-rest : goal.invariant-loop-rest
invariant-loop-rest l = Checking l.history l.clock l.entries l.hashes l.rest l.left

abbrev pub decreases-loop-rest : goal.decreases-loop-rest
decreases-loop-rest l = length l.rest

use Rattle.std.proofs.Common.{◌≡◌, true, length}
use Rattle.paper.specs.Keys.{octets}
use Rattle.overlay.specs.Overlay.{is_overlay}
use Rattle.overlay.proofs.Checking.{Verdict}
use Rattle.overlay.proofs.check.Given as goal

abbrev pub invariant-loop-entry : goal.invariant-loop-entry
invariant-loop-entry l = record { octets : octets l.rest ≡ true; verdict : Verdict l.rest l.last (is_overlay l.bytes) }

abbrev pub decreases-loop-entry : goal.decreases-loop-entry
decreases-loop-entry l = length l.rest

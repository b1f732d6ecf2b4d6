use Rattle.area.proofs.OpeningLaws.{Opening}
use Rattle.area.proofs.opening.open_check.Given as goal

abbrev pub invariant-loop-i : goal.invariant-loop-i
invariant-loop-i l = Opening l.images l.lengths l.rest l.i l.clock

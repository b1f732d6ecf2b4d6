use lib.ListN.{length}
use Rattle.area.proofs.AreaLaws.{Passing}
use Rattle.area.proofs.check.images_check.Given as goal

abbrev pub invariant-loop-rest : goal.invariant-loop-rest
invariant-loop-rest l = Passing l.images l.others l.rest

abbrev pub decreases-loop-rest : goal.decreases-loop-rest
decreases-loop-rest l = length l.rest

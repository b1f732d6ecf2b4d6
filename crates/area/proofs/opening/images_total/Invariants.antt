use Rattle.area.proofs.OpeningLaws.{Summing}
use Rattle.area.proofs.opening.images_total.Given as goal

abbrev pub invariant-loop-n : goal.invariant-loop-n
invariant-loop-n l = Summing l.images l.lengths l.rest l.sum l.n-index

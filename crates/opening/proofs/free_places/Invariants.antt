-- The invariant: the places passed are free, and the other bytes are as they were.
use Rattle.opening.proofs.Freeing.{Freeing}
use Rattle.opening.proofs.free_places.Given as goal

abbrev pub invariant-loop-i : goal.invariant-loop-i
invariant-loop-i l = Freeing l.shape l.initial.state l.state l.i

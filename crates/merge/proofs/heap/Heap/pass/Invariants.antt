use Rattle.merge.proofs.Passing.{Passing}
use Rattle.merge.specs.Steps.{bytes_left}
use Rattle.merge.proofs.heap.Heap.pass.Given as goal

abbrev pub invariant-loop-self : goal.invariant-loop-self
invariant-loop-self l = Passing l.s l.fn.self l.self

abbrev pub decreases-loop-self : goal.decreases-loop-self
decreases-loop-self l = bytes_left l.self

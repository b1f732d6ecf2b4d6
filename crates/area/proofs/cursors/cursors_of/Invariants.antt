use Rattle.area.proofs.Placing.{Placing}
use Rattle.layout.specs.Layout.{store_in}
use Rattle.paper.specs.Store.{frozen_of}
use Rattle.area.proofs.cursors.cursors_of.Given as goal

abbrev pub invariant-loop-passed : goal.invariant-loop-passed
invariant-loop-passed l = Placing l.state (frozen_of (store_in l.state)) (record { at = l.start; end = l.stop; run = 0 }) l.n l.at l.cursors l.passed

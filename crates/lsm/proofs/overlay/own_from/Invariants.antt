use Rattle.lsm.specs.Edges.{pair_from, bound_of}
use Rattle.lsm.specs.Pairs.{OwnAt, own_in}
use Rattle.paper.specs.Lists.{keep}
use Prim.Native.Nat.{◌-◌}
use mathlib.Core.Path.{◌≡◌}
use Rattle.lsm.proofs.overlay.own_from.Given as goal

abbrev pub invariant-loop-at : goal.invariant-loop-at
invariant-loop-at l = OwnAt l.s l.at l.end × (keep (pair_from (bound_of l.low)) (own_in l.s l.at l.end) ≡ keep (pair_from (bound_of l.low)) (own_in l.s l.initial.at l.end))

abbrev pub decreases-loop-at : goal.decreases-loop-at
decreases-loop-at l = l.end - l.at

-- A walk stands at the first of the pairs that are still to come, and the answer over them is the answer.
use Prim.Native.Nat.{◌-◌}
use mathlib.Core.Path.{◌≡◌}
use Rattle.lsm.specs.Edges.{bound_of}
use Rattle.lsm.specs.Pairs.{OwnAt}
use Rattle.lsm.specs.Overlay.{Standing}
use Rattle.lsm.proofs.Scanning.{over_at}
use Rattle.lsm.proofs.walk.Reader.first_over.Given as goal

abbrev pub invariant-loop-at : goal.invariant-loop-at
invariant-loop-at l = record {
  own : OwnAt l.self.s.now l.at l.end;
  standing : Standing l.self.s.now l.self.read (bound_of l.self.high) l.heap l.shown;
  same : over_at l.self.s.now l.self.read (bound_of l.self.high) l.at l.end l.shown l.heap ≡ over_at l.self.s.now l.self.read (bound_of l.self.high) l.fn.start l.end l.fn.found l.fn.heap;
}

abbrev pub decreases-loop-at : goal.decreases-loop-at
decreases-loop-at l = l.end - l.at

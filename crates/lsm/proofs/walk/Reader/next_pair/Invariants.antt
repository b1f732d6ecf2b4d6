-- The pairs that are still to come are those that came when the walk began, and there is less to do at each turn.
use mathlib.Core.Path.{◌≡◌}
use Rattle.merge.specs.Unread.{unread, Sound}
use Rattle.lsm.specs.Edges.{bound_of}
use Rattle.lsm.specs.Shown.{shown, coming, left_in, Inside, Over}
use Rattle.lsm.proofs.Walking.{turns}
use Rattle.lsm.proofs.walk.Reader.next_pair.Given as goal

abbrev pub invariant-loop-mark : goal.invariant-loop-mark
invariant-loop-mark l = record {
  sound : Sound l.self.s.now l.heap;
  inside : Inside l.self.s.now l.mark;
  same : coming l.mark l.self.s.now l.self.read (bound_of l.self.high) l.heap ≡ shown l.self.read (bound_of l.self.high) (left_in l.self.s.now l.fn.after) (unread l.self.s.now l.fn.heap);
  over : Over l.mark l.self.s.now l.self.read (bound_of l.self.high) l.heap;
}

abbrev pub decreases-loop-mark : goal.decreases-loop-mark
decreases-loop-mark l = turns l.mark l.self.s.now l.heap

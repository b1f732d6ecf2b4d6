-- Of the cursors passed, those that have versions left are in the heap.
use Prim.Native.Nat.{◌≤◌}
use mathlib.Core.Path.{◌≡◌}
use lib.ListN.{length, take}
use Rattle.paper.specs.Lists.{keep}
use Rattle.merge.specs.Cursors.{unfinished}
use Rattle.merge.specs.Unread.{cursors_of}
use Rattle.merge.proofs.heap.Heap.gather.Given as goal

abbrev pub invariant-loop-c : goal.invariant-loop-c
invariant-loop-c l = record {
  few : l.heap.len ≤ l.c-index;
  long : l.heap.len ≤ length l.heap.cursors;
  kept : cursors_of l.heap ≡ keep unfinished (take l.c-index l.cursors);
}

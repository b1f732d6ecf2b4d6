-- What is left to sift stands at `place`: a heap but for where the sift began is one but for there, over the same cursors.
use Prim.Native.Nat.{ℕ, ◌-◌, ◌<◌}
use mathlib.Core.Bool.{true}
use mathlib.Core.Path.{◌≡◌}
use lib.ListN.{take}
use Rattle.paper.specs.Lists.{all}
use Rattle.merge.specs.Bag.{SameBag}
use Rattle.merge.specs.Shape.{HeapBut}
use Rattle.merge.specs.Cursors.{bef, nowhere, live}
use Rattle.merge.specs.Unread.{cursors_of}
use Rattle.merge.proofs.heap.Heap.sift_down.Given as goal

abbrev pub invariant-loop-place : goal.invariant-loop-place
invariant-loop-place l = record {
  within : l.place < 17;
  same : l.self.len ≡ l.fn.self.len;
  living : all (live l.s) (cursors_of l.self) ≡ true;
  but : (k : ℕ) → HeapBut (bef l.s) nowhere l.fn.self.cursors l.fn.self.len k l.at → HeapBut (bef l.s) nowhere l.self.cursors l.fn.self.len k l.place;
  bag : SameBag (take l.fn.self.len l.fn.self.cursors) (take l.fn.self.len l.self.cursors);
}

abbrev pub decreases-loop-place : goal.decreases-loop-place
decreases-loop-place l = 17 - l.place

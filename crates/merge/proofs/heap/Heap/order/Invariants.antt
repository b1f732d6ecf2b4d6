-- The same cursors, which are a heap from the place of the last one sifted on.
use mathlib.Core.Path.{◌≡◌}
use mathlib.Core.Bool.{true}
use Rattle.paper.specs.Lists.{all}
use Rattle.merge.specs.Bag.{SameBag}
use Rattle.merge.specs.Shape.{HeapFrom}
use Rattle.merge.specs.Cursors.{bef, nowhere, live}
use Rattle.merge.specs.Unread.{cursors_of}
use Rattle.merge.proofs.heap.Heap.order.Given as goal

abbrev pub invariant-loop-at : goal.invariant-loop-at
invariant-loop-at l = record {
  same : l.self.len ≡ l.fn.self.len;
  living : all (live l.s) (cursors_of l.self) ≡ true;
  heap : HeapFrom (bef l.s) nowhere l.self.cursors l.self.len l.at;
  bag : SameBag (cursors_of l.fn.self) (cursors_of l.self);
}

-- What building a heap of cursors does: those that have versions left are gathered, and put in order.
-- Assumes nothing.
use Rattle.std.specs.Prelude.{◌+◌, ◌≤◌, ◌≡◌, cond, List, [], ◌∷◌, ◌++◌, map, length}
use Rattle.paper.specs.Lists.{keep}
use Rattle.paper.specs.Keys.{Bytes}
use Rattle.paper.specs.Runs.{merge}
use Rattle.merge.specs.Bag.{SameBag}
use Rattle.merge.specs.Shape.{HeapFrom}
use Rattle.merge.specs.Cursors.{nowhere, unfinished, left, bef}
use Rattle.merge.specs.Unread.{cursors_of, unread, Sound}
use Rattle.merge.specs.declared.heap.Cursor.{Cursor}
use Rattle.merge.specs.declared.heap.Heap.{Heap}

-- c put last, if it has versions left
pub record Pushed (g : Heap) (c : Cursor) (r : Heap) : Type 0 where
  pub few : r.len ≤ g.len + 1
  pub long : r.len ≤ length r.cursors
  pub put : cursors_of r ≡ cursors_of g ++ cond (unfinished c) (c ∷ []) []

-- the cursors with versions left
pub record Gathered (cs : List Cursor) (r : Heap) : Type 0 where
  pub few : r.len ≤ 17
  pub long : r.len ≤ length r.cursors
  pub kept : cursors_of r ≡ keep unfinished cs

-- the same cursors, as a heap
pub record Ordered (s : Bytes) (h r : Heap) : Type 0 where
  pub same : r.len ≡ h.len
  pub heap : HeapFrom (bef s) nowhere r.cursors r.len 0
  pub bag : SameBag (cursors_of h) (cursors_of r)

-- what the heap hands out is the merge of what the cursors have, in run order
pub record Built (s : Bytes) (cs : List Cursor) (r : Heap) : Type 0 where
  pub sound : Sound s r
  pub all_of : unread s r ≡ merge (map (left s) cs)

-- The right child, where it is there and comes first, and else the left one.
use Rattle.merge.proofs.Sinking.{right_first, left_first, left_only}
use native.Mathlib.Omega.{arith}
use mathlib.Core.Path.{sym, ◌∙◌}
use Rattle.merge.proofs.heap.Heap.smaller.Goals.{else-right-self-via-then-right-self+else-is_before_at, else-right-self-via-else-right-self}
use Rattle.merge.proofs.heap.Heap.smaller.Goals as goal

pub returns-then-is_before_at : goal.returns-then-is_before_at
returns-then-is_before_at c = right_first _ _ _ _ c.if-right-self.true (sym c.is_before_at.ensures ∙ c.if-is_before_at.true)

pub returns-else-right-self : goal.returns-else-right-self
returns-else-right-self c =
    elim c.else-right-self.branch [
      | else-right-self-via-then-right-self+else-is_before_at w ↦ left_first _ _ _ _ w.if-right-self.true (sym w.is_before_at.ensures ∙ w.if-is_before_at.false)
      | else-right-self-via-else-right-self w ↦ left_only _ _ _ _ (omega arith) w.if-right-self.false
    ]

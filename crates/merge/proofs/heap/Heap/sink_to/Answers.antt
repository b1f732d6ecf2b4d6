-- No child, two of them, or one.
use Rattle.merge.proofs.Sinking.{childless, only_rises, only_stays}
use native.Mathlib.Omega.{arith}
use mathlib.Core.Path.{sym, ◌∙◌}
use Rattle.merge.proofs.heap.Heap.sink_to.Goals as goal

pub returns-then-self-left : goal.returns-then-self-left
returns-then-self-left c = childless _ _ _ _ c.if-self-left.true

pub returns-then-is_before_at : goal.returns-then-is_before_at
returns-then-is_before_at c = only_rises _ _ _ _ (omega arith) (omega arith) (sym c.is_before_at.ensures ∙ c.if-is_before_at.true)

pub returns-else-is_before_at : goal.returns-else-is_before_at
returns-else-is_before_at c = only_stays _ _ _ _ (omega arith) (omega arith) (sym c.is_before_at.ensures ∙ c.if-is_before_at.false)

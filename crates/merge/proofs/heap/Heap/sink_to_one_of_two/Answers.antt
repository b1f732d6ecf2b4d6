-- Each way by which of the children come before their parent.
use Rattle.merge.proofs.Sinking.{both_rise, left_rises, right_rises, none_rises}
use native.Mathlib.Omega.{arith}
use mathlib.Core.Path.{sym}
use Rattle.merge.proofs.heap.Heap.sink_to_one_of_two.Goals as goal

pub returns-in-true-true : goal.returns-in-true-true
returns-in-true-true c = both_rise _ _ _ _ (omega arith) _ c.smaller.ensures (sym c.in-true-true.ensures)

pub returns-in-true-false : goal.returns-in-true-false
returns-in-true-false c = left_rises _ _ _ _ (omega arith) (sym c.in-true-false.ensures) (sym c.in-true-false.ensures')

pub returns-in-false-true : goal.returns-in-false-true
returns-in-false-true c = right_rises _ _ _ _ (omega arith) (sym c.in-false-true.ensures) (sym c.in-false-true.ensures')

pub returns-in-false-false : goal.returns-in-false-false
returns-in-false-false c = none_rises _ _ _ _ (omega arith) (sym c.in-false-false.ensures) (sym c.in-false-false.ensures')

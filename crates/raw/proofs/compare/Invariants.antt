-- As far as they were looked at, both are alike.
use mathlib.Core.Path.{◌≡◌}
use lib.ListN.{take}
use Rattle.raw.proofs.compare.Given as goal

abbrev pub invariant-loop-i : goal.invariant-loop-i
invariant-loop-i l = take l.i l.a ≡ take l.i l.b

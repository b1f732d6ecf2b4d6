-- `probe::cursors_of` meets its contract: the loop has placed the cursors of the first i runs.
use mathlib.Core.Path.{◌≡◌}
use lib.ListN.{length, take}
use Rattle.probe.specs.Asked.{placed}
use Rattle.probe.proofs.cursors_of.Given as goal

abbrev pub invariant-loop-i : goal.invariant-loop-i
invariant-loop-i l = record { long : length l.c-items ≡ 17; made : take l.i l.c-items ≡ placed l.places l.i }

-- The cursors passed are sought, and the others stand.
use mathlib.Core.Path.{◌≡◌}
use Prim.Native.Nat.{ℕ, ◌≤◌}
use lib.ListN.{take, get_or}
use Rattle.merge.specs.Cursors.{nowhere}
use Rattle.lsm.specs.Edges.{bound_of}
use Rattle.lsm.specs.Seeking.{AllSought}
use Rattle.lsm.proofs.scan.seek_all.Given as goal

abbrev pub invariant-loop-c : goal.invariant-loop-c
invariant-loop-c l = record {
  sought : AllSought l.s (bound_of l.low) (take l.c-index l.fn.cursors) (take l.c-index l.cursors);
  others : (k : ℕ) → l.c-index ≤ k → get_or l.cursors k nowhere ≡ get_or l.fn.cursors k nowhere;
}

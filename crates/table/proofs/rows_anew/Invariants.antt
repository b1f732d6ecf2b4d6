-- The invariant: the buffer has the rows of the places from i on, laid over what it had.
use Prim.Native.Nat.{◌≤◌}
use mathlib.Core.Path.{◌≡◌}
use lib.ListN.{length}
use Rattle.paper.specs.Store.{rows_of}
use Rattle.table.specs.Rows.{lay_rows}
use Rattle.table.proofs.Tags.{reads_from}
use Rattle.table.proofs.rows_anew.Given as goal

abbrev pub invariant-loop-i : goal.invariant-loop-i
invariant-loop-i l =
    record {
      within : l.i ≤ l.count;
      long : length l.buf ≡ length l.initial.buf;
      laid : l.buf ≡ lay_rows (rows_of (reads_from l.places l.stride l.count l.i)) l.initial.buf;
    }

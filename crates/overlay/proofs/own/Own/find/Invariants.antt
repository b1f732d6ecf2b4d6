use Rattle.std.proofs.Common.{length}
use Rattle.overlay.specs.Overlay.{pairs_in, found_at}
use Rattle.overlay.specs.Entries.{left}
use Rattle.overlay.proofs.Finding.{Search}
use Rattle.overlay.proofs.own.Own.find.Given as goal

abbrev pub invariant-loop-entry : goal.invariant-loop-entry
invariant-loop-entry l = Search l.key (found_at 0 l.key (pairs_in l.self.bytes.now)) l.start (length l.self.bytes.now) (left l.entry-iterator)

use Rattle.std.proofs.Common.{length}
use Rattle.paper.specs.Image.{records_bytes}
use Rattle.overlay.specs.Overlay.{pairs_in}
use Rattle.overlay.specs.Entries.{left}
use Rattle.versions.specs.Absorbing.{versions_in, joined}
use Rattle.versions.proofs.Weaving.{Weaving}
use Rattle.versions.proofs.weave.Given as goal

abbrev pub invariant-loop-entry : goal.invariant-loop-entry
invariant-loop-entry l =
    Weaving (records_bytes (joined l.number (pairs_in l.own.bytes.now) (versions_in l.initial.room l.from (length l.initial.room)))) l.number (length l.initial.room) l.room l.at l.rest (left l.entry-iterator)

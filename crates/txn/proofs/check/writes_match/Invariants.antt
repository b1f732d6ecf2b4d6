use Rattle.paper.specs.Sound.{own_hashes}
use Rattle.sets.specs.Sets.{set_hashes}
use Rattle.overlay.specs.Overlay.{pairs_in}
use Rattle.overlay.specs.Entries.{left}
use Rattle.txn.proofs.Matching.{Match}
use Rattle.txn.proofs.check.writes_match.Given as goal

abbrev pub invariant-loop-entry : goal.invariant-loop-entry
invariant-loop-entry l = Match (set_hashes l.set) (own_hashes (pairs_in l.own.bytes.now)) (left l.entry-iterator) l.hits l.count

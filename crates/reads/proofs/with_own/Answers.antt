use Rattle.reads.proofs.Readings.{own-readable, can-read}
use Rattle.reads.proofs.with_own.Goals as goal

pub returns : goal.returns
returns c = can-read _ _ _ c.requires c.view.ensures (own-readable 7)

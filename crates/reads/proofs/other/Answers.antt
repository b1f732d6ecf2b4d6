use Rattle.reads.proofs.Readings.{other-readable, can-read}
use Rattle.reads.proofs.other.Goals as goal

pub returns : goal.returns
returns c = can-read _ _ _ c.requires c.view.ensures (other-readable 4)

use Rattle.reads.proofs.Readings.{plain-readable, can-read}
use Rattle.reads.proofs.plain.Goals as goal

pub returns : goal.returns
returns c = can-read _ _ _ c.requires c.view.ensures (plain-readable c.args.read)

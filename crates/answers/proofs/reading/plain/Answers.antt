-- `answers::reading::plain` meets its contract: the view of the runs alone can be read.
use Rattle.answers.proofs.Readings.{plain-readable, can-read}
use Rattle.answers.proofs.reading.plain.Goals as goal

pub returns : goal.returns
returns c = can-read _ _ _ c.requires c.plain_view.ensures (plain-readable c.args.read)

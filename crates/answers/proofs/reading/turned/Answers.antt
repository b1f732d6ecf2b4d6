-- `answers::reading::turned` meets its contract: the view of the runs in the opposite order can be read.
use Rattle.answers.proofs.Readings.{turned-readable, can-read}
use Rattle.answers.proofs.reading.turned.Goals as goal

pub returns : goal.returns
returns c = can-read _ _ _ c.requires c.turned_view.ensures (turned-readable c.args.read)

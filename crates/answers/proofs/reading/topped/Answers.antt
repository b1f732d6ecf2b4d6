-- `answers::reading::topped` meets its contract: the view with the own writes can be read.
use Rattle.answers.proofs.Readings.{topped-readable, can-read}
use Rattle.answers.proofs.reading.topped.Goals as goal

pub returns : goal.returns
returns c = can-read _ _ _ c.requires c.topped_view.ensures (topped-readable c.args.read)

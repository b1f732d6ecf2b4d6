-- The place is lent by its two ends.
use Rattle.answering.proofs.Placing.{lent-long, lent-steady, fits_told}
use Rattle.answering.proofs.Reader.read_fits.Goals as goal

pub read_fits-requires : goal.read_fits-requires
read_fits-requires c =
    (lent-long c.args.self.shape c.args.state.now c.args.self.place c.requires c.from.result c.from.ensures, lent-steady c.args.self.shape c.args.state.now c.args.self.place c.requires c.from.result c.from.ensures)

pub returns : goal.returns
returns c =
    fits_told c.args.self.shape c.args.state.now c.args.self.place c.requires c.from.result c.from.ensures c.args.hash c.read_fits.result c.read_fits.ensures

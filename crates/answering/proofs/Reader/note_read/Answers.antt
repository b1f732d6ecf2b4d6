-- The place is lent by its two ends, and comes back with the hash in its read set.
use Rattle.answering.proofs.Placing.{lent-long, lent-steady, fits-asked, lent-noted}
use Rattle.answering.proofs.Reader.note_read.Goals as goal

pub add_read-requires : goal.add_read-requires
add_read-requires c = (
  lent-long c.args.self.shape c.args.state.now c.args.self.place c.requires.0 c.from.result c.from.ensures,
  lent-steady c.args.self.shape c.args.state.now c.args.self.place c.requires.0 c.from.result c.from.ensures,
  c.requires.1,
  fits-asked c.args.self.shape c.args.state.now c.args.self.place c.requires.0 c.from.result c.from.ensures c.args.hash c.requires.2,
)

pub returns : goal.returns
returns c =
    lent-noted c.args.self.shape c.args.state.now c.args.self.place c.requires.0 c.from.result c.from.ensures c.args.hash c.add_read.new.place c.add_read.auto.place c.add_read.ensures

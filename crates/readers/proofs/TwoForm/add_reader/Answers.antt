-- What the table in two slices left of the columns, the rows have.
use Rattle.std.proofs.Common.{rules}
use Rattle.paper.specs.Calls.{try_add_row}
use Rattle.readers.proofs.Columns.{left-alike}
use Rattle.readers.proofs.TwoForm.add_reader.Goals as goal

pub returns : goal.returns
returns c =
    left-alike (λ room rows. try_add_row room rows c.args.time) c.args.used (search rules) c.times_of-times.ensures.each c.counts_of-counts.ensures.each c.add_reader-reply.ensures
    c.fill.ensures.times c.fill.ensures.counts

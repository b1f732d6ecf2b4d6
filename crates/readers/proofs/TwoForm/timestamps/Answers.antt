-- The table in two slices is asked of the columns what the rows are asked.
use Rattle.std.proofs.Common.{◌∙◌, rules}
use Rattle.paper.specs.Calls.{try_timestamps}
use Rattle.readers.proofs.Columns.{asked-alike}
use Rattle.readers.proofs.TwoForm.timestamps.Goals as goal

pub returns : goal.returns
returns c = c.timestamps.ensures ∙ asked-alike try_timestamps c.args.used c.args.rows.now (search rules) c.times_of.ensures.each c.counts_of.ensures.each

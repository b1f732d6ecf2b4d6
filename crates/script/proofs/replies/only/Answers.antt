-- The number, and the LF behind it.
use Rattle.paper.specs.Replay.{decimal_of}
use Rattle.script.proofs.Showing.{one_field}
use Rattle.script.proofs.replies.only.Goals as goal

pub returns : goal.returns
returns c = one_field (decimal_of c.args.number) c.number.ensures c.text.ensures

-- What the call told is told by its number.
use Rattle.paper.specs.Calls.{Call}
use Rattle.reply.specs.Told.{done_told}
use Rattle.reply.proofs.Numbers.{settled-number}
use Rattle.host.proofs.Calling.{number-on}
use Rattle.host.proofs.ngalovuki_end.Goals as goal

pub returns : goal.returns
returns c = number-on done_told settled-number _ (Call.end c.args.handle) c.args.state.now _ _ c.end.ensures c.number.ensures

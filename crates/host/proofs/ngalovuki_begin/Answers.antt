-- What the begin told is told by numbers.
use Rattle.paper.specs.Calls.{Call}
use Rattle.reply.specs.Told.{begun_told}
use Rattle.reply.proofs.Numbers.{begun-number}
use Rattle.host.proofs.Calling.{numbers_on_lem}
use Rattle.host.proofs.ngalovuki_begin.Goals as goal

pub returns : goal.returns
returns c = numbers_on_lem begun_told begun-number _ Call.begin c.args.state.now _ _ c.args.reply.now _ c.begin.ensures c.tell.ensures

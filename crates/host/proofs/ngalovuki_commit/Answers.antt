-- What the commit told is told by numbers.
use Rattle.paper.specs.Calls.{Call}
use Rattle.reply.specs.Told.{committed_told}
use Rattle.reply.proofs.Numbers.{committed-number}
use Rattle.host.proofs.Calling.{numbers_on_lem}
use Rattle.host.proofs.ngalovuki_commit.Goals as goal

pub returns : goal.returns
returns c = numbers_on_lem committed_told committed-number _ (Call.commit c.args.handle) c.args.state.now _ _ c.args.reply.now _ c.commit.ensures c.tell.ensures

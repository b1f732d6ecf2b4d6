-- The call, and its answer.
use Rattle.paper.specs.Calls.{Call}
use Rattle.reply.specs.Told.{told_settled}
use Rattle.script.proofs.Answers.{answer-plain, settled_plain}
use Rattle.script.proofs.put.Goals as goal

pub returns : goal.returns
returns c =
    answer-plain (Call.put c.args.handle c.args.key.now c.args.value.now) c.args.state.now c.put-reply.new.state (told_settled c.put-reply.result) c.put-reply.ensures (settled_plain c.put-reply.result) c.settled.ensures

-- The call, and its answer.
use Rattle.paper.specs.Calls.{Call}
use Rattle.reply.specs.Told.{told_settled}
use Rattle.script.proofs.Answers.{answer-plain, settled_plain}
use Rattle.script.proofs.delete.Goals as goal

pub returns : goal.returns
returns c =
    answer-plain (Call.delete c.args.handle c.args.key.now) c.args.state.now c.delete-reply.new.state (told_settled c.delete-reply.result) c.delete-reply.ensures (settled_plain c.delete-reply.result) c.settled.ensures

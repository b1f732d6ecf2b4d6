-- The call, and its answer.
use Rattle.paper.specs.Calls.{Call}
use Rattle.reply.specs.Told.{told_settled}
use Rattle.script.proofs.Answers.{answer-plain, settled_plain}
use Rattle.script.proofs.end.Goals as goal

pub returns : goal.returns
returns c =
    answer-plain (Call.end c.args.handle) c.args.state.now c.end-reply.new.state (told_settled c.end-reply.result) c.end-reply.ensures (settled_plain c.end-reply.result) c.settled.ensures

-- The call, and its answer.
use Rattle.paper.specs.Calls.{Call}
use Rattle.reply.specs.Told.{told_settled}
use Rattle.script.proofs.Answers.{answer-plain, settled_plain}
use Rattle.script.proofs.freeze.Goals as goal

pub returns : goal.returns
returns c =
    answer-plain Call.freeze c.args.state.now c.freeze-reply.new.state (told_settled c.freeze-reply.result) c.freeze-reply.ensures (settled_plain c.freeze-reply.result) c.settled.ensures

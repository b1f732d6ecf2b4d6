-- The call, and its answer.
use Rattle.paper.specs.Calls.{Call}
use Rattle.reply.specs.Told.{told_begun}
use Rattle.script.proofs.Answers.{answer-plain, begun-plain}
use Rattle.script.proofs.begin.Goals as goal

pub returns : goal.returns
returns c =
    answer-plain Call.begin c.args.state.now c.begin-reply.new.state (told_begun c.begin-reply.result) c.begin-reply.ensures (begun-plain c.begin-reply.result) c.begun.ensures

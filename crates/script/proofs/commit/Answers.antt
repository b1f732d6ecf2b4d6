-- The call, and its answer.
use Rattle.paper.specs.Calls.{Call}
use Rattle.reply.specs.Told.{told_committed}
use Rattle.script.proofs.Answers.{answer-plain, committed-plain}
use Rattle.script.proofs.commit.Goals as goal

pub returns : goal.returns
returns c =
    answer-plain (Call.commit c.args.handle) c.args.state.now c.commit-reply.new.state (told_committed c.commit-reply.result) c.commit-reply.ensures (committed-plain c.commit-reply.result) c.committed.ensures

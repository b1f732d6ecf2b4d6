-- An opening without runs, over a buffer that is long enough.
use Rattle.paper.specs.Replay.{replay_settings}
use Rattle.reply.specs.Told.{told_settled}
use Rattle.script.proofs.Opening.{opened_in}
use Rattle.script.proofs.open.Goals as goal

pub returns : goal.returns
unfolding replay_settings
returns c = opened_in c.args.state.now c.requires (told_settled c.open.result) c.open.new.state c.open.ensures

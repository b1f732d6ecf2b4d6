use Rattle.std.proofs.Common.{[], ◌∷◌}
use Rattle.paper.specs.Replay.{decimal_of}
use Rattle.printing.proofs.Showing.{shows_both}
use Rattle.printing.proofs.Page.number.Goals as goal

pub returns : goal.returns
returns c = shows_both (32 ∷ []) (decimal_of c.args.n) c.text.ensures c.decimal.ensures

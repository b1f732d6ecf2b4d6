use Rattle.std.proofs.Common.{[], ◌∷◌}
use Rattle.printing.proofs.Showing.{shows_both}
use Rattle.printing.proofs.Page.word.Goals as goal

pub returns : goal.returns
returns c = shows_both (32 ∷ []) c.args.x.now c.text.ensures c.text-2.ensures

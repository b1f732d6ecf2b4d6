use mathlib.Core.Path.{◌∙◌}
use Rattle.raw.proofs.Moves.{over-within-copy}
use Rattle.raw.proofs.shift.Goals as goal

pub returns : goal.returns
returns c = c.copy_within.ensures.after ∙ over-within-copy c.args.s.now c.args.from c.args.to c.args.n c.requires.0

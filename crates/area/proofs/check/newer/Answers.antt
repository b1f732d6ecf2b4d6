use mathlib.Core.Path.{◌∙◌}
use Rattle.area.proofs.Newer.{newer-none, newer-some, below-less}
use Rattle.area.proofs.check.newer.Goals as goal

pub returns-then-tally-eq0 : goal.returns-then-tally-eq0
returns-then-tally-eq0 c = newer-none c.args.tally c.args.others c.if-tally-eq0.true

pub returns-else-tally-eq0 : goal.returns-else-tally-eq0
returns-else-tally-eq0 c =
    c.lt.ensures ∙ below-less c.args.others.latest c.args.tally.earliest ∙ newer-some c.args.tally c.args.others c.if-tally-eq0.false

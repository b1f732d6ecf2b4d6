use mathlib.Core.Path.{◌∙◌}
use Rattle.lsm.specs.Pairs.{own_in}
use Rattle.lsm.proofs.Scanning.{own-rises}
use Rattle.lsm.proofs.NewestLaws.{own-sought}
use Rattle.lsm.proofs.get.own_write.Goals as goal

pub returns : goal.returns
returns c = (
  c.own_of.ensures.0
      ∙ own-sought c.args.key.now (own_in c.args.s.now c.args.start c.args.end) (own_in c.args.s.now c.own_from-at.result c.args.end) (own-rises c.args.s.now c.args.start c.args.end c.requires) c.own_from-at.ensures.kept,
  c.own_of.ensures.1,
)

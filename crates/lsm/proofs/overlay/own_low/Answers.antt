use borrow.Author.Tests.{le-ltb}
use mathlib.Core.Path.{ap, sym, ◌∙◌}
use Rattle.lsm.proofs.PairLaws.{own-none}
use Rattle.lsm.specs.Edges.{bound_of}
use Rattle.lsm.specs.Pairs.{own_low}
use Rattle.lsm.proofs.overlay.own_low.Goals as goal

pub returns-else-at-end : goal.returns-else-at-end
returns-else-at-end c =
    le-ltb c.args.at c.args.end c.if-at-end.false ∙ sym (ap (own_low (bound_of c.args.low)) (own-none c.args.s.now c.args.at c.args.end c.if-at-end.false))

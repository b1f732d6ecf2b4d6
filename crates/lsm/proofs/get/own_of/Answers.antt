use mathlib.Core.Path.{sym, ap, ◌∙◌}
use native.Mathlib.Omega.{arith}
use Rattle.lsm.specs.Answers.{value_in}
use Rattle.lsm.specs.Newest.{own_of}
use Rattle.lsm.proofs.PairLaws.{own-none}
use Rattle.lsm.proofs.NewestLaws.{own_found, found-in}
use Rattle.lsm.proofs.get.own_of.Goals as goal

pub returns-then-at-end : goal.returns-then-at-end
returns-then-at-end c = (sym (ap (own_of c.args.key.now) (own-none c.args.s.now c.args.at c.args.end (omega arith))), tt)

pub returns : goal.returns
returns c = (
  ap (value_in c.args.s.now) c.then_some.ensures ∙ own_found _ _ _ _ _ _ c.pair_at-p.ensures.first c.has_key.ensures,
  found-in _ _ _ _ c.then_some.ensures c.pair_at-p.ensures.inside,
)

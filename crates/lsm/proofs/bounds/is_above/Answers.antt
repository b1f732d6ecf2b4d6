use mathlib.Core.Path.{ap, sym, ◌∙◌}
use Rattle.raw.proofs.Comparing.{says-before, says-at_most}
use Rattle.paper.specs.Bounds.{above}
use Rattle.lsm.specs.Edges.{bound_of}
use Rattle.lsm.proofs.bounds.is_above.Goals as goal

pub returns-in-Included : goal.returns-in-Included
unfolding above
returns-in-Included c = c.is_le.ensures ∙ says-at_most c.in-Included.lo.now c.args.key.now c.compare.result c.compare.ensures ∙ ap (λ b. above (bound_of b) c.args.key.now) (sym c.in-Included.is)

pub returns-in-Excluded : goal.returns-in-Excluded
unfolding above
returns-in-Excluded c = c.is_lt.ensures ∙ says-before c.in-Excluded.lo.now c.args.key.now c.compare-in-Excluded.result c.compare-in-Excluded.ensures ∙ ap (λ b. above (bound_of b) c.args.key.now) (sym c.in-Excluded.is)

pub returns-in-Unbounded : goal.returns-in-Unbounded
unfolding above
returns-in-Unbounded c = ap (λ b. above (bound_of b) c.args.key.now) (sym c.in-Unbounded.is)

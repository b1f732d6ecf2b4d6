use mathlib.Core.Path.{ap, sym, ◌∙◌}
use Rattle.raw.proofs.Comparing.{says-before, says-at_most}
use Rattle.paper.specs.Bounds.{below}
use Rattle.lsm.specs.Edges.{bound_of}
use Rattle.lsm.proofs.bounds.is_below.Goals as goal

pub returns-in-Included : goal.returns-in-Included
unfolding below
returns-in-Included c = c.is_le.ensures ∙ says-at_most c.args.key.now c.in-Included.hi.now c.compare.result c.compare.ensures ∙ ap (λ b. below (bound_of b) c.args.key.now) (sym c.in-Included.is)

pub returns-in-Excluded : goal.returns-in-Excluded
unfolding below
returns-in-Excluded c = c.is_lt.ensures ∙ says-before c.args.key.now c.in-Excluded.hi.now c.compare-in-Excluded.result c.compare-in-Excluded.ensures ∙ ap (λ b. below (bound_of b) c.args.key.now) (sym c.in-Excluded.is)

pub returns-in-Unbounded : goal.returns-in-Unbounded
unfolding below
returns-in-Unbounded c = ap (λ b. below (bound_of b) c.args.key.now) (sym c.in-Unbounded.is)

use Rattle.lsm.proofs.Scanning.{low-some, low-past, low-done}
use Rattle.lsm.specs.Edges.{bound_of}
use mathlib.Core.Path.{sym, ◌∙◌}
use Rattle.lsm.proofs.overlay.own_from.Goals as goal

pub pair_at-at-requires : goal.pair_at-at-requires
pair_at-at-requires c =
    (c.loop-at.invariant.0, low-some c.args.s.now (bound_of c.args.low) c.loop-at.at c.args.end (sym c.own_low.ensures ∙ c.loop-at-test.true))

pub loop-at-preserved : goal.loop-at-preserved
loop-at-preserved c =
    (c.pair_at-at.ensures.rest, low-past c.args.s.now (bound_of c.args.low) c.loop-at.at c.args.end c.pair_at-at.result c.pair_at-at.ensures (sym c.own_low.ensures ∙ c.loop-at-test.true) ∙ c.loop-at.invariant.1)

pub returns : goal.returns
returns c =
    record { lies = c.loop-at.invariant.0; kept = low-done c.args.s.now (bound_of c.args.low) c.loop-at.at c.args.end c.loop-at.invariant.0 (sym c.own_low.ensures ∙ c.loop-at-test.false) ∙ c.loop-at.invariant.1 }

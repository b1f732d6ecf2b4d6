-- The keys decide, and then the stamps.
-- A tactic joins the two, so that the proof can also hold where the code passes the keys' answer through one more step.
use native.Mathlib.Omega.{arith}
use mathlib.Core.Path.{ap, ◌∙◌}
use Prim.Native.Nat.{compare}
use Rattle.raw.specs.Orders.{ordering}
use Rattle.raw.proofs.Comparing.{ordering-then, compare-numbers}
use Rattle.key.proofs.Placing.{by_parts}
use Rattle.key.proofs.compare_version_with.Goals as goal

pub returns : goal.returns
returns c =
    let p = c.version_at-p.result in
    let t = ap ordering c.cmp.ensures ∙ compare-numbers c.args.stamp.time c.new.result.time ∙ ap (compare c.args.stamp.time) c.new.ensures in
    let parts = by_parts c.args.s.now c.args.at p c.version_at-p.ensures c.args.key.now c.args.stamp (ordering c.compare.result) c.compare.ensures in
    grind (arith, ordering-then, t, parts)

use mathlib.Core.Path.{ap, ◌∙◌}
use Prim.Native.Nat.{compare}
use Rattle.std.specs.Ordering.{is_lt}
use Rattle.raw.specs.Orders.{ordering}
use Rattle.raw.proofs.Comparing.{compare-numbers}
use Rattle.key.specs.Places.{version_in}
use Rattle.run.proofs.Checking.{stands_before}
use Rattle.run.proofs.record.is_before.Goals as goal

pub returns : goal.returns
returns c =
    let t = ap ordering c.cmp.ensures ∙ compare-numbers c.args.stamp.time c.new.result.time ∙ ap (compare c.args.stamp.time) c.new.ensures in
    c.is_lt.ensures ∙ ap is_lt c.then.ensures
    ∙ stands_before (version_in c.args.s.now c.args.p) c.args.key.now c.args.stamp c.compare.result c.cmp.result c.compare.ensures t

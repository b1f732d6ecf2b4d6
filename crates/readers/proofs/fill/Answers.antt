-- At the end every row is filled.
use Rattle.std.proofs.Common.{ap, arith}
use Rattle.watermark.specs.declared.pass.Row as Lent
use Rattle.readers.proofs.Columns.{filled}
use Rattle.readers.proofs.fill.Goals as goal

pub returns-clause-times : goal.returns-clause-times
returns-clause-times c =
    filled (λ (r : Lent.Row). r.time) c.loop-i.rows c.args.times.now (omega arith) (λ k h. ap (λ (r : Lent.Row). r.time) (c.loop-i.invariant.1 k (omega arith)))

pub returns-clause-counts : goal.returns-clause-counts
returns-clause-counts c =
    filled (λ (r : Lent.Row). r.count) c.loop-i.rows c.args.counts.now (omega arith) (λ k h. ap (λ (r : Lent.Row). r.count) (c.loop-i.invariant.1 k (omega arith)))

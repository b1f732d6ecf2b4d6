use Rattle.std.proofs.Common.{arith}
use Rattle.std.proofs.lemmas.Grind.{common_steps}
use Rattle.raw.proofs.Octets.{octets-of}
use Rattle.txn.proofs.Judging.{set_verdict}
use Rattle.txn.proofs.check.set_check.Goals as goal

pub returns-then-used-eq0-2 : goal.returns-then-used-eq0-2
returns-then-used-eq0-2 c =
    rw (set_verdict c.args.place.now (octets-of c.args.place.now (λ i. omega (arith, c.type_inv.place i))) c.args.at c.args.count c.requires c.args.serializable c.used_at-used.result c.used_at-used.ensures) (grind (arith, common_steps))

pub returns-else-used-eq0-2 : goal.returns-else-used-eq0-2
returns-else-used-eq0-2 c =
    rw (set_verdict c.args.place.now (octets-of c.args.place.now (λ i. omega (arith, c.type_inv.place i))) c.args.at c.args.count c.requires c.args.serializable c.used_at-used.result c.used_at-used.ensures) (grind (arith, common_steps))

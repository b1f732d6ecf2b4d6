use Rattle.std.proofs.Common.{arith}
use Rattle.std.proofs.lemmas.Grind.{common_steps}
use Rattle.raw.proofs.Octets.{octets-of}
use Rattle.txn.proofs.Judging.{own_verdict}
use Rattle.txn.proofs.Rooms.own_check.Goals as goal

pub returns-then-used-self : goal.returns-then-used-self
returns-then-used-self c =
    rw (own_verdict c.args.self c.args.place.now (octets-of c.args.place.now (λ i. omega (arith, c.type_inv.place i))) c.requires c.used_at-used.result c.used_at-used.ensures) (grind (arith, common_steps))

pub returns-else-used-self : goal.returns-else-used-self
returns-else-used-self c =
    rw (own_verdict c.args.self c.args.place.now (octets-of c.args.place.now (λ i. omega (arith, c.type_inv.place i))) c.requires c.used_at-used.result c.used_at-used.ensures) (grind (arith, common_steps))

use Rattle.std.proofs.Common.{arith}
use Rattle.raw.proofs.Octets.{octets-of}
use Rattle.overlay.proofs.own.Own.new.Goals as goal

pub invariant_of-result : goal.invariant_of-result
invariant_of-result c = record { octets = octets-of c.args.bytes.now (λ i. omega (arith, c.type_inv.bytes i)); whole = c.requires }

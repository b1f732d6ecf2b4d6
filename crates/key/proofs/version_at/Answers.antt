use native.Mathlib.Omega.{arith}
use Rattle.key.proofs.Records.{here}
use Rattle.key.proofs.version_at.Goals as goal

pub overflow_add-ks : goal.overflow_add-ks
overflow_add-ks c = omega (arith, here c.args.s.now c.args.at c.requires)

pub length_at-requires : goal.length_at-requires
length_at-requires c = omega (arith, here c.args.s.now c.args.at c.requires)

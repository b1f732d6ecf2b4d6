use native.Mathlib.Omega.{arith}
use Rattle.raw.proofs.Octets.{octets-of}
use Rattle.area.proofs.Counting.{count-start, count-done, count_next}
use Rattle.area.proofs.cursors.count_images.Goals as goal

pub loop-behind-init : goal.loop-behind-init
loop-behind-init c = count-start c.args.images.now (octets-of c.args.images.now (λ i. omega (arith, c.type_inv.images i))) c.requires

pub loop-behind-preserved : goal.loop-behind-preserved
loop-behind-preserved c =
    count_next c.args.images.now c.loop-behind.rest.now c.loop-behind.count c.loop-behind.invariant c.in-Some.field-0-0.now c.in-Some.behind.now c.in-Some.ensures

pub returns : goal.returns
returns c = count-done c.args.images.now c.loop-behind.rest.now c.loop-behind.count c.loop-behind.invariant c.in_default.ensures

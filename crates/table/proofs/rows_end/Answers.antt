-- The used bytes, and the 8 bytes of their number.
use native.Mathlib.Omega.{arith}
use Rattle.raw.proofs.Octets.{octets-of}
use Rattle.table.proofs.RowBytes.{region, region-long, used-at}
use Rattle.table.proofs.rows_end.Goals as goal

pub number-requires-clause-there : goal.number-requires-clause-there
number-requires-clause-there c =
    let R = region c.args.region.now (octets-of _ (λ i. omega (arith, c.type_inv.region i))) c.requires in
    omega (arith, region-long c.args.region.now R)

pub overflow_add-result : goal.overflow_add-result
overflow_add-result c =
    let R = region c.args.region.now (octets-of _ (λ i. omega (arith, c.type_inv.region i))) c.requires in
    omega (arith, c.number.ensures.value, used-at c.args.region.now R, region-long c.args.region.now R)

pub returns : goal.returns
returns c =
    let R = region c.args.region.now (octets-of _ (λ i. omega (arith, c.type_inv.region i))) c.requires in
    omega (arith, c.number.ensures.value, used-at c.args.region.now R, region-long c.args.region.now R)

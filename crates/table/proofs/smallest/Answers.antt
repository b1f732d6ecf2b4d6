-- The first row's timestamp, where there is a row.
use native.Mathlib.Omega.{arith}
use mathlib.Core.Path.{◌∙◌}
use Prim.Native.Nat.{◌<◌}
use lib.ListN.{length}
use Rattle.raw.proofs.Octets.{octets-of}
use Rattle.table.specs.Rows.{rows_in}
use Rattle.table.proofs.RowLaws.{watermark-none, watermark-first}
use Rattle.table.proofs.RowBytes.{region, region-long, used-at, time-at}
use Rattle.table.proofs.smallest.Goals as goal

pub number-requires-clause-there : goal.number-requires-clause-there
number-requires-clause-there c =
    let R = region c.args.region.now (octets-of _ (λ i. omega (arith, c.type_inv.region i))) c.requires in
    omega (arith, region-long c.args.region.now R)

pub returns-then-number-eq0 : goal.returns-then-number-eq0
returns-then-number-eq0 c =
    let R = region c.args.region.now (octets-of _ (λ i. omega (arith, c.type_inv.region i))) c.requires in
    watermark-none c.args.clock (rows_in c.args.region.now) (omega (arith, c.number.ensures.value, used-at c.args.region.now R))

pub number-requires-2-clause-there : goal.number-requires-2-clause-there
number-requires-2-clause-there c =
    let R = region c.args.region.now (octets-of _ (λ i. omega (arith, c.type_inv.region i))) c.requires in
    omega (arith, region-long c.args.region.now R, used-at c.args.region.now R, c.number.ensures.value)

pub returns : goal.returns
returns c =
    let R = region c.args.region.now (octets-of _ (λ i. omega (arith, c.type_inv.region i))) c.requires in
    let l : 0 < length (rows_in c.args.region.now) = omega (arith, c.number.ensures.value, used-at c.args.region.now R) in
    c.number-2.ensures.value ∙ time-at c.args.region.now R 0 l ∙ watermark-first c.args.clock (rows_in c.args.region.now) l

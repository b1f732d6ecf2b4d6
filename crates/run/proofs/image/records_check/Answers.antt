use native.Mathlib.Omega.{arith}
use Rattle.raw.proofs.Octets.{octets-of}
use Rattle.run.proofs.Checking.{check-start, check_done, check-fits, check-next}
use Rattle.run.proofs.image.records_check.Goals as goal

pub loop-last-init : goal.loop-last-init
loop-last-init c =
    check-start c.args.records.now (octets-of c.args.records.now (λ i. omega (arith, c.type_inv.records i))) c.none-tally.result c.before_all-last.result c.none-tally.ensures c.before_all-last.ensures

pub with_record-tally-requires : goal.with_record-tally-requires
with_record-tally-requires c =
    omega (arith, check-fits c.args.records.now (octets-of c.args.records.now (λ i. omega (arith, c.type_inv.records i))) c.loop-last.tally c.loop-last.last c.loop-last.invariant c.in_ok-last.last c.in_ok-last.ensures)

pub loop-last-preserved : goal.loop-last-preserved
loop-last-preserved c =
    check-next c.args.records.now (octets-of c.args.records.now (λ i. omega (arith, c.type_inv.records i))) c.loop-last.tally c.loop-last.last c.loop-last.invariant c.in_ok-last.last c.in_ok-last.ensures c.with_record-tally.result c.with_record-tally.ensures

pub returns : goal.returns
returns c =
    check_done c.args.records.now (octets-of c.args.records.now (λ i. omega (arith, c.type_inv.records i))) c.loop-last.tally c.loop-last.last c.loop-last.invariant c.loop-last-test.false

use native.Mathlib.Omega.{arith}
use lib.ListN.{length}
use Rattle.raw.proofs.Octets.{octets-of}
use Rattle.key.specs.Places.{version_in}
use Rattle.run.proofs.Checking.{risen-cut, risen-told}
use Rattle.run.proofs.image.risen_at.Goals as goal

pub returns-in_err-place : goal.returns-in_err-place
returns-in_err-place c =
    rw c.from_residual.ensures
    (risen-cut c.args.records.now c.args.last.ve (length c.args.records.now) (version_in c.args.records.now c.args.last) c.requires.1 (omega arith) c.in_err-place.ensures)

pub returns : goal.returns
returns c =
    rw c.then_some.ensures
    (risen-told c.args.records.now c.args.last (length c.args.records.now) c.in_ok-place.place c.new.result c.is_before.result c.requires.1 (omega arith) (octets-of c.args.records.now (λ i. omega (arith, c.type_inv.records i))) c.in_ok-place.ensures c.new.ensures c.is_before.ensures)

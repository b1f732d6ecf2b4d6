use native.Mathlib.Omega.{arith}
use Rattle.area.proofs.Sizing.{split-short, split-told}
use Rattle.area.proofs.check.split_sized.Goals as goal

pub returns-in_err-size : goal.returns-in_err-size
returns-in_err-size c = rw c.from_residual.ensures (split-short c.args.bytes.now (omega (arith, c.in_err-size.ensures.cases)))

pub returns : goal.returns
returns c =
    let f = c.in_ok-size.ensures.cases in
    split-told c.args.bytes.now c.in_ok-size.size.now c.in_ok-size.rest.now f.1 f.2 f.0 c.number.result c.number.ensures.value c.split_at_checked-2.result c.split_at_checked-2.ensures.cases

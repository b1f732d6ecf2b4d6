use Rattle.area.proofs.FreezeLaws.{there, empty-is}
use Rattle.raw.proofs.Octets.{octets-of}
use native.Mathlib.Omega.{arith}
use Rattle.area.proofs.freezing.is_empty.Goals as goal

pub number-requires : goal.number-requires
number-requires c =
    let t = there c.args.state.now (octets-of c.args.state.now (λ i. omega (arith, c.type_inv.state i))) c.args.active c.args.area c.requires in omega (arith, t.before, t.ends)

pub returns : goal.returns
returns c =
    empty-is c.args.state.now (octets-of c.args.state.now (λ i. omega (arith, c.type_inv.state i))) c.args.active c.args.area c.requires c.number.result c.number.ensures.value

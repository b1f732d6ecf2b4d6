use native.Mathlib.Omega.{arith}
use mathlib.Core.Path.{ap, ◌∙◌}
use lib.ListN.{length}
use Prim.Native.Nat.{◌+◌}
use Rattle.paper.specs.Keys.{Bytes}
use Rattle.paper.specs.Image.{big_endian}
use Rattle.paper.proofs.ImageLaws.{length-big_endian}
use Rattle.raw.specs.Bytes.{over}
use Rattle.raw.proofs.Over.{over-after}
use Rattle.raw.proofs.put_sized.Goals as goal

pub returns : goal.returns
returns g c =
    let n = length-big_endian g.row.N (length c.args.x.now) in
    c.copy_at.ensures
    ∙ ap (λ (t : Bytes). over t (c.args.at + g.row.N) c.args.x.now) c.put_number.ensures
    ∙ over-after c.args.s.now c.args.at (big_endian g.row.N (length c.args.x.now)) (omega arith) (c.args.at + g.row.N) c.args.x.now (omega (arith, n))

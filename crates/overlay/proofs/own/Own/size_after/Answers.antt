use Rattle.std.proofs.Common.{arith}
use Rattle.overlay.proofs.Putting.{size-is}
use Rattle.overlay.proofs.own.Own.size_after.Goals as goal

pub returns : goal.returns
returns c =
    let h = c.hole-hole.ensures in
    let e = size-is c.args.self.bytes.now c.args.key.now c.args.value.now c.hole-hole.result.start c.hole-hole.result.end h in
    omega (arith, e, h.mid, h.high)

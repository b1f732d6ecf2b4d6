use native.Mathlib.Omega.{arith}
use mathlib.Core.Path.{refl, ap, ◌∙◌}
use Prim.Native.Nat.{ℕ, ◌+◌, ◌-◌, ◌*◌}
use Rattle.paper.specs.Image.{number_from}
use Rattle.raw.specs.Bytes.{part}
use Rattle.raw.proofs.Numbers.{within, byte-within, number-snoc, byte-more, room-for-byte}
use Rattle.raw.proofs.number.Goals as goal

pub loop-b-init : goal.loop-b-init
unfolding number_from
loop-b-init g c = (refl, omega arith)

pub overflow_mul-n : goal.overflow_mul-n
overflow_mul-n g c =
    let i = within c.args.s.now c.args.at g.row.N c.loop-b.b-index c.requires.there c.loop-b-test.true in
    let h = room-for-byte c.loop-b.n c.loop-b.b-index g.row.N c.loop-b.invariant.1 i c.requires.narrow in
    record { fits = omega (arith, h) }

pub loop-b-preserved : goal.loop-b-preserved
loop-b-preserved g c =
    let i = within c.args.s.now c.args.at g.row.N c.loop-b.b-index c.requires.there c.loop-b-test.true in
    let e = c.from.ensures ∙ byte-within c.args.s.now c.args.at g.row.N c.loop-b.b-index i in (
      ap (λ (b : ℕ). c.loop-b.n * 256 + b) c.from.ensures ∙ number-snoc (part c.args.s.now c.args.at (c.args.at + g.row.N - c.args.at)) c.loop-b.b-index c.loop-b.n c.loop-b-test.true c.loop-b.invariant.0,
      byte-more c.loop-b.n c.loop-b.b-index c.from.result c.loop-b.invariant.1 (omega (arith, e, c.type_inv.s (c.args.at + c.loop-b.b-index))),
    )

use native.Mathlib.Omega.{arith}
use lib.ListN.{length, length-append}
use Prim.Native.Nat.{◌+◌}
use mathlib.Core.Path.{ap, ◌∙◌}
use Rattle.layout.specs.Layout.{pair_stream}
use Rattle.layout.specs.Codec.{sized, plain, both, via}
use Rattle.paper.proofs.ImageLaws.{length-big_endian}
use Rattle.paper.specs.Image.{big_endian}
use Rattle.paper.specs.Keys.{Bytes}
use Rattle.raw.proofs.Over.{over-after}
use Rattle.raw.specs.Bytes.{over}
use Rattle.overlay.proofs.put_entry.Goals as goal

pub returns : goal.returns
unfolding pair_stream via both sized plain
returns c =
    c.put_sized-2.ensures ∙ ap (λ (t : Bytes). over t (c.args.at + 2 + length c.args.key.now) ((sized 2 plain).put c.args.value.now)) c.put_sized.ensures
    ∙ over-after c.args.s.now c.args.at ((sized 2 plain).put c.args.key.now) (omega arith) (c.args.at + 2 + length c.args.key.now) ((sized 2 plain).put c.args.value.now) (omega (arith, length-append (big_endian 2 (length c.args.key.now)) c.args.key.now, length-big_endian 2 (length c.args.key.now)))

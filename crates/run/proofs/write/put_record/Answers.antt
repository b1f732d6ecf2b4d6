use mathlib.Core.Path.{ap, ◌∙◌}
use native.Mathlib.Omega.{arith}
use Prim.Native.Nat.{◌+◌}
use lib.ListN.{length}
use Rattle.paper.specs.Keys.{Bytes}
use Rattle.paper.specs.Image.{big_endian}
use Rattle.raw.specs.Bytes.{over}
use Rattle.run.specs.Writing.{field_bytes}
use Rattle.run.proofs.Writing.{put_record}
use Rattle.run.proofs.write.put_record.Goals as goal

pub returns : goal.returns
returns c =
    c.put_sized-2.ensures
    ∙ ap (λ (t : Bytes). over t (c.args.at + 2 + length c.args.key.now + 8) (field_bytes c.args.value.now)) (c.put_number.ensures ∙ ap (λ (t : Bytes). over t (c.args.at + 2 + length c.args.key.now) (big_endian 8 c.args.time)) c.put_sized.ensures)
    ∙ put_record c.args.s.now c.args.at c.args.key.now c.args.time c.args.value.now (omega arith)

use mathlib.Core.Path.{ap, ◌∙◌}
use native.Mathlib.Omega.{arith}
use Prim.Native.Nat.{◌+◌}
use Rattle.paper.specs.Keys.{Bytes}
use Rattle.paper.specs.Image.{big_endian, format_version}
use Rattle.raw.specs.Bytes.{over}
use Rattle.run.proofs.Writing.{put-head}
use Rattle.run.proofs.write.put_head.Goals as goal

pub returns : goal.returns
returns c =
    c.put_number-2.ensures
    ∙ ap (λ (t : Bytes). over t (c.args.at + 5) (big_endian 4 c.args.count)) (c.put_number.ensures ∙ ap (λ (t : Bytes). over t (c.args.at + 3) (big_endian 2 format_version)) c.copy_at.ensures)
    ∙ put-head c.args.s.now c.args.at c.args.count (omega arith)

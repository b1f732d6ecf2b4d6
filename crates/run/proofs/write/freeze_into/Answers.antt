use mathlib.Core.Path.{ap, ◌∙◌}
use native.Mathlib.Omega.{arith}
use Prim.Native.Nat.{◌-◌}
use Rattle.paper.specs.Keys.{Bytes}
use Rattle.raw.specs.Bytes.{part, over}
use Rattle.run.specs.Writing.{head_bytes}
use Rattle.run.proofs.Writing.{frozen}
use Rattle.run.proofs.write.freeze_into.Goals as goal

pub returns : goal.returns
returns c =
    c.put_head.ensures
    ∙ ap (λ (t : Bytes). over t c.args.to (head_bytes c.count_records-count.result)) c.shift.ensures
    ∙ frozen c.args.s.now c.args.to c.count_records-count.result (part c.args.s.now c.args.from (c.args.end - c.args.from)) c.requires.3 (omega arith) c.count_records-count.ensures

use mathlib.Core.Path.{ap, ◌∙◌}
use Rattle.std.specs.Prelude.{Some}
use Rattle.run.proofs.Stepping.{step_end, step-told}
use Rattle.run.proofs.reader.Reader.current.Goals as goal

pub returns-then-self : goal.returns-then-self
returns-then-self c = step_end c.args.self.src.now c.args.self.at c.if-self.true

pub returns : goal.returns
returns c =
    ap Some c.ok_or.ensures.value ∙ step-told c.args.self.src.now c.args.self.at c.if-self.false c.record_at.result c.record_at.ensures

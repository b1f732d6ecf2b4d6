use mathlib.Core.Path.{sym, ap, ◌∙◌}
use lib.ListN.{length}
use Rattle.std.specs.Prelude.{Some}
use Rattle.run.specs.Stepping.{behind, after_at}
use Rattle.run.proofs.reader.Reader.after.Goals as goal

pub returns-in-Some-Ok : goal.returns-in-Some-Ok
unfolding after_at
returns-in-Some-Ok c = ap (behind (length c.args.self.src.now)) (sym (c.in-Some-Ok.is ∙ ap Some c.in-Some-Ok.field-0-is) ∙ c.current.ensures)

pub returns-in-Some-Err : goal.returns-in-Some-Err
unfolding after_at
returns-in-Some-Err c = ap (behind (length c.args.self.src.now)) (sym (c.in-Some-Err.is ∙ ap Some c.in-Some-Err.field-0-is) ∙ c.current.ensures)

pub returns-in-None : goal.returns-in-None
unfolding after_at
returns-in-None c = ap (behind (length c.args.self.src.now)) (sym c.in-None.is ∙ c.current.ensures)

-- The verdict's case has its number.
use mathlib.Core.Path.{sym, ap, ◌∙◌}
use Rattle.std.specs.Prelude.{Err}
use Rattle.paper.specs.Image.{verdict}
use Rattle.probe.proofs.Telling.{told-good, told-broken, told-foreign}
use Rattle.probe.proofs.probe_verdict.Goals as goal

pub returns-in-Ok : goal.returns-in-Ok
returns-in-Ok c = told-good (verdict c.args.image.now) _ (sym c.in-Ok.is ∙ c.verdict.ensures)

pub returns-in-Err-Broken : goal.returns-in-Err-Broken
returns-in-Err-Broken c = told-broken (verdict c.args.image.now) (sym (c.in-Err-Broken.is ∙ ap Err c.in-Err-Broken.field-0-is) ∙ c.verdict.ensures)

pub returns-in-Err-Foreign : goal.returns-in-Err-Foreign
returns-in-Err-Foreign c = told-foreign (verdict c.args.image.now) (sym (c.in-Err-Foreign.is ∙ ap Err c.in-Err-Foreign.field-0-is) ∙ c.verdict.ensures)

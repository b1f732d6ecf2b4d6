use mathlib.Core.Path.{ap, ◌∙◌}
use Rattle.paper.specs.Keys.{same_key}
use Rattle.raw.proofs.Slices.{equal_is}
use Rattle.lsm.proofs.answer.Span.has_key.Goals as goal

pub returns : goal.returns
returns c = equal_is c.args.key.now c.key.result.now _ c.eq.ensures ∙ ap (same_key c.args.key.now) c.key.ensures

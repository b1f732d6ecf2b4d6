use mathlib.Core.Path.{ap, ◌∙◌}
use Rattle.paper.specs.Lists.{is_lt}
use Rattle.paper.specs.Keys.{Bytes, cmp_key}
use Rattle.raw.proofs.Comparing.{says-before}
use Rattle.lsm.proofs.answer.Span.is_before.Goals as goal

pub returns : goal.returns
returns c = c.is_lt.ensures ∙ says-before c.key.result.now c.args.key.now c.compare.result c.compare.ensures ∙ ap (λ (k : Bytes). is_lt (cmp_key k c.args.key.now)) c.key.ensures

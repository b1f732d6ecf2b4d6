use Rattle.std.proofs.Common.{◌∙◌}
use Rattle.printing.proofs.Digits.{decimals-are}
use Rattle.printing.proofs.Showing.{shows_as}
use Rattle.printing.proofs.Page.decimal.Goals as goal

pub returns : goal.returns
returns c = shows_as (c.as_bytes.ensures.value ∙ c.format.ensures.text ∙ decimals-are c.args.n c.ranges.n.fits) c.text.ensures

use native.Mathlib.Omega.{arith}
use mathlib.Core.Path.{◌∙◌}
use Rattle.raw.proofs.Octets.{octets-of}
use Rattle.run.proofs.Told.{passed-on, told-cut, told-foreign, told-headless, told-wrong, told-miscounted, told-good}
use Rattle.run.proofs.image.marked.Goals as goal

pub returns-then-image-lt5 : goal.returns-then-image-lt5
returns-then-image-lt5 c = told-cut c.args.image.now c.requires c.if-image-lt5.true

pub returns-then-number-ne1 : goal.returns-then-number-ne1
returns-then-number-ne1 c = told-foreign c.args.image.now c.requires c.if-image-lt5.false c.number.result c.number.ensures.value c.if-number-ne1.true

pub returns-then-image-lt9 : goal.returns-then-image-lt9
returns-then-image-lt9 c =
    told-headless c.args.image.now c.requires c.if-image-lt5.false c.number.result c.number.ensures.value c.if-number-ne1.false c.if-image-lt9.true

pub returns-in_err-tally : goal.returns-in_err-tally
returns-in_err-tally c =
    passed-on c.from_residual.result c.in_err-tally.field-0.0 c.from_residual.ensures.1
    ∙ told-wrong c.args.image.now c.requires c.if-image-lt5.false c.number.result c.number.ensures.value c.if-number-ne1.false (octets-of c.args.image.now (λ i. omega (arith, c.type_inv.image i))) c.if-image-lt9.false c.records_check.result c.records_check.ensures c.in_err-tally.field-0.0 c.in_err-tally.ensures.value

pub returns-then-number-tally : goal.returns-then-number-tally
returns-then-number-tally c =
    told-miscounted c.args.image.now c.requires c.if-image-lt5.false c.number.result c.number.ensures.value c.if-number-ne1.false (octets-of c.args.image.now (λ i. omega (arith, c.type_inv.image i))) c.if-image-lt9.false c.records_check.result c.records_check.ensures c.in_ok-tally.tally c.in_ok-tally.ensures.value c.number-2.result c.number-2.ensures.value c.if-number-tally.true

pub returns : goal.returns
returns c =
    told-good c.args.image.now c.requires c.if-image-lt5.false c.number.result c.number.ensures.value c.if-number-ne1.false (octets-of c.args.image.now (λ i. omega (arith, c.type_inv.image i))) c.if-image-lt9.false c.records_check.result c.records_check.ensures c.in_ok-tally.tally c.in_ok-tally.ensures.value c.number-2.result c.number-2.ensures.value c.if-number-tally.false

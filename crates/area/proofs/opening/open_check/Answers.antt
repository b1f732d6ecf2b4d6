use native.Mathlib.Omega.{arith}
use mathlib.Core.Path.{sym, ◌∙◌}
use Rattle.raw.proofs.Octets.{octets-of}
use Rattle.area.proofs.OpeningLaws.{open-start, open_done, open-bad, open_next}
use Rattle.area.proofs.opening.open_check.Goals as goal

pub loop-i-init : goal.loop-i-init
loop-i-init c = open-start c.args.images.now c.args.lengths.now (octets-of c.args.images.now (λ i. omega (arith, c.type_inv.images i)))

pub returns-in-Err : goal.returns-in-Err
returns-in-Err c =
    open-bad c.args.images.now c.args.lengths.now c.loop-i.rest.now c.loop-i.i c.loop-i.clock c.loop-i.invariant c.loop-i-test.true c.split_image.result.0.now c.split_image.ensures.image c.in-Err.why (sym c.in-Err.is ∙ c.verdict.ensures)

pub loop-i-preserved : goal.loop-i-preserved
loop-i-preserved c =
    open_next c.args.images.now c.args.lengths.now c.loop-i.rest.now c.loop-i.i c.loop-i.clock c.loop-i.invariant c.loop-i-test.true c.split_image.result.0.now c.split_image.ensures.image c.in-Ok.latest (sym c.in-Ok.is ∙ c.verdict.ensures) c.max-clock.result c.max-clock.ensures c.split_image.result.1.now c.split_image.ensures.behind

pub returns : goal.returns
returns c = open_done c.args.images.now c.args.lengths.now c.loop-i.rest.now c.loop-i.i c.loop-i.clock c.loop-i.invariant c.loop-i-test.false

use native.Mathlib.Omega.{arith}
use mathlib.Core.Path.{sym, ap, ◌∙◌}
use Rattle.std.specs.Result.{result_ok}
use Rattle.layout.specs.Layout.{image}
use Rattle.area.specs.Told.{with_run}
use Rattle.area.proofs.Sizing.{sized-none}
use Rattle.raw.proofs.Octets.{octets-of}
use Rattle.area.proofs.Imaging.{image-bad, image-good}
use Rattle.area.proofs.AreaLaws.{pass-start, pass-done, pass-wrong, pass-next}
use Rattle.area.proofs.check.images_check.Goals as goal

pub loop-rest-init : goal.loop-rest-init
loop-rest-init c = pass-start c.args.images.now c.none-others.result (octets-of c.args.images.now (λ i. omega (arith, c.type_inv.images i))) c.none-others.ensures

pub returns-in_err-image : goal.returns-in_err-image
returns-in_err-image c =
    c.from_residual.ensures ∙ pass-wrong c.args.images.now c.loop-rest.others c.loop-rest.rest.now c.loop-rest.invariant (sym c.is_empty.ensures ∙ c.loop-rest-test.true) (sized-none image c.loop-rest.rest.now c.in_err-image.ensures)

pub returns-in_err-latest : goal.returns-in_err-latest
returns-in_err-latest c =
    c.from_residual-in_err-latest.ensures
    ∙ pass-wrong c.args.images.now c.loop-rest.others c.loop-rest.rest.now c.loop-rest.invariant (sym c.is_empty.ensures ∙ c.loop-rest-test.true)
    (image-bad c.loop-rest.rest.now c.in_ok-image.image.now c.in_ok-image.behind.now c.in_ok-image.ensures (c.in_err-latest.ensures.value ∙ ap result_ok c.verdict.ensures))

pub loop-rest-preserved : goal.loop-rest-preserved
loop-rest-preserved c =
    let read = image-good c.loop-rest.rest.now c.in_ok-image.image.now c.in_ok-image.behind.now c.in_ok-image.ensures c.loop-rest.invariant.bytes c.in_ok-latest.latest (c.in_ok-latest.ensures.value ∙ ap result_ok c.verdict.ensures) in
    pass-next c.args.images.now c.loop-rest.others c.loop-rest.rest.now c.loop-rest.invariant (sym c.is_empty.ensures ∙ c.loop-rest-test.true) c.in_ok-image.image.now c.in_ok-image.behind.now c.in_ok-image.ensures _ read c.with_run-others.result (c.with_run-others.ensures ∙ ap (with_run c.loop-rest.others) c.then_some.ensures)

pub returns : goal.returns
returns c = pass-done c.args.images.now c.loop-rest.others c.loop-rest.rest.now c.loop-rest.invariant (sym c.is_empty.ensures ∙ c.loop-rest-test.false)

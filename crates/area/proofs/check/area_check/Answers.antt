use native.Mathlib.Omega.{arith}
use mathlib.Core.Path.{sym, ◌∙◌}
use mathlib.Core.Bool.{true, false}
use Rattle.std.specs.Prelude.{Some, None}
use Rattle.raw.proofs.Octets.{octets-of}
use Rattle.area.proofs.AreaLaws.{says, late-is, area-cut, area-broken, area-late, area-many, area-full, area-good}
use Rattle.area.proofs.check.area_check.Goals as goal

pub returns-in_err-images : goal.returns-in_err-images
returns-in_err-images c =
    λ st w. c.from_residual.ensures ∙ area-cut c.args.part.now c.args.clock (octets-of c.args.part.now (λ i. omega (arith, c.type_inv.part i))) c.requires st w c.in_err-images.ensures

pub returns-in_err-others : goal.returns-in_err-others
returns-in_err-others c =
    λ st w.
    c.from_residual-in_err-others.ensures ∙ area-broken c.args.part.now c.args.clock (octets-of c.args.part.now (λ i. omega (arith, c.type_inv.part i))) c.requires st w c.in_ok-images.images.now c.in_ok-images.field-0-1.now c.in_ok-images.ensures (says c.in_ok-images.images.now None c.in_err-others.ensures)

pub returns-then-lt : goal.returns-then-lt
returns-then-lt c =
    λ st w.
    area-late c.args.part.now c.args.clock (octets-of c.args.part.now (λ i. omega (arith, c.type_inv.part i))) c.requires st w c.in_ok-images.images.now c.in_ok-images.field-0-1.now c.in_ok-images.ensures c.in_ok-others.others (says c.in_ok-images.images.now (Some c.in_ok-others.others) c.in_ok-others.ensures) (late-is c.args.clock c.in_ok-others.others.latest true (sym c.if-lt.true ∙ c.lt.ensures))

pub returns-then-others-gt16 : goal.returns-then-others-gt16
returns-then-others-gt16 c =
    λ st w.
    area-many c.args.part.now c.args.clock (octets-of c.args.part.now (λ i. omega (arith, c.type_inv.part i))) c.requires st w c.in_ok-images.images.now c.in_ok-images.field-0-1.now c.in_ok-images.ensures c.in_ok-others.others (says c.in_ok-images.images.now (Some c.in_ok-others.others) c.in_ok-others.ensures) (late-is c.args.clock c.in_ok-others.others.latest false (sym c.if-lt.false ∙ c.lt.ensures)) c.if-others-gt16.true

pub returns-then-part-others : goal.returns-then-part-others
returns-then-part-others c =
    λ st w.
    area-full c.args.part.now c.args.clock (octets-of c.args.part.now (λ i. omega (arith, c.type_inv.part i))) c.requires st w c.in_ok-images.images.now c.in_ok-images.field-0-1.now c.in_ok-images.ensures c.in_ok-others.others (says c.in_ok-images.images.now (Some c.in_ok-others.others) c.in_ok-others.ensures) (late-is c.args.clock c.in_ok-others.others.latest false (sym c.if-lt.false ∙ c.lt.ensures)) c.if-others-gt16.false c.if-part-others.true

pub returns : goal.returns
returns c =
    λ st w. area-good c.args.part.now c.args.clock (octets-of c.args.part.now (λ i. omega (arith, c.type_inv.part i))) c.requires st w c.in_ok-images.images.now c.in_ok-images.field-0-1.now c.in_ok-images.ensures c.in_ok-others.others (says c.in_ok-images.images.now (Some c.in_ok-others.others) c.in_ok-others.ensures) (late-is c.args.clock c.in_ok-others.others.latest false (sym c.if-lt.false ∙ c.lt.ensures)) c.if-others-gt16.false c.if-part-others.false

-- Where t has a row its count decides, and where it has none the room does.
use native.Mathlib.Omega.{arith}
use mathlib.Core.Path.{◌≡◌, sym, ◌∙◌}
use mathlib.Core.Bool.{true}
use Rattle.paper.specs.Keys.{Bytes, octets}
use Rattle.raw.proofs.Octets.{octets-of}
use Rattle.table.proofs.RowSpots.{here-most, here-fine, gap-holds, gap-full, gap-fine}
use Rattle.table.proofs.check.Goals as goal

pub overflow_mul-gap : goal.overflow_mul-gap
overflow_mul-gap c =
    let b : Bytes = c.args.region.now in
    let y : octets b ≡ true = octets-of b (λ i. omega (arith, c.type_inv.region i)) in
    omega (arith, (gap-holds b y c.requires c.args.t c.in-Err.gap (sym c.in-Err.is ∙ c.spot_of.ensures)).0.fits, c.well_formed)

pub overflow_add-gap : goal.overflow_add-gap
overflow_add-gap c =
    let b : Bytes = c.args.region.now in
    let y : octets b ≡ true = octets-of b (λ i. omega (arith, c.type_inv.region i)) in
    omega (arith, (gap-holds b y c.requires c.args.t c.in-Err.gap (sym c.in-Err.is ∙ c.spot_of.ensures)).0.fits, c.well_formed)

pub returns-in-Ok : goal.returns-in-Ok
returns-in-Ok c =
    let b : Bytes = c.args.region.now in
    let y : octets b ≡ true = octets-of b (λ i. omega (arith, c.type_inv.region i)) in
    here-most b y c.requires c.args.t _ (sym c.in-Ok.is ∙ c.spot_of.ensures) (c.if-spot.true)

pub returns-in-Err : goal.returns-in-Err
returns-in-Err c =
    let b : Bytes = c.args.region.now in
    let y : octets b ≡ true = octets-of b (λ i. omega (arith, c.type_inv.region i)) in
    gap-full b y c.requires c.args.t _ (sym c.in-Err.is ∙ c.spot_of.ensures) (omega arith)

pub returns-in_default : goal.returns-in_default
returns-in_default c =
    let b : Bytes = c.args.region.now in
    let y : octets b ≡ true = octets-of b (λ i. omega (arith, c.type_inv.region i)) in
    here-fine b y c.requires c.args.t _ (sym c.in-Ok.is ∙ c.spot_of.ensures) c.if-spot.false

pub returns-in_default-2 : goal.returns-in_default-2
returns-in_default-2 c =
    let b : Bytes = c.args.region.now in
    let y : octets b ≡ true = octets-of b (λ i. omega (arith, c.type_inv.region i)) in
    gap-fine b y c.requires c.args.t _ (sym c.in-Err.is ∙ c.spot_of.ensures) (omega arith)

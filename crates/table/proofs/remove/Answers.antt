-- A row taken away, a count that falls, or nothing.
use mathlib.Core.Bool.{true}
use native.Mathlib.Omega.{arith}
use mathlib.Core.Path.{◌≡◌, sym, ◌∙◌}
use Rattle.paper.specs.Keys.{Bytes, octets}
use Rattle.raw.proofs.Octets.{octets-of}
use Rattle.table.proofs.RowSpots.{here-within, here-holds, here-last, here-less, gap-remove}
use Rattle.table.proofs.remove.Goals as goal

pub drop_row-requires : goal.drop_row-requires
drop_row-requires c =
    let b : Bytes = c.args.region.now in
    let y : octets b ≡ true = octets-of b (λ i. omega (arith, c.slice_known-1.given i)) in
    here-holds b y c.requires c.args.t c.in-Ok.spot (sym c.in-Ok.is ∙ c.spot_of.ensures)

pub overflow_mul-spot : goal.overflow_mul-spot
overflow_mul-spot c =
    let b : Bytes = c.args.region.now in
    let y : octets b ≡ true = octets-of b (λ i. omega (arith, c.slice_known-1.given i)) in
    omega (arith, here-within b y c.requires c.args.t c.in-Ok.spot (sym c.in-Ok.is ∙ c.spot_of.ensures), c.well_formed)

pub overflow_add-spot : goal.overflow_add-spot
overflow_add-spot c =
    let b : Bytes = c.args.region.now in
    let y : octets b ≡ true = octets-of b (λ i. omega (arith, c.slice_known-1.given i)) in
    omega (arith, here-within b y c.requires c.args.t c.in-Ok.spot (sym c.in-Ok.is ∙ c.spot_of.ensures), c.well_formed)

pub put_number-requires-clause-there : goal.put_number-requires-clause-there
put_number-requires-clause-there c =
    let b : Bytes = c.args.region.now in
    let y : octets b ≡ true = octets-of b (λ i. omega (arith, c.slice_known-1.given i)) in
    omega (arith, here-within b y c.requires c.args.t c.in-Ok.spot (sym c.in-Ok.is ∙ c.spot_of.ensures), c.well_formed)

pub returns-then-spot-le1 : goal.returns-then-spot-le1
returns-then-spot-le1 c =
    let b : Bytes = c.args.region.now in
    let y : octets b ≡ true = octets-of b (λ i. omega (arith, c.slice_known-1.given i)) in
    c.drop_row.ensures ∙ here-last b y c.requires c.args.t c.in-Ok.spot (sym c.in-Ok.is ∙ c.spot_of.ensures) c.if-spot-le1.true

pub returns-else-spot-le1 : goal.returns-else-spot-le1
returns-else-spot-le1 c =
    let b : Bytes = c.args.region.now in
    let y : octets b ≡ true = octets-of b (λ i. omega (arith, c.slice_known-1.given i)) in
    c.put_number.ensures ∙ here-less b y c.requires c.args.t c.in-Ok.spot (sym c.in-Ok.is ∙ c.spot_of.ensures) (omega arith)

pub returns-in_default : goal.returns-in_default
returns-in_default c =
    let b : Bytes = c.args.region.now in
    let y : octets b ≡ true = octets-of b (λ i. omega (arith, c.slice_known-1.given i)) in
    gap-remove b y c.requires c.args.t c.in_default.field-0 (sym c.in_default.is ∙ c.spot_of.ensures)

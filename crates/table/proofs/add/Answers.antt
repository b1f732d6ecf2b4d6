-- A count that rises, or a row put in.
use mathlib.Core.Bool.{true}
use native.Mathlib.Omega.{arith}
use mathlib.Core.Path.{◌≡◌, sym, ◌∙◌}
use Rattle.paper.specs.Keys.{Bytes, octets}
use Rattle.raw.proofs.Octets.{octets-of}
use Rattle.table.proofs.RowSpots.{here-within, here-more, here-add, gap-holds, gap-room, gap-add}
use Rattle.table.proofs.add.Goals as goal

pub overflow_mul-spot : goal.overflow_mul-spot
overflow_mul-spot c =
    let b : Bytes = c.args.region.now in
    let y : octets b ≡ true = octets-of b (λ i. omega (arith, c.slice_known-1.given i)) in
    omega (arith, here-within b y c.requires.0 c.args.t c.in-Ok.spot (sym c.in-Ok.is ∙ c.spot_of.ensures), c.well_formed)

pub overflow_add-spot : goal.overflow_add-spot
overflow_add-spot c =
    let b : Bytes = c.args.region.now in
    let y : octets b ≡ true = octets-of b (λ i. omega (arith, c.slice_known-1.given i)) in
    omega (arith, here-within b y c.requires.0 c.args.t c.in-Ok.spot (sym c.in-Ok.is ∙ c.spot_of.ensures), c.well_formed)

pub put_number-requires-clause-there : goal.put_number-requires-clause-there
put_number-requires-clause-there c =
    let b : Bytes = c.args.region.now in
    let y : octets b ≡ true = octets-of b (λ i. omega (arith, c.slice_known-1.given i)) in
    omega (arith, here-within b y c.requires.0 c.args.t c.in-Ok.spot (sym c.in-Ok.is ∙ c.spot_of.ensures), c.well_formed)

pub overflow_add-spot-in-Ok : goal.overflow_add-spot-in-Ok
overflow_add-spot-in-Ok c =
    let b : Bytes = c.args.region.now in
    let y : octets b ≡ true = octets-of b (λ i. omega (arith, c.slice_known-1.given i)) in
    omega (arith, here-more b y c.requires.0 c.args.t c.in-Ok.spot (sym c.in-Ok.is ∙ c.spot_of.ensures) c.requires.1)

pub insert_row-requires : goal.insert_row-requires
insert_row-requires c =
    let b : Bytes = c.args.region.now in
    let y : octets b ≡ true = octets-of b (λ i. omega (arith, c.slice_known-1.given i)) in
    let e = sym c.in-Err.is ∙ c.spot_of.ensures in
    let h = gap-holds b y c.requires.0 c.args.t c.in-Err.gap e in
    (h.0, h.1, gap-room b y c.requires.0 c.args.t c.in-Err.gap e c.requires.1)

pub returns-in-Ok : goal.returns-in-Ok
returns-in-Ok c =
    let b : Bytes = c.args.region.now in
    let y : octets b ≡ true = octets-of b (λ i. omega (arith, c.slice_known-1.given i)) in
    c.put_number.ensures ∙ here-add b y c.requires.0 c.args.t c.in-Ok.spot (sym c.in-Ok.is ∙ c.spot_of.ensures)

pub returns-in-Err : goal.returns-in-Err
returns-in-Err c =
    let b : Bytes = c.args.region.now in
    let y : octets b ≡ true = octets-of b (λ i. omega (arith, c.slice_known-1.given i)) in
    c.insert_row.ensures ∙ gap-add b y c.requires.0 c.args.t c.in-Err.gap (sym c.in-Err.is ∙ c.spot_of.ensures)

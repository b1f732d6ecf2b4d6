-- An empty active run, too little room, or the run frozen.
use mathlib.Core.Path.{sym, ◌∙◌}
use Rattle.seat.proofs.Finding.{bytes_known}
use Rattle.freezing.proofs.Freezing.{sited, area-room, empty-told, full-told, frozen-told}
use Rattle.freezing.proofs.freeze.Goals as goal

pub is_empty-requires : goal.is_empty-requires
is_empty-requires c =
    let o = bytes_known c.args.state.now c.slice_known-1.given in
    sited c.args.state.now o c.requires c.shape_in-shape.result c.shape_in-shape.ensures

pub returns-then-is_empty : goal.returns-then-is_empty
returns-then-is_empty c =
    let o = bytes_known c.args.state.now c.slice_known-1.given in
    empty-told c.args.state.now o c.requires (sym c.is_empty.ensures ∙ c.if-is_empty.true)

pub overflow_sub-room : goal.overflow_sub-room
overflow_sub-room c =
    let o = bytes_known c.args.state.now c.slice_known-1.given in
    (area-room c.args.state.now o c.requires c.shape_in-shape.result c.shape_in-shape.ensures).1.0

pub overflow_sub-room-2 : goal.overflow_sub-room-2
overflow_sub-room-2 c =
    let o = bytes_known c.args.state.now c.slice_known-1.given in
    (area-room c.args.state.now o c.requires c.shape_in-shape.result c.shape_in-shape.ensures).0

pub freeze_fits-requires : goal.freeze_fits-requires
freeze_fits-requires c =
    let o = bytes_known c.args.state.now c.slice_known-1.given in
    (sited c.args.state.now o c.requires c.shape_in-shape.result c.shape_in-shape.ensures, (area-room c.args.state.now o c.requires c.shape_in-shape.result c.shape_in-shape.ensures).1.1)

pub returns-then-not-freeze_fits : goal.returns-then-not-freeze_fits
returns-then-not-freeze_fits c =
    let o = bytes_known c.args.state.now c.slice_known-1.given in
    full-told c.args.state.now o c.requires (sym c.is_empty.ensures ∙ c.if-is_empty.false) (sym c.freeze_fits.ensures ∙ c.if-not-freeze_fits.true)

pub freeze-requires : goal.freeze-requires
freeze-requires c =
    let o = bytes_known c.args.state.now c.slice_known-1.given in
    (sited c.args.state.now o c.requires c.shape_in-shape.result c.shape_in-shape.ensures, sym c.freeze_fits.ensures ∙ c.if-not-freeze_fits.false)

pub returns : goal.returns
returns c =
    let o = bytes_known c.args.state.now c.slice_known-1.given in
    frozen-told c.args.state.now o c.requires (sym c.is_empty.ensures ∙ c.if-is_empty.false) (sym c.freeze_fits.ensures ∙ c.if-not-freeze_fits.false) c.freeze.new.state c.freeze.ensures

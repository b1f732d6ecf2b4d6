-- The overlay's room is told first, then the write set's.
use Rattle.seat.proofs.Finding.{bytes_known}
use Rattle.writing.proofs.Placing.{own-ready, room-overlay, room-writes, room-good}
use Rattle.writing.proofs.room.Goals as goal

pub overlay_fits-requires : goal.overlay_fits-requires
overlay_fits-requires c =
    let w = own-ready c.args.rooms c.args.place.now (bytes_known _ c.type_inv.place) c.requires.0 c.requires.1 in
    (w.0, w.1, c.requires.2, c.requires.3)

pub returns-then-not-overlay_fits : goal.returns-then-not-overlay_fits
returns-then-not-overlay_fits c =
    room-overlay c.args.rooms c.args.place.now (bytes_known _ c.type_inv.place) c.requires.0 c.requires.1 c.args.key.now c.args.value.now c.args.hash _ c.overlay_fits.ensures c.if-not-overlay_fits.true

pub returns-then-not-write_fits : goal.returns-then-not-write_fits
returns-then-not-write_fits c =
    room-writes c.args.rooms c.args.place.now (bytes_known _ c.type_inv.place) c.requires.0 c.requires.1 c.args.key.now c.args.value.now c.args.hash _ c.overlay_fits.ensures _ c.write_fits.ensures c.if-not-overlay_fits.false c.if-not-write_fits.true

pub returns : goal.returns
returns c =
    room-good c.args.rooms c.args.place.now (bytes_known _ c.type_inv.place) c.requires.0 c.requires.1 c.args.key.now c.args.value.now c.args.hash _ c.overlay_fits.ensures _ c.write_fits.ensures c.if-not-overlay_fits.false c.if-not-write_fits.false

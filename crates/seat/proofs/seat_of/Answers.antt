-- The handle's place is searched; what stands there says how its transaction is.
use native.Mathlib.Omega.{arith}
use mathlib.Core.Path.{sym, ◌∙◌}
use Rattle.seat.proofs.Finding.{bytes_known, shape-room, seat-zero, seat-missing, seat-small, seat-inside, seat-there}
use Rattle.seat.proofs.seat_of.Goals as goal

pub returns-then-handle-eq0 : goal.returns-then-handle-eq0
returns-then-handle-eq0 c = seat-zero c.args.state.now (bytes_known c.args.state.now c.type_inv.state) c.requires.0 c.args.handle c.if-handle-eq0.true

pub places_in-requires : goal.places_in-requires
places_in-requires c = (shape-room c.args.state.now (bytes_known c.args.state.now c.type_inv.state) c.requires.0 c.args.shape c.requires.1).0

pub find_place-requires : goal.find_place-requires
find_place-requires c = (shape-room c.args.state.now (bytes_known c.args.state.now c.type_inv.state) c.requires.0 c.args.shape c.requires.1).1

pub returns-in_err-index : goal.returns-in_err-index
returns-in_err-index c =
    rw c.from_residual.ensures (seat-missing c.args.state.now (bytes_known c.args.state.now c.type_inv.state) c.requires.0 c.args.shape c.requires.1 _ c.places_in.ensures c.args.handle c.if-handle-eq0.false (sym c.in_err-index.was ∙ c.find_place.ensures))

pub place_at-place-requires : goal.place_at-place-requires
place_at-place-requires c = omega (arith, seat-small c.args.state.now (bytes_known c.args.state.now c.type_inv.state) c.requires.0 c.args.shape c.requires.1 _ c.places_in.ensures c.args.handle c.if-handle-eq0.false c.in_ok-index.index (sym c.in_ok-index.was ∙ c.find_place.ensures))

pub overflow_add-place : goal.overflow_add-place
overflow_add-place c =
    let w = seat-inside c.args.state.now (bytes_known c.args.state.now c.type_inv.state) c.requires.0 c.args.shape c.requires.1 _ c.places_in.ensures c.args.handle c.if-handle-eq0.false c.in_ok-index.index (sym c.in_ok-index.was ∙ c.find_place.ensures) _ c.place_at-place.ensures in
    omega (arith, w.1)

pub number-requires-clause-there : goal.number-requires-clause-there
number-requires-clause-there c =
    let w = seat-inside c.args.state.now (bytes_known c.args.state.now c.type_inv.state) c.requires.0 c.args.shape c.requires.1 _ c.places_in.ensures c.args.handle c.if-handle-eq0.false c.in_ok-index.index (sym c.in_ok-index.was ∙ c.find_place.ensures) _ c.place_at-place.ensures in
    omega (arith, w.0)

pub overflow_add-place-2 : goal.overflow_add-place-2
overflow_add-place-2 c =
    let w = seat-inside c.args.state.now (bytes_known c.args.state.now c.type_inv.state) c.requires.0 c.args.shape c.requires.1 _ c.places_in.ensures c.args.handle c.if-handle-eq0.false c.in_ok-index.index (sym c.in_ok-index.was ∙ c.find_place.ensures) _ c.place_at-place.ensures in
    omega (arith, w.1)

pub number-requires-2-clause-there : goal.number-requires-2-clause-there
number-requires-2-clause-there c =
    let w = seat-inside c.args.state.now (bytes_known c.args.state.now c.type_inv.state) c.requires.0 c.args.shape c.requires.1 _ c.places_in.ensures c.args.handle c.if-handle-eq0.false c.in_ok-index.index (sym c.in_ok-index.was ∙ c.find_place.ensures) _ c.place_at-place.ensures in
    omega (arith, w.0)

pub returns : goal.returns
returns c = seat-there c.args.state.now (bytes_known c.args.state.now c.type_inv.state) c.requires.0 c.args.shape c.requires.1 _ c.places_in.ensures c.args.handle c.if-handle-eq0.false c.in_ok-index.index (sym c.in_ok-index.was ∙ c.find_place.ensures) _ c.place_at-place.ensures c.number.result c.number-2.result c.number.ensures.value c.number-2.ensures.value

-- A free place, a row for the reader and a next handle, in this order.
use native.Mathlib.Omega.{arith}
use mathlib.Core.Path.{◌≡◌, sym, ap, ◌∙◌, subst}
use Rattle.reply.specs.declared.Refusal.TheVariants.{NoRoom, CounterFull}
use Rattle.reply.specs.declared.Room.TheVariants.{Places}
use Rattle.std.proofs.lemmas.Result.{err_from_is_err_and}
use Rattle.seat.proofs.Finding.{bytes_known, shape-room}
use Rattle.paper.specs.Keys.{Bytes}
use Rattle.table.specs.Rows.{Rowed, checked}
use Rattle.sessions.proofs.Beginning.{rows_inside, head-inside, rowed, no_place, begin-small, row-refused, most-handles, may-begin, begins-told}
use Rattle.sessions.proofs.begin.Goals as goal

pub places_in-requires : goal.places_in-requires
places_in-requires c =
    let o = bytes_known c.args.state.now c.slice_known-1.given in
    (shape-room c.args.state.now o c.requires c.shape_in-shape.result c.shape_in-shape.ensures).0

pub find_place-requires : goal.find_place-requires
find_place-requires c =
    let o = bytes_known c.args.state.now c.slice_known-1.given in
    (shape-room c.args.state.now o c.requires c.shape_in-shape.result c.shape_in-shape.ensures).1

pub returns-in_err-index : goal.returns-in_err-index
returns-in_err-index c =
    let o = bytes_known c.args.state.now c.slice_known-1.given in
    let p = err_from_is_err_and c.from_residual.result c.from_residual.ensures.1 in
    let none-told = rw c.in_err-index.ensures.ok_part at c.in_err-index.ensures.value in
    let why : c.in_err-index.field-0.0 ≡ NoRoom Places = cc in
    rw (p.1, p.2, why) (no_place c.args.state.now o c.requires c.shape_in-shape.result c.shape_in-shape.ensures _ c.places_in.ensures (sym c.in_err-index.ensures.ok_part ∙ c.find_place.ensures))

pub place_at-start-requires : goal.place_at-start-requires
place_at-start-requires c =
    let o = bytes_known c.args.state.now c.slice_known-1.given in
    omega (arith, begin-small c.args.state.now o c.requires c.shape_in-shape.result c.shape_in-shape.ensures _ c.places_in.ensures c.in_ok-index.index (sym c.in_ok-index.ensures.ok_part ∙ c.find_place.ensures))

pub number-clock-requires-clause-there : goal.number-clock-requires-clause-there
number-clock-requires-clause-there c =
    let o = bytes_known c.args.state.now c.slice_known-1.given in
    omega (arith, head-inside c.args.state.now o c.requires c.shape_in-shape.result c.shape_in-shape.ensures)

pub number-counter-requires-clause-there : goal.number-counter-requires-clause-there
number-counter-requires-clause-there c =
    let o = bytes_known c.args.state.now c.slice_known-1.given in
    omega (arith, head-inside c.args.state.now o c.requires c.shape_in-shape.result c.shape_in-shape.ensures)

pub rows_in-requires : goal.rows_in-requires
rows_in-requires c =
    let o = bytes_known c.args.state.now c.slice_known-1.given in
    rows_inside c.args.state.now o c.requires c.shape_in-shape.result c.shape_in-shape.ensures

pub check-requires : goal.check-requires
check-requires c =
    let o = bytes_known c.args.state.now c.slice_known-1.given in
    subst Rowed (sym c.rows_in.ensures) (rowed c.args.state.now o c.requires c.shape_in-shape.result c.shape_in-shape.ensures)

pub returns-in-Err : goal.returns-in-Err
returns-in-Err c =
    let o = bytes_known c.args.state.now c.slice_known-1.given in
    rw c.row_refused.ensures (row-refused c.args.state.now o c.requires c.shape_in-shape.result c.shape_in-shape.ensures _ c.places_in.ensures c.in_ok-index.index (sym c.in_ok-index.ensures.ok_part ∙ c.find_place.ensures) _ c.place_at-start.ensures c.number-clock.result c.number-clock.ensures.value c.in-Err.why (sym c.in-Err.is ∙ c.check.ensures ∙ ap (λ (u : Bytes). checked u c.number-clock.result) c.rows_in.ensures))

pub returns-in_err-handle : goal.returns-in_err-handle
returns-in_err-handle c =
    let o = bytes_known c.args.state.now c.slice_known-1.given in
    let p = err_from_is_err_and c.from_residual-in_err-handle.result c.from_residual-in_err-handle.ensures.1 in
    let none = rw c.in_err-handle.ensures.ok_part at c.checked_add.ensures in
    let none-told = rw c.in_err-handle.ensures.ok_part at c.in_err-handle.ensures.value in
    let why : c.in_err-handle.field-0.0 ≡ CounterFull = cc in
    rw (p.1, p.2, why) (most-handles c.args.state.now o c.requires c.shape_in-shape.result c.shape_in-shape.ensures _ c.places_in.ensures c.in_ok-index.index (sym c.in_ok-index.ensures.ok_part ∙ c.find_place.ensures) _ c.place_at-start.ensures c.number-clock.result c.number-clock.ensures.value (sym c.in_default.is ∙ c.check.ensures ∙ ap (λ (u : Bytes). checked u c.number-clock.result) c.rows_in.ensures) c.number-counter.result c.number-counter.ensures.value none)

pub enter-requires : goal.enter-requires
enter-requires c =
    let o = bytes_known c.args.state.now c.slice_known-1.given in
    let next = rw c.in_ok-handle.ensures.ok_part at c.checked_add.ensures in
    may-begin c.args.state.now o c.requires c.shape_in-shape.result c.shape_in-shape.ensures _ c.places_in.ensures c.in_ok-index.index (sym c.in_ok-index.ensures.ok_part ∙ c.find_place.ensures) _ c.place_at-start.ensures c.number-clock.result c.number-clock.ensures.value (sym c.in_default.is ∙ c.check.ensures ∙ ap (λ (u : Bytes). checked u c.number-clock.result) c.rows_in.ensures) c.number-counter.result c.number-counter.ensures.value c.in_ok-handle.handle next

pub returns : goal.returns
returns c =
    let o = bytes_known c.args.state.now c.slice_known-1.given in
    let next = rw c.in_ok-handle.ensures.ok_part at c.checked_add.ensures in
    begins-told c.args.state.now o c.requires c.shape_in-shape.result c.shape_in-shape.ensures _ c.places_in.ensures c.in_ok-index.index (sym c.in_ok-index.ensures.ok_part ∙ c.find_place.ensures) _ c.place_at-start.ensures c.number-clock.result c.number-clock.ensures.value (sym c.in_default.is ∙ c.check.ensures ∙ ap (λ (u : Bytes). checked u c.number-clock.result) c.rows_in.ensures) c.number-counter.result c.number-counter.ensures.value c.in_ok-handle.handle next c.enter.new.state c.enter.ensures

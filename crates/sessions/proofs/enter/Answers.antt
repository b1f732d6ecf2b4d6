-- The counter, the place and the rows are written, one after the other.
use native.Mathlib.Omega.{arith}
use mathlib.Core.Path.{◌≡◌}
use Prim.Native.Nat.{◌+◌, ◌<◌, ◌≤◌}
use lib.ListN.{length}
use Rattle.paper.specs.Keys.{octets}
use Rattle.seat.proofs.Finding.{bytes_known}
use mathlib.Core.Bool.{true}
use Rattle.sessions.proofs.Beginning.{place_inside, lent-long, lent-inside, lent-inside₂, lent-rowed, lent-entered}
use Rattle.sessions.proofs.enter.Goals as goal

pub overflow_add-stop : goal.overflow_add-stop
overflow_add-stop c =
    let bytes : octets c.args.state.now ≡ true = bytes_known c.args.state.now c.type_inv.state in
    let inside : (88 ≤ c.args.shape.history) × ((c.args.shape.history ≤ c.args.start) × ((c.args.start + c.args.shape.stride ≤ length c.args.state.now) × (c.args.start + c.args.shape.stride < 134217728))) = place_inside c.args.state.now bytes c.args.shape c.args.start c.args.new.handle c.args.new.read c.requires in
    let z = inside in omega (arith, z)

pub put_number-requires-clause-there : goal.put_number-requires-clause-there
put_number-requires-clause-there c =
    let bytes : octets c.args.state.now ≡ true = bytes_known c.args.state.now c.slice_known-1.given in
    let inside : (88 ≤ c.args.shape.history) × ((c.args.shape.history ≤ c.args.start) × ((c.args.start + c.args.shape.stride ≤ length c.args.state.now) × (c.args.start + c.args.shape.stride < 134217728))) = place_inside c.args.state.now bytes c.args.shape c.args.start c.args.new.handle c.args.new.read c.requires in
    let z = inside in omega (arith, z)

pub slice_bounds-new_place-end : goal.slice_bounds-new_place-end
slice_bounds-new_place-end c =
    let bytes : octets c.args.state.now ≡ true = bytes_known c.args.state.now c.slice_known-1.given in
    let inside : (88 ≤ c.args.shape.history) × ((c.args.shape.history ≤ c.args.start) × ((c.args.start + c.args.shape.stride ≤ length c.args.state.now) × (c.args.start + c.args.shape.stride < 134217728))) = place_inside c.args.state.now bytes c.args.shape c.args.start c.args.new.handle c.args.new.read c.requires in
    let z = inside in
    let w = lent-inside c.args.state.now bytes c.args.shape c.args.start c.args.new.handle c.args.new.read c.requires c.put_number.new.s c.put_number.ensures in
    omega (arith, z, w)

pub new_place-requires : goal.new_place-requires
new_place-requires c =
    let bytes : octets c.args.state.now ≡ true = bytes_known c.args.state.now c.slice_known-1.given in
    rw c.from-rooms.ensures (lent-long c.args.state.now bytes c.args.shape c.args.start c.args.new.handle c.args.new.read c.requires c.put_number.new.s c.put_number.ensures)

pub slice_bounds-add-count : goal.slice_bounds-add-count
slice_bounds-add-count c =
    let bytes : octets c.args.state.now ≡ true = bytes_known c.args.state.now c.slice_known-1.given in
    let inside : (88 ≤ c.args.shape.history) × ((c.args.shape.history ≤ c.args.start) × ((c.args.start + c.args.shape.stride ≤ length c.args.state.now) × (c.args.start + c.args.shape.stride < 134217728))) = place_inside c.args.state.now bytes c.args.shape c.args.start c.args.new.handle c.args.new.read c.requires in
    let z = inside in z.0

pub slice_bounds-add-start : goal.slice_bounds-add-start
slice_bounds-add-start c =
    let bytes : octets c.args.state.now ≡ true = bytes_known c.args.state.now c.slice_known-1.given in
    let inside : (88 ≤ c.args.shape.history) × ((c.args.shape.history ≤ c.args.start) × ((c.args.start + c.args.shape.stride ≤ length c.args.state.now) × (c.args.start + c.args.shape.stride < 134217728))) = place_inside c.args.state.now bytes c.args.shape c.args.start c.args.new.handle c.args.new.read c.requires in
    let z = inside in omega (arith, z)

pub slice_bounds-add-end : goal.slice_bounds-add-end
slice_bounds-add-end c =
    let bytes : octets c.args.state.now ≡ true = bytes_known c.args.state.now c.slice_known-1.given in
    let inside : (88 ≤ c.args.shape.history) × ((c.args.shape.history ≤ c.args.start) × ((c.args.start + c.args.shape.stride ≤ length c.args.state.now) × (c.args.start + c.args.shape.stride < 134217728))) = place_inside c.args.state.now bytes c.args.shape c.args.start c.args.new.handle c.args.new.read c.requires in
    let z = inside in
    let w = lent-inside₂ c.args.state.now bytes c.args.shape c.args.start c.args.new.handle c.args.new.read c.requires c.put_number.new.s c.put_number.ensures c.new_place.new.place (rw c.from-rooms.ensures at c.new_place.ensures) in
    omega (arith, z, w)

pub add-requires : goal.add-requires
add-requires c =
    let bytes : octets c.args.state.now ≡ true = bytes_known c.args.state.now c.slice_known-1.given in
    let q = lent-rowed c.args.state.now bytes c.args.shape c.args.start c.args.new.handle c.args.new.read c.requires c.put_number.new.s c.put_number.ensures c.new_place.new.place (rw c.from-rooms.ensures at c.new_place.ensures) in
    (q.0, q.1)

pub returns : goal.returns
returns c =
    let bytes : octets c.args.state.now ≡ true = bytes_known c.args.state.now c.slice_known-1.given in
    lent-entered c.args.state.now bytes c.args.shape c.args.start c.args.new.handle c.args.new.read c.requires c.put_number.new.s c.put_number.ensures c.new_place.new.place (rw c.from-rooms.ensures at c.new_place.ensures) c.add.new.region c.add.ensures

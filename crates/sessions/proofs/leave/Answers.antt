-- The place is freed, and its reader leaves.
use native.Mathlib.Omega.{arith}
use mathlib.Core.Path.{◌≡◌}
use mathlib.Core.Bool.{true}
use Prim.Native.Nat.{◌+◌, ◌≤◌}
use lib.ListN.{length}
use Rattle.paper.specs.Keys.{octets}
use Rattle.seat.proofs.Finding.{bytes_known}
use Rattle.sessions.proofs.Ending.{place_inside, lent-inside, lent-rowed, lent-left}
use Rattle.sessions.proofs.leave.Goals as goal

pub put_number-requires-clause-there : goal.put_number-requires-clause-there
put_number-requires-clause-there c =
    let bytes : octets c.args.state.now ≡ true = bytes_known c.args.state.now c.slice_known-1.given in
    let inside : (88 ≤ c.args.shape.history) × ((c.args.shape.history ≤ c.args.seat.place) × (c.args.seat.place + 8 ≤ length c.args.state.now)) = place_inside c.args.state.now bytes c.args.shape c.args.seat.place c.args.seat.read c.requires in
    let z = inside in z.1.1

pub slice_bounds-remove-count : goal.slice_bounds-remove-count
slice_bounds-remove-count c =
    let bytes : octets c.args.state.now ≡ true = bytes_known c.args.state.now c.slice_known-1.given in
    let inside : (88 ≤ c.args.shape.history) × ((c.args.shape.history ≤ c.args.seat.place) × (c.args.seat.place + 8 ≤ length c.args.state.now)) = place_inside c.args.state.now bytes c.args.shape c.args.seat.place c.args.seat.read c.requires in
    let z = inside in z.0

pub slice_bounds-remove-start : goal.slice_bounds-remove-start
slice_bounds-remove-start c =
    let bytes : octets c.args.state.now ≡ true = bytes_known c.args.state.now c.slice_known-1.given in
    let inside : (88 ≤ c.args.shape.history) × ((c.args.shape.history ≤ c.args.seat.place) × (c.args.seat.place + 8 ≤ length c.args.state.now)) = place_inside c.args.state.now bytes c.args.shape c.args.seat.place c.args.seat.read c.requires in
    let z = inside in omega (arith, z)

pub slice_bounds-remove-end : goal.slice_bounds-remove-end
slice_bounds-remove-end c =
    let bytes : octets c.args.state.now ≡ true = bytes_known c.args.state.now c.slice_known-1.given in
    let inside : (88 ≤ c.args.shape.history) × ((c.args.shape.history ≤ c.args.seat.place) × (c.args.seat.place + 8 ≤ length c.args.state.now)) = place_inside c.args.state.now bytes c.args.shape c.args.seat.place c.args.seat.read c.requires in
    let z = inside in
    let w = lent-inside c.args.state.now bytes c.args.shape c.args.seat.place c.args.seat.read c.requires c.put_number.new.s c.put_number.ensures in
    omega (arith, z, w)

pub remove-requires : goal.remove-requires
remove-requires c =
    let bytes : octets c.args.state.now ≡ true = bytes_known c.args.state.now c.slice_known-1.given in
    lent-rowed c.args.state.now bytes c.args.shape c.args.seat.place c.args.seat.read c.requires c.put_number.new.s c.put_number.ensures

pub returns : goal.returns
returns c =
    let bytes : octets c.args.state.now ≡ true = bytes_known c.args.state.now c.slice_known-1.given in
    lent-left c.args.state.now bytes c.args.shape c.args.seat.place c.args.seat.read c.requires c.put_number.new.s c.put_number.ensures c.remove.new.region c.remove.ensures

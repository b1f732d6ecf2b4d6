-- The handle's transaction leaves, open or closed.
use mathlib.Core.Path.{◌≡◌}
use Rattle.std.proofs.lemmas.Result.{err_from_is_err_and}
use Rattle.reply.specs.declared.Refusal.TheVariants.{NoHandle}
use Rattle.sessions.proofs.Ending.{no-handle, ends-told}
use Rattle.sessions.proofs.end.Goals as goal

pub seat_of-requires : goal.seat_of-requires
seat_of-requires c = (c.requires, c.shape_in-shape.ensures)

pub returns-in_err-seat : goal.returns-in_err-seat
returns-in_err-seat c =
    let p = err_from_is_err_and c.from_residual.result c.from_residual.ensures.1 in
    let none-there = rw c.in_err-seat.ensures.ok_part at c.seat_of.ensures in
    let none-told = rw c.in_err-seat.ensures.ok_part at c.in_err-seat.ensures.value in
    let why : c.in_err-seat.field-0.0 ≡ NoHandle = cc in
    rw (p.1, p.2, why) (no-handle c.args.state.now c.requires c.args.handle none-there)

pub leave-requires : goal.leave-requires
leave-requires c =
    let there = rw c.in_ok-seat.ensures.ok_part at c.seat_of.ensures in
    record {
      sound = c.requires;
      shape = c.shape_in-shape.ensures;
      handle = c.args.handle;
      mark = c.in_ok-seat.seat.open;
      seat = there;
    }

pub returns : goal.returns
returns c =
    let there = rw c.in_ok-seat.ensures.ok_part at c.seat_of.ensures in
    ends-told c.args.state.now c.requires c.args.handle c.in_ok-seat.seat.place c.in_ok-seat.seat.read c.in_ok-seat.seat.open there c.leave.new.state c.leave.ensures

-- The handle's transaction, then the lengths, then the write in its place: each return is one of the paper's.
use native.Mathlib.Omega.{arith}
use Rattle.std.proofs.Common.{rules}
use Rattle.std.proofs.lemmas.Result.{err_from_is_err_and}
use Rattle.seat.proofs.Finding.{bytes_known}
use Rattle.writing.proofs.Telling.{told_unentered, told-bad, place_inside, write-ready, told-written}
use Rattle.writing.proofs.put.Goals as goal

pub returns-in_err-seat : goal.returns-in_err-seat
returns-in_err-seat c =
    let p = err_from_is_err_and c.from_residual.result c.from_residual.ensures.1 in
    rw (p.1, p.2) (told_unentered c.args.state.now (bytes_known _ (search rules)) c.requires c.args.handle c.args.key.now c.args.value.now _ c.in_err-seat.ensures)

pub returns-in_err-check_lengths : goal.returns-in_err-check_lengths
returns-in_err-check_lengths c =
    let p = err_from_is_err_and c.from_residual-in_err-check_lengths.result c.from_residual-in_err-check_lengths.ensures.1 in
    rw (p.1, p.2) (told-bad c.args.state.now (bytes_known _ (search rules)) c.requires c.args.handle c.args.key.now c.args.value.now _ _ c.in_ok-seat.ensures.0 _ c.in_err-check_lengths.ensures)

pub overflow_add-end : goal.overflow_add-end
overflow_add-end c =
    omega (arith, (place_inside c.args.state.now (bytes_known _ (search rules)) c.requires c.args.handle c.args.key.now c.args.value.now _ _ c.in_ok-seat.ensures.0 _ c.shape_in-shape.ensures).1)

pub slice_bounds-write-end : goal.slice_bounds-write-end
slice_bounds-write-end c =
    (place_inside c.args.state.now (bytes_known _ (search rules)) c.requires c.args.handle c.args.key.now c.args.value.now _ _ c.in_ok-seat.ensures.0 _ c.shape_in-shape.ensures).0

pub write-requires : goal.write-requires
write-requires c =
    rw c.from.ensures
    (write-ready c.args.state.now (bytes_known _ (search rules)) c.requires c.args.handle c.args.key.now c.args.value.now _ _ c.in_ok-seat.ensures.0 _ c.shape_in-shape.ensures c.in_ok-check_lengths.ensures)

pub returns : goal.returns
returns c =
    told-written c.args.state.now (bytes_known _ (search rules)) c.requires c.args.handle c.args.key.now c.args.value.now _ _ c.in_ok-seat.ensures.0 _ c.shape_in-shape.ensures c.in_ok-check_lengths.ensures (bytes_known _ c.type_inv.key) (bytes_known _ c.type_inv.value) c.write.new.place c.write.result (rw c.from.ensures at c.write.ensures)

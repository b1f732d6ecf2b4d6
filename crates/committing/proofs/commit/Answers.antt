-- The handle's transaction, if it is open: without writes it is closed, else it is judged.
use native.Mathlib.Omega.{arith}
use Rattle.std.proofs.Common.{rules}
use Rattle.std.proofs.lemmas.Result.{err_from_is_err_and}
use Rattle.seat.proofs.Finding.{bytes_known}
use Rattle.committing.proofs.Held.{held_lies}
use Rattle.committing.proofs.Closing.{seat_placed}
use Rattle.committing.proofs.Replies.{told_unentered, no_writes, may-commit, judged-told}
use Rattle.committing.proofs.commit.Goals as goal

pub returns-in_err-seat : goal.returns-in_err-seat
returns-in_err-seat c =
    let p = err_from_is_err_and c.from_residual.result c.from_residual.ensures.1 in
    rw (p.1, p.2) (told_unentered c.args.state.now c.requires c.args.handle _ c.in_err-seat.ensures)

pub overflow_add-seat : goal.overflow_add-seat
overflow_add-seat c = let L = held_lies (seat_placed c.args.state.now c.requires _ c.shape_in-shape.ensures c.args.handle _ _ _ c.in_ok-seat.ensures.0) in omega arith

pub number-requires-clause-there : goal.number-requires-clause-there
number-requires-clause-there c = let L = held_lies (seat_placed c.args.state.now c.requires _ c.shape_in-shape.ensures c.args.handle _ _ _ c.in_ok-seat.ensures.0) in omega arith

pub close-requires : goal.close-requires
close-requires c = let L = held_lies (seat_placed c.args.state.now c.requires _ c.shape_in-shape.ensures c.args.handle _ _ _ c.in_ok-seat.ensures.0) in omega arith

pub returns-then-number-eq0 : goal.returns-then-number-eq0
returns-then-number-eq0 c =
    no_writes c.args.state.now c.requires c.args.handle (bytes_known _ (search rules)) _ c.shape_in-shape.ensures _ _ c.in_ok-seat.ensures.0 _ c.number.ensures.value c.if-number-eq0.true _ c.close.ensures

pub judge-requires : goal.judge-requires
judge-requires c = may-commit c.args.state.now c.requires c.args.handle (bytes_known _ (search rules)) _ c.shape_in-shape.ensures _ _ c.in_ok-seat.ensures.0 _ c.number.ensures.value c.if-number-eq0.false

pub returns : goal.returns
returns c = judged-told c.args.state.now c.requires c.args.handle (bytes_known _ (search rules)) _ c.shape_in-shape.ensures _ _ c.in_ok-seat.ensures.0 _ c.number.ensures.value c.if-number-eq0.false _ c.judge.ensures

-- 3, 4, 1, 2, and then the rest.
use Rattle.std.proofs.Common.{rules}
use Rattle.std.proofs.lemmas.Result.{err_from_is_err_and}
use Rattle.paper.proofs.HashLaws.{hash-below}
use Rattle.seat.proofs.Finding.{bytes_known}
use Rattle.answering.proofs.Getting.{get_unentered, get_bad, get-rest}
use Rattle.answering.proofs.Seating.{taken}
use mathlib.Core.Path.{◌∙◌}
use native.Mathlib.Omega.{arith}
use Rattle.answering.proofs.get.Goals as goal

pub returns-in_err-seat : goal.returns-in_err-seat
returns-in_err-seat c =
    let p = err_from_is_err_and c.from_residual.result c.from_residual.ensures.1 in
    rw (p.1, p.2) (get_unentered c.args.state.now (bytes_known _ (search rules)) c.requires c.args.handle c.args.key.now c.args.out.now _ c.in_err-seat.ensures)

pub returns-in_err-check_lengths : goal.returns-in_err-check_lengths
returns-in_err-check_lengths c =
    let p = err_from_is_err_and c.from_residual-in_err-check_lengths.result c.from_residual-in_err-check_lengths.ensures.1 in
    rw (p.1, p.2) (get_bad c.args.state.now (bytes_known _ (search rules)) c.requires c.args.handle c.args.key.now c.args.out.now _ _ c.in_ok-seat.ensures.0 _ c.in_err-check_lengths.ensures)

pub view-view-requires : goal.view-view-requires
view-view-requires c =
    (c.requires, c.shape_in-shape.ensures, taken c.args.state.now (bytes_known _ (search rules)) c.requires _ _ _ _ c.in_ok-seat.ensures.0 _ c.shape_in-shape.ensures)

pub answer_get-requires : goal.answer_get-requires
answer_get-requires c = (
  taken c.args.state.now (bytes_known _ (search rules)) c.requires _ _ _ _ c.in_ok-seat.ensures.0 _ c.shape_in-shape.ensures,
  omega (arith, c.from-hash.ensures, c.hash32.ensures, hash-below c.args.key.now),
  c.get-answer.ensures.1,
)

pub returns : goal.returns
returns c =
    get-rest c.args.state.now (bytes_known _ (search rules)) c.requires c.args.handle c.args.key.now c.args.out.now _ _ c.in_ok-seat.ensures.0 _ c.shape_in-shape.ensures c.in_ok-check_lengths.ensures _ c.view-view.ensures _ c.get-answer.ensures.0 _ (c.from-hash.ensures ∙ c.hash32.ensures) _ c.answer_get.new.state c.answer_get.new.out c.answer_get.ensures

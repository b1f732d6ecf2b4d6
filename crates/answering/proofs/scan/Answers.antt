-- 3, 4, and then the end or the rest.
use Rattle.std.proofs.Common.{rules}
use Rattle.std.proofs.lemmas.Result.{err_from_is_err_and}
use Rattle.lsm.specs.Edges.{bound_of}
use Rattle.seat.proofs.Finding.{bytes_known}
use Rattle.answering.proofs.Scanning.{scan_unentered, scan-end, scan-rest}
use Rattle.answering.proofs.Seating.{taken}
use Rattle.answering.proofs.scan.Goals as goal

pub returns-in_err-seat : goal.returns-in_err-seat
returns-in_err-seat c =
    let p = err_from_is_err_and c.from_residual.result c.from_residual.ensures.1 in
    rw (p.1, p.2) (scan_unentered c.args.state.now (bytes_known _ (search rules)) c.requires c.args.handle (bound_of c.args.low) (bound_of c.args.high) c.args.key_out.now c.args.value_out.now _ c.in_err-seat.ensures)

pub view-view-requires : goal.view-view-requires
view-view-requires c =
    (c.requires, c.shape_in-shape.ensures, taken c.args.state.now (bytes_known _ (search rules)) c.requires _ _ _ _ c.in_ok-seat.ensures.0 _ c.shape_in-shape.ensures)

pub hand_out-requires : goal.hand_out-requires
hand_out-requires c = (
  taken c.args.state.now (bytes_known _ (search rules)) c.requires _ _ _ _ c.in_ok-seat.ensures.0 _ c.shape_in-shape.ensures,
  c.in-Some.ensures.inside,
)

pub returns-in-None : goal.returns-in-None
returns-in-None c = scan-end c.args.state.now (bytes_known _ (search rules)) c.requires c.args.handle (bound_of c.args.low) (bound_of c.args.high) c.args.key_out.now c.args.value_out.now _ _ c.in_ok-seat.ensures.0 _ c.shape_in-shape.ensures _ c.view-view.ensures _ c.scan.ensures c.in-None.is

pub returns-in-Some : goal.returns-in-Some
returns-in-Some c =
    scan-rest c.args.state.now (bytes_known _ (search rules)) c.requires c.args.handle (bound_of c.args.low) (bound_of c.args.high) c.args.key_out.now c.args.value_out.now _ _ c.in_ok-seat.ensures.0 _ c.shape_in-shape.ensures _ c.view-view.ensures _ c.scan.ensures c.in-Some.p c.in-Some.is _ c.hand_out.new.state c.hand_out.new.keys c.hand_out.new.values c.hand_out.ensures

-- The smallest timestamp, or the clock.
use Rattle.std.proofs.Common.{ap, ◌∙◌}
use Rattle.std.proofs.lemmas.Result.{err_from_is_err_and}
use Rattle.paper.specs.Refusals.{go}
use Rattle.watermark.specs.Table.{room_in, rows_in}
use Rattle.watermark.proofs.Answers.{mark-stops, mark-is}
use Rattle.watermark.proofs.watermark.Goals as goal

pub returns-in_err-smallest : goal.returns-in_err-smallest
returns-in_err-smallest c =
    let p = err_from_is_err_and c.from_residual.result c.from_residual.ensures.1 in
    rw p.1 (mark-stops (room_in c.args.times.now c.args.counts.now) (rows_in c.args.used c.args.times.now c.args.counts.now) c.args.clock c.in_err-smallest.ensures)

pub returns : goal.returns
returns c =
    ap go c.unwrap_or.ensures
    ∙ mark-is (room_in c.args.times.now c.args.counts.now) (rows_in c.args.used c.args.times.now c.args.counts.now) c.args.clock c.in_ok-smallest.field-0 c.in_ok-smallest.ensures

use Rattle.std.proofs.Common.{get_or, sym}
use Rattle.std.proofs.lemmas.Result.{err_from_is_err_and}
use Rattle.paper.specs.Readers.{row}
use Rattle.watermark.specs.Table.{room_in}
use Rattle.watermark.proofs.Answers.{timestamps-of, timestamps-stops}
use Rattle.watermark.proofs.timestamps.Goals as goal

pub returns-in_err-scan : goal.returns-in_err-scan
returns-in_err-scan c =
    let p = err_from_is_err_and c.from_residual.result c.from_residual.ensures.1 in
    rw p.1 (sym (timestamps-stops (room_in c.args.times.now c.args.counts.now) 0 c.args.used (λ i. row (get_or c.args.times.now i 0) (get_or c.args.counts.now i 0)) _ c.in_err-scan.ensures))

pub returns : goal.returns
returns c = timestamps-of (room_in c.args.times.now c.args.counts.now) 0 c.args.used (λ i. row (get_or c.args.times.now i 0) (get_or c.args.counts.now i 0)) c.in_ok-scan.field-0 c.in_ok-scan.ensures

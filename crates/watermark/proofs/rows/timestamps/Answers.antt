use Rattle.std.proofs.Common.{length, get_or, sym}
use Rattle.std.proofs.lemmas.Result.{err_from_is_err_and}
use Rattle.watermark.specs.Table.{as_row, no_row}
use Rattle.watermark.proofs.Answers.{timestamps-of, timestamps-stops}
use Rattle.watermark.proofs.rows.timestamps.Goals as goal

pub returns-in_err-scan : goal.returns-in_err-scan
returns-in_err-scan c =
    let p = err_from_is_err_and c.from_residual.result c.from_residual.ensures.1 in
    rw p.1 (sym (timestamps-stops (length c.args.rows.now) 0 c.args.used (λ i. as_row (get_or c.args.rows.now i no_row)) _ c.in_err-scan.ensures))

pub returns : goal.returns
returns c = timestamps-of (length c.args.rows.now) 0 c.args.used (λ i. as_row (get_or c.args.rows.now i no_row)) c.in_ok-scan.field-0 c.in_ok-scan.ensures

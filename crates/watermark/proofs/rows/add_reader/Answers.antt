-- The pass, what was decided, and what was written.
use Rattle.std.proofs.Common.{length, get_or, refl, ap, ◌∙◌}
use Rattle.std.proofs.lemmas.Result.{err_from_is_err_and}
use Rattle.paper.specs.Refusals.{go}
use Rattle.watermark.specs.Table.{as_row, as_lent, no_row}
use Rattle.watermark.proofs.Plans.{add-stops, add-within, add-writes}
use Rattle.watermark.proofs.Fronts.{rows_in_lem}
use Rattle.watermark.proofs.Answers.{add-of, add-said, counted-below, add-stops-unsound, rows-as-was}
use Rattle.watermark.proofs.rows.add_reader.Goals as goal

pub returns-in_err-scan : goal.returns-in_err-scan
returns-in_err-scan c =
    let p = err_from_is_err_and c.from_residual.result c.from_residual.ensures.1 in
    rw (p.1, p.2) (rows-as-was c.args.rows.now refl (add-stops-unsound (length c.args.rows.now) c.args.time c.args.used (λ i. as_row (get_or c.args.rows.now i no_row)) _ c.in_err-scan.ensures))

pub plan_add-requires : goal.plan_add-requires
plan_add-requires c =
    counted-below (length c.args.rows.now) c.args.time c.args.used (λ i. as_row (get_or c.args.rows.now i no_row)) c.in_ok-scan.field-0 c.in_ok-scan.ensures c.ranges.used.fits

pub returns-in_err-put : goal.returns-in_err-put
returns-in_err-put c =
    let way = add-of (length c.args.rows.now) c.args.time c.args.used (λ i. as_row (get_or c.args.rows.now i no_row)) c.in_ok-scan.field-0 c.in_ok-scan.ensures _ c.in_err-put.ensures in
    let p = err_from_is_err_and c.from_residual-in_err-put.result c.from_residual-in_err-put.ensures.1 in
    rw (p.1, p.2) (rows-as-was c.args.rows.now refl (add-stops way))

pub write-requires-clause-from : goal.write-requires-clause-from
write-requires-clause-from c =
    let way = add-of (length c.args.rows.now) c.args.time c.args.used (λ i. as_row (get_or c.args.rows.now i no_row)) c.in_ok-scan.field-0 c.in_ok-scan.ensures _ c.in_ok-put.ensures in
    (add-within way).0

pub write-requires-clause-to : goal.write-requires-clause-to
write-requires-clause-to c =
    let way = add-of (length c.args.rows.now) c.args.time c.args.used (λ i. as_row (get_or c.args.rows.now i no_row)) c.in_ok-scan.field-0 c.in_ok-scan.ensures _ c.in_ok-put.ensures in
    (add-within way).1

pub returns : goal.returns
returns c =
    let way = add-of (length c.args.rows.now) c.args.time c.args.used (λ i. as_row (get_or c.args.rows.now i no_row)) c.in_ok-scan.field-0 c.in_ok-scan.ensures _ c.in_ok-put.ensures in
    record { reply = ap go c.max.ensures ∙ add-said (length c.args.rows.now) c.args.time c.args.used (λ i. as_row (get_or c.args.rows.now i no_row)) c.in_ok-scan.field-0 c.in_ok-scan.ensures way; rows = c.write.ensures ∙ add-writes as_lent c.args.rows.now way (rows_in_lem c.args.used c.args.rows.now) }

-- The pass, what was decided, and what was written.
use Rattle.std.proofs.Common.{length, get_or, refl, ◌∙◌, arith}
use Rattle.std.proofs.lemmas.Result.{err_from_is_err_and}
use Rattle.watermark.specs.Table.{as_row, as_lent, no_row}
use Rattle.watermark.specs.declared.pass.Removing.{Removing}
use Rattle.watermark.proofs.Plans.{remove-stops, fewer-within, fewer-writes}
use Rattle.watermark.proofs.Fronts.{rows_in_lem}
use Rattle.watermark.proofs.Answers.{remove-of, remove-as, within, counted-below, remove-stops-unsound, fewer-said, gone-said, gone-inside, gone-written, rows-as-was}
use Rattle.watermark.proofs.rows.remove_reader.Goals as goal

pub returns-in_err-scan : goal.returns-in_err-scan
returns-in_err-scan c =
    let p = err_from_is_err_and c.from_residual.result c.from_residual.ensures.1 in
    rw (p.1, p.2) (rows-as-was c.args.rows.now refl (remove-stops-unsound (length c.args.rows.now) c.args.time c.args.used (λ i. as_row (get_or c.args.rows.now i no_row)) _ c.in_err-scan.ensures))

pub plan_remove-requires : goal.plan_remove-requires
plan_remove-requires c =
    counted-below (length c.args.rows.now) c.args.time c.args.used (λ i. as_row (get_or c.args.rows.now i no_row)) c.in_ok-scan.field-0 c.in_ok-scan.ensures c.ranges.used.fits

pub returns-in_err-put : goal.returns-in_err-put
returns-in_err-put c =
    let way = remove-of (length c.args.rows.now) c.args.time c.args.used (λ i. as_row (get_or c.args.rows.now i no_row)) c.in_ok-scan.field-0 c.in_ok-scan.ensures _ c.in_err-put.ensures in
    let p = err_from_is_err_and c.from_residual-in_err-put.result c.from_residual-in_err-put.ensures.1 in
    rw (p.1, p.2) (rows-as-was c.args.rows.now refl (remove-stops way))

pub write-requires-clause-from : goal.write-requires-clause-from
write-requires-clause-from c =
    let way = remove-as (length c.args.rows.now) c.args.time c.args.used (λ i. as_row (get_or c.args.rows.now i no_row)) c.in_ok-scan.field-0 c.in_ok-scan.ensures (Removing.Fewer c.in-Fewer.put) c.in-Fewer.is c.in_ok-put.ensures in
    (fewer-within way).0

pub write-requires-clause-to : goal.write-requires-clause-to
write-requires-clause-to c =
    let way = remove-as (length c.args.rows.now) c.args.time c.args.used (λ i. as_row (get_or c.args.rows.now i no_row)) c.in_ok-scan.field-0 c.in_ok-scan.ensures (Removing.Fewer c.in-Fewer.put) c.in-Fewer.is c.in_ok-put.ensures in
    (fewer-within way).1

pub overflow_add-at : goal.overflow_add-at
overflow_add-at c =
    let way = remove-as (length c.args.rows.now) c.args.time c.args.used (λ i. as_row (get_or c.args.rows.now i no_row)) c.in_ok-scan.field-0 c.in_ok-scan.ensures (Removing.Gone c.in-Gone.at) c.in-Gone.is c.in_ok-put.ensures in
    omega (arith, gone-inside (length c.args.rows.now) c.args.time c.args.used (λ i. as_row (get_or c.args.rows.now i no_row)) c.in_ok-scan.field-0 c.in_ok-scan.ensures way)

pub copy_within-requires-clause-start_le_end : goal.copy_within-requires-clause-start_le_end
copy_within-requires-clause-start_le_end c =
    let way = remove-as (length c.args.rows.now) c.args.time c.args.used (λ i. as_row (get_or c.args.rows.now i no_row)) c.in_ok-scan.field-0 c.in_ok-scan.ensures (Removing.Gone c.in-Gone.at) c.in-Gone.is c.in_ok-put.ensures in
    omega (arith, gone-inside (length c.args.rows.now) c.args.time c.args.used (λ i. as_row (get_or c.args.rows.now i no_row)) c.in_ok-scan.field-0 c.in_ok-scan.ensures way)

pub copy_within-requires-clause-in_bounds : goal.copy_within-requires-clause-in_bounds
copy_within-requires-clause-in_bounds c =
    omega (arith, within (length c.args.rows.now) c.args.time c.args.used (λ i. as_row (get_or c.args.rows.now i no_row)) c.in_ok-scan.field-0 c.in_ok-scan.ensures)

pub copy_within-requires-clause-dest_in_bounds : goal.copy_within-requires-clause-dest_in_bounds
copy_within-requires-clause-dest_in_bounds c =
    let way = remove-as (length c.args.rows.now) c.args.time c.args.used (λ i. as_row (get_or c.args.rows.now i no_row)) c.in_ok-scan.field-0 c.in_ok-scan.ensures (Removing.Gone c.in-Gone.at) c.in-Gone.is c.in_ok-put.ensures in
    omega (arith, gone-inside (length c.args.rows.now) c.args.time c.args.used (λ i. as_row (get_or c.args.rows.now i no_row)) c.in_ok-scan.field-0 c.in_ok-scan.ensures way, within (length c.args.rows.now) c.args.time c.args.used (λ i. as_row (get_or c.args.rows.now i no_row)) c.in_ok-scan.field-0 c.in_ok-scan.ensures)

pub overflow_sub-result : goal.overflow_sub-result
overflow_sub-result c =
    let way = remove-as (length c.args.rows.now) c.args.time c.args.used (λ i. as_row (get_or c.args.rows.now i no_row)) c.in_ok-scan.field-0 c.in_ok-scan.ensures (Removing.Gone c.in-Gone.at) c.in-Gone.is c.in_ok-put.ensures in
    omega (arith, gone-inside (length c.args.rows.now) c.args.time c.args.used (λ i. as_row (get_or c.args.rows.now i no_row)) c.in_ok-scan.field-0 c.in_ok-scan.ensures way)

pub returns-in-Fewer : goal.returns-in-Fewer
returns-in-Fewer c =
    let way = remove-as (length c.args.rows.now) c.args.time c.args.used (λ i. as_row (get_or c.args.rows.now i no_row)) c.in_ok-scan.field-0 c.in_ok-scan.ensures (Removing.Fewer c.in-Fewer.put) c.in-Fewer.is c.in_ok-put.ensures in
    record { reply = fewer-said (length c.args.rows.now) c.args.time c.args.used (λ i. as_row (get_or c.args.rows.now i no_row)) c.in_ok-scan.field-0 c.in_ok-scan.ensures way; rows = c.write.ensures ∙ fewer-writes as_lent c.args.rows.now way (rows_in_lem c.args.used c.args.rows.now) }

pub returns-in-Gone : goal.returns-in-Gone
returns-in-Gone c =
    let way = remove-as (length c.args.rows.now) c.args.time c.args.used (λ i. as_row (get_or c.args.rows.now i no_row)) c.in_ok-scan.field-0 c.in_ok-scan.ensures (Removing.Gone c.in-Gone.at) c.in-Gone.is c.in_ok-put.ensures in
    record { reply = gone-said (length c.args.rows.now) c.args.time c.args.used (λ i. as_row (get_or c.args.rows.now i no_row)) c.in_ok-scan.field-0 c.in_ok-scan.ensures way; rows = c.copy_within.ensures.after ∙ gone-written (length c.args.rows.now) c.args.time c.args.used (λ i. as_row (get_or c.args.rows.now i no_row)) c.in_ok-scan.field-0 c.in_ok-scan.ensures as_lent c.args.rows.now way (rows_in_lem c.args.used c.args.rows.now) }

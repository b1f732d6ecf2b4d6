-- The first row's timestamp, of sound rows.
use Rattle.std.proofs.Common.{◌≡◌, ℕ, length, get_or, sym, ap, ◌∙◌, rules}
use Rattle.std.specs.Prelude.{option_map, slice_get}
use lib.ListN.{take}
use lib.Seq.{length-take-le}
use Rattle.std.proofs.lemmas.Result.{err_from_is_err_and}
use Rattle.watermark.specs.Table.{as_row, no_row, rows_of}
use Rattle.watermark.proofs.Fronts.{rows-front}
use Rattle.watermark.proofs.Answers.{sound, within, smallest-is, first_of, timed, smallest-stops}
use Rattle.watermark.proofs.rows.smallest.Goals as goal

pub returns-in_err-scan : goal.returns-in_err-scan
returns-in_err-scan c =
    let p = err_from_is_err_and c.from_residual.result c.from_residual.ensures.1 in
    rw p.1 (sym (smallest-stops (length c.args.rows.now) 0 c.args.used (λ i. as_row (get_or c.args.rows.now i no_row)) _ c.in_err-scan.ensures))

pub slice_bounds-first-end : goal.slice_bounds-first-end
slice_bounds-first-end c =
    sym (length-take-le c.args.used c.args.rows.now (within (length c.args.rows.now) 0 c.args.used (λ i. as_row (get_or c.args.rows.now i no_row)) c.in_ok-scan.field-0 c.in_ok-scan.ensures))

pub returns : goal.returns
returns c =
    let at = λ (i : ℕ). as_row (get_or c.args.rows.now i no_row) in
    let mapped : c.map.result ≡ option_map (λ r. r.time) (slice_get (take c.args.used c.args.rows.now) 0) =
    timed c.first.result c.map.result (search rules) ∙ ap (option_map (λ r. r.time)) c.first.ensures.value in
    smallest-is (length c.args.rows.now) (rows_of c.args.used c.args.rows.now) c.map.result (sound (length c.args.rows.now) 0 c.args.used at c.in_ok-scan.field-0 c.in_ok-scan.ensures)
    (mapped ∙ first_of (rows_of c.args.used c.args.rows.now) (take c.args.used c.args.rows.now) (rows-front c.args.used c.args.rows.now (within (length c.args.rows.now) 0 c.args.used at c.in_ok-scan.field-0 c.in_ok-scan.ensures)))

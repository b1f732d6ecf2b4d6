-- The first timestamp, of sound rows.
use Rattle.std.proofs.Common.{get_or, sym, ◌∙◌, arith}
use lib.ListN.{take}
use lib.Seq.{length-take-le}
use Rattle.std.proofs.lemmas.Result.{err_from_is_err_and}
use Rattle.paper.specs.Readers.{row}
use Rattle.watermark.specs.Table.{room_in, rows_in}
use Rattle.watermark.proofs.Fronts.{times-front}
use Rattle.watermark.proofs.Answers.{sound, within, smallest-is, first-in, smallest-stops}
use Rattle.watermark.proofs.smallest.Goals as goal

pub returns-in_err-scan : goal.returns-in_err-scan
returns-in_err-scan c =
    let p = err_from_is_err_and c.from_residual.result c.from_residual.ensures.1 in
    rw p.1 (sym (smallest-stops (room_in c.args.times.now c.args.counts.now) 0 c.args.used (λ i. row (get_or c.args.times.now i 0) (get_or c.args.counts.now i 0)) _ c.in_err-scan.ensures))

pub slice_bounds-first-end : goal.slice_bounds-first-end
slice_bounds-first-end c =
    sym (length-take-le c.args.used c.args.times.now (omega (arith, within (room_in c.args.times.now c.args.counts.now) 0 c.args.used (λ i. row (get_or c.args.times.now i 0) (get_or c.args.counts.now i 0)) c.in_ok-scan.field-0 c.in_ok-scan.ensures)))

pub returns : goal.returns
returns c =
    let fits = within (room_in c.args.times.now c.args.counts.now) 0 c.args.used (λ i. row (get_or c.args.times.now i 0) (get_or c.args.counts.now i 0)) c.in_ok-scan.field-0 c.in_ok-scan.ensures in
    smallest-is (room_in c.args.times.now c.args.counts.now) (rows_in c.args.used c.args.times.now c.args.counts.now) c.copied.result (sound (room_in c.args.times.now c.args.counts.now) 0 c.args.used (λ i. row (get_or c.args.times.now i 0) (get_or c.args.counts.now i 0)) c.in_ok-scan.field-0 c.in_ok-scan.ensures)
    (c.copied.ensures ∙ c.first.ensures.value ∙ first-in (rows_in c.args.used c.args.times.now c.args.counts.now) (take c.args.used c.args.times.now) (times-front c.args.used c.args.times.now c.args.counts.now fits))

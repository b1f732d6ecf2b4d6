-- The pass, what was decided, and what was written.
use Rattle.std.proofs.Common.{get_or, refl, ap, ◌∙◌, arith}
use Rattle.std.proofs.lemmas.Result.{err_from_is_err_and}
use Rattle.paper.specs.Readers.{row}
use Rattle.paper.specs.Refusals.{go}
use Rattle.watermark.specs.Table.{room_in}
use Rattle.watermark.specs.Pass.{adding_of}
use Rattle.watermark.proofs.Plans.{add-stops, add-within, add-writes}
use Rattle.watermark.proofs.Fronts.{times-in, counts-in}
use Rattle.watermark.proofs.Answers.{add-of, add-said, counted-below, add-stops-unsound, left-as-was}
use Rattle.watermark.proofs.add_reader.Goals as goal

pub returns-in_err-scan : goal.returns-in_err-scan
returns-in_err-scan c =
    let p = err_from_is_err_and c.from_residual.result c.from_residual.ensures.1 in
    rw (p.1, p.2) (left-as-was c.args.times.now c.args.counts.now refl (add-stops-unsound (room_in c.args.times.now c.args.counts.now) c.args.time c.args.used (λ i. row (get_or c.args.times.now i 0) (get_or c.args.counts.now i 0)) _ c.in_err-scan.ensures))

pub plan_add-requires : goal.plan_add-requires
plan_add-requires c =
    counted-below (room_in c.args.times.now c.args.counts.now) c.args.time c.args.used (λ i. row (get_or c.args.times.now i 0) (get_or c.args.counts.now i 0)) c.in_ok-scan.field-0 c.in_ok-scan.ensures c.ranges.used.fits

pub returns-in_err-put : goal.returns-in_err-put
returns-in_err-put c =
    let way = add-of (room_in c.args.times.now c.args.counts.now) c.args.time c.args.used (λ i. row (get_or c.args.times.now i 0) (get_or c.args.counts.now i 0)) c.in_ok-scan.field-0 c.in_ok-scan.ensures _ (c.in_err-put.ensures ∙ ap (adding_of c.in_ok-scan.field-0 c.args.used) c.min-room.ensures) in
    let p = err_from_is_err_and c.from_residual-in_err-put.result c.from_residual-in_err-put.ensures.1 in
    rw (p.1, p.2) (left-as-was c.args.times.now c.args.counts.now refl (add-stops way))

pub write-requires-clause-from : goal.write-requires-clause-from
write-requires-clause-from c =
    let way = add-of (room_in c.args.times.now c.args.counts.now) c.args.time c.args.used (λ i. row (get_or c.args.times.now i 0) (get_or c.args.counts.now i 0)) c.in_ok-scan.field-0 c.in_ok-scan.ensures _ (c.in_ok-put.ensures ∙ ap (adding_of c.in_ok-scan.field-0 c.args.used) c.min-room.ensures) in
    (add-within way).0

pub write-requires-clause-to : goal.write-requires-clause-to
write-requires-clause-to c =
    let way = add-of (room_in c.args.times.now c.args.counts.now) c.args.time c.args.used (λ i. row (get_or c.args.times.now i 0) (get_or c.args.counts.now i 0)) c.in_ok-scan.field-0 c.in_ok-scan.ensures _ (c.in_ok-put.ensures ∙ ap (adding_of c.in_ok-scan.field-0 c.args.used) c.min-room.ensures) in
    omega (arith, (add-within way).1)

pub write-requires-2-clause-from : goal.write-requires-2-clause-from
write-requires-2-clause-from c =
    let way = add-of (room_in c.args.times.now c.args.counts.now) c.args.time c.args.used (λ i. row (get_or c.args.times.now i 0) (get_or c.args.counts.now i 0)) c.in_ok-scan.field-0 c.in_ok-scan.ensures _ (c.in_ok-put.ensures ∙ ap (adding_of c.in_ok-scan.field-0 c.args.used) c.min-room.ensures) in
    (add-within way).0

pub write-requires-2-clause-to : goal.write-requires-2-clause-to
write-requires-2-clause-to c =
    let way = add-of (room_in c.args.times.now c.args.counts.now) c.args.time c.args.used (λ i. row (get_or c.args.times.now i 0) (get_or c.args.counts.now i 0)) c.in_ok-scan.field-0 c.in_ok-scan.ensures _ (c.in_ok-put.ensures ∙ ap (adding_of c.in_ok-scan.field-0 c.args.used) c.min-room.ensures) in
    omega (arith, (add-within way).1)

pub returns : goal.returns
returns c =
    let way = add-of (room_in c.args.times.now c.args.counts.now) c.args.time c.args.used (λ i. row (get_or c.args.times.now i 0) (get_or c.args.counts.now i 0)) c.in_ok-scan.field-0 c.in_ok-scan.ensures _ (c.in_ok-put.ensures ∙ ap (adding_of c.in_ok-scan.field-0 c.args.used) c.min-room.ensures) in
    record {
      reply = ap go c.max.ensures ∙ add-said (room_in c.args.times.now c.args.counts.now) c.args.time c.args.used (λ i. row (get_or c.args.times.now i 0) (get_or c.args.counts.now i 0)) c.in_ok-scan.field-0 c.in_ok-scan.ensures way;
      times = c.write.ensures ∙ add-writes (λ r. r.time) c.args.times.now way (times-in c.args.used c.args.times.now c.args.counts.now);
      counts = c.write-2.ensures ∙ add-writes (λ r. r.count) c.args.counts.now way (counts-in c.args.used c.args.times.now c.args.counts.now);
    }

-- Row by row, while they are sound.
use Rattle.std.proofs.Common.{◌≡◌, ℕ, true, ◌+◌, length, get_or, sym, ap, ◌∙◌, Ok, arith}
use lib.Seq.{length-take-le}
use Rattle.std.proofs.lemmas.List.{get_or-take}
use Rattle.std.proofs.lemmas.Result.{err_from_is_err_and}
use Rattle.watermark.specs.Table.{as_row, no_row, up_to}
use Rattle.watermark.specs.Pass.{scanned}
use Rattle.watermark.proofs.OnePass.{start-sound, next-seen, still-unsound, below-within}
use Rattle.watermark.proofs.Answers.{past-end, within-end}
use Rattle.watermark.proofs.rows.scan.Goals as goal

pub returns-then-rows-used : goal.returns-then-rows-used
returns-then-rows-used c = past-end c.args.used _ c.args.time _ c.if-rows-used.true

pub loop-row-init : goal.loop-row-init
unfolding up_to
loop-row-init c = ap Ok c.start-s.ensures ∙ sym (start-sound c.args.time)

pub see-requires : goal.see-requires
see-requires c =
    omega (arith, below-within c.args.time (λ i. as_row (get_or c.args.rows.now i no_row)) c.loop-row.row-index c.loop-row.s c.loop-row.invariant, length-take-le c.args.used c.args.rows.now c.if-rows-used.false)

pub returns-in_err-s : goal.returns-in_err-s
returns-in_err-s c =
    let at = λ (i : ℕ). as_row (get_or c.args.rows.now i no_row) in
    let long = length-take-le c.args.used c.args.rows.now c.if-rows-used.false in
    let here = get_or-take c.args.used c.args.rows.now c.loop-row.row-index no_row (omega (arith, long)) in
    let p = err_from_is_err_and c.from_residual.result c.from_residual.ensures.1 in
    rw (p.1, p.2) (
    within-end c.args.used (length c.args.rows.now) c.args.time _ _ c.if-rows-used.false
    (still-unsound c.args.time at (c.loop-row.row-index + 1) c.args.used _ (omega (arith, long)) (c.in_err-s.ensures ∙ next-seen c.args.time at c.loop-row.row-index c.loop-row.s _ c.loop-row.invariant (ap as_row here)))
    )

pub loop-row-preserved : goal.loop-row-preserved
loop-row-preserved c =
    let at = λ (i : ℕ). as_row (get_or c.args.rows.now i no_row) in
    let here = get_or-take c.args.used c.args.rows.now c.loop-row.row-index no_row (omega (arith, length-take-le c.args.used c.args.rows.now c.if-rows-used.false)) in
    c.in_ok-s.ensures ∙ next-seen c.args.time at c.loop-row.row-index c.loop-row.s _ c.loop-row.invariant (ap as_row here)

pub returns : goal.returns
returns c =
    let at = λ (i : ℕ). as_row (get_or c.args.rows.now i no_row) in
    let all : c.loop-row.row-index ≡ c.args.used = omega (arith, length-take-le c.args.used c.args.rows.now c.if-rows-used.false) in
    within-end c.args.used (length c.args.rows.now) c.args.time _ _ c.if-rows-used.false (c.loop-row.invariant ∙ ap (λ (i : ℕ). scanned true c.args.time (up_to i at)) all)

-- Row by row, while they are sound.
use lib.ListN.{take}
use lib.Seq.{length-take-le}
use Rattle.std.proofs.lemmas.List.{get_or-take, length_push}
use Rattle.std.proofs.Common.{◌≡◌, ℕ, ◌≤◌, true, ◌+◌, length, get_or, sym, ap, ap₂, ◌∙◌, Ok, arith}
use Rattle.std.proofs.lemmas.Result.{err_from_is_err_and}
use Rattle.std.proofs.lemmas.Slice.Zip.{zip_turn, zip_end}
use Rattle.paper.specs.Readers.{row}
use Rattle.watermark.specs.Table.{up_to, room_in}
use Rattle.watermark.specs.Pass.{scanned}
use Rattle.watermark.proofs.OnePass.{start-sound, next-seen, still-unsound, below-within}
use Rattle.watermark.proofs.Answers.{past-end, within-end}
use Rattle.watermark.proofs.scan.Goals as goal

pub returns-then-min-used : goal.returns-then-min-used
returns-then-min-used c = past-end c.args.used _ c.args.time _ (omega (arith, c.min.ensures))

pub loop-t-init : goal.loop-t-init
unfolding up_to
loop-t-init c = ap Ok c.start-s.ensures ∙ sym (start-sound c.args.time)

pub see-requires : goal.see-requires
see-requires c =
    let turn = zip_turn (take c.args.used c.args.times.now) (take c.args.used c.args.counts.now) c.loop-t.yielded _ _ c.next.new.self _ (cc) (cc) c.loop-t.yielded_by (c.in-Some.t, c.in-Some.n) c.in-Some.is c.next.ensures.steps in
    let long = length-take-le c.args.used c.args.times.now (omega (arith, c.min.ensures)) in
    omega (arith, below-within c.args.time (λ i. row (get_or c.args.times.now i 0) (get_or c.args.counts.now i 0)) (length c.loop-t.yielded) c.loop-t.s c.loop-t.invariant, turn.0)

pub returns-in_err-s : goal.returns-in_err-s
returns-in_err-s c =
    let at = λ (i : ℕ). row (get_or c.args.times.now i 0) (get_or c.args.counts.now i 0) in
    let turn = zip_turn (take c.args.used c.args.times.now) (take c.args.used c.args.counts.now) c.loop-t.yielded _ _ c.next.new.self _ (cc) (cc) c.loop-t.yielded_by (c.in-Some.t, c.in-Some.n) c.in-Some.is c.next.ensures.steps in
    let long = length-take-le c.args.used c.args.times.now (omega (arith, c.min.ensures)) in
    let here = ap₂ row
    (turn.2 0 ∙ get_or-take c.args.used c.args.times.now (length c.loop-t.yielded) 0 (omega (arith, long, turn.0)))
    (turn.3 0 ∙ get_or-take c.args.used c.args.counts.now (length c.loop-t.yielded) 0 (omega (arith, long, turn.0))) in
    let p = err_from_is_err_and c.from_residual.result c.from_residual.ensures.1 in
    rw (p.1, p.2) (
    within-end c.args.used (room_in c.args.times.now c.args.counts.now) c.args.time _ _ (omega (arith, c.min.ensures))
    (still-unsound c.args.time at (length c.loop-t.yielded + 1) c.args.used _ (omega (arith, long, turn.0)) (c.in_err-s.ensures ∙ next-seen c.args.time at (length c.loop-t.yielded) c.loop-t.s _ c.loop-t.invariant here))
    )

pub loop-t-preserved : goal.loop-t-preserved
loop-t-preserved c =
    let at = λ (i : ℕ). row (get_or c.args.times.now i 0) (get_or c.args.counts.now i 0) in
    let turn = zip_turn (take c.args.used c.args.times.now) (take c.args.used c.args.counts.now) c.loop-t.yielded _ _ c.next.new.self _ (cc) (cc) c.loop-t.yielded_by (c.in-Some.t, c.in-Some.n) c.in-Some.is c.next.ensures.steps in
    let long = length-take-le c.args.used c.args.times.now (omega (arith, c.min.ensures)) in
    let here = ap₂ row
    (turn.2 0 ∙ get_or-take c.args.used c.args.times.now (length c.loop-t.yielded) 0 (omega (arith, long, turn.0)))
    (turn.3 0 ∙ get_or-take c.args.used c.args.counts.now (length c.loop-t.yielded) 0 (omega (arith, long, turn.0))) in
    c.in_ok-s.ensures ∙ next-seen c.args.time at (length c.loop-t.yielded) c.loop-t.s _ c.loop-t.invariant here
    ∙ ap (λ (i : ℕ). scanned true c.args.time (up_to i at)) (sym (length_push c.loop-t.yielded (c.in-Some.t, c.in-Some.n)))

pub returns : goal.returns
returns c =
    let at = λ (i : ℕ). row (get_or c.args.times.now i 0) (get_or c.args.counts.now i 0) in
    let end = zip_end (take c.args.used c.args.times.now) (take c.args.used c.args.counts.now) c.loop-t.yielded _ _ c.next.new.self _ (cc) (cc) c.loop-t.yielded_by c.in-None.is c.next.ensures.steps in
    let fits : c.args.used ≤ room_in c.args.times.now c.args.counts.now = omega (arith, c.min.ensures) in
    let all : length c.loop-t.yielded ≡ c.args.used =
    omega (arith, end, length-take-le c.args.used c.args.times.now (omega arith), length-take-le c.args.used c.args.counts.now (omega arith)) in
    within-end c.args.used (room_in c.args.times.now c.args.counts.now) c.args.time _ _ fits (c.loop-t.invariant ∙ ap (λ (i : ℕ). scanned true c.args.time (up_to i at)) all)

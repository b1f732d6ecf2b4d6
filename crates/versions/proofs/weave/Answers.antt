use Rattle.std.proofs.Common.{arith}
use Rattle.overlay.specs.Overlay.{pairs_in}
use Rattle.versions.proofs.Absorbing.{own-rise}
use Rattle.versions.proofs.Weaving.{weave-start, weave-done, weave-space, weave-next}
use Rattle.versions.proofs.weave.Goals as goal

pub loop-entry-init : goal.loop-entry-init
loop-entry-init c =
    rw c.into_iter-entry-iterator.ensures.into_iter_gives
    (weave-start c.args.number c.args.room.now c.args.from (pairs_in c.args.own.bytes.now) c.requires.0 c.requires.1 c.requires.2 (own-rise c.args.own) c.requires.3)

pub put_record-requires : goal.put_record-requires
put_record-requires c =
    let w = c.loop-entry.invariant in
    omega (arith, weave-space _ _ _ _ _ _ _ w _ _ c.in-Some.ensures.steps, c.seek-place.ensures.low, c.seek-place.ensures.high, w.long, c.shift.auto.s)

pub overflow_add-at-in-loop-entry-2 : goal.overflow_add-at-in-loop-entry-2
overflow_add-at-in-loop-entry-2 c =
    let w = c.loop-entry.invariant in
    omega (arith, weave-space _ _ _ _ _ _ _ w _ _ c.in-Some.ensures.steps, c.seek-place.ensures.low, c.seek-place.ensures.high, w.long)

pub overflow_add-at-in-loop-entry-3 : goal.overflow_add-at-in-loop-entry-3
overflow_add-at-in-loop-entry-3 c =
    let w = c.loop-entry.invariant in
    omega (arith, weave-space _ _ _ _ _ _ _ w _ _ c.in-Some.ensures.steps, c.seek-place.ensures.low, c.seek-place.ensures.high, w.long)

pub overflow_add-at-in-loop-entry-4 : goal.overflow_add-at-in-loop-entry-4
overflow_add-at-in-loop-entry-4 c =
    let w = c.loop-entry.invariant in
    omega (arith, weave-space _ _ _ _ _ _ _ w _ _ c.in-Some.ensures.steps, c.seek-place.ensures.low, c.seek-place.ensures.high, w.long)

pub loop-entry-preserved : goal.loop-entry-preserved
loop-entry-preserved c =
    weave-next _ _ _ _ _ _ _ c.loop-entry.invariant _ _ c.in-Some.ensures.steps c.seek-place.result (rw c.new.ensures at c.seek-place.ensures) c.shift.new.s c.put_record.new.s c.shift.ensures c.put_record.ensures

pub returns : goal.returns
returns c = weave-done _ _ _ _ _ _ _ c.loop-entry.invariant c.in-None.ensures.steps.0

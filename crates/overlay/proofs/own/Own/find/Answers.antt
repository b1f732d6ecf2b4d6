use Rattle.std.proofs.Common.{arith}
use Rattle.overlay.proofs.Finding.{search-end, search-inside, search-gap, search-hit, search-next, search-start}
use Rattle.overlay.proofs.Putting.{size-own}
use Rattle.overlay.proofs.own.Own.find.Goals as goal

pub loop-entry-init : goal.loop-entry-init
loop-entry-init c =
    rw c.into_iter-entry-iterator.ensures.into_iter_gives (search-start _ _ _ (size-own c.args.self.bytes.now c.args.self.octets c.args.self.whole))

pub overflow_add-value-in-loop-entry : goal.overflow_add-value-in-loop-entry
overflow_add-value-in-loop-entry c =
    let i = search-inside _ _ _ _ _ c.loop-entry.invariant _ _ c.in-Some.ensures.steps in
    omega (arith, i, c.ranges.self)

pub overflow_add-end : goal.overflow_add-end
overflow_add-end c =
    let i = search-inside _ _ _ _ _ c.loop-entry.invariant _ _ c.in-Some.ensures.steps in
    omega (arith, i, c.ranges.self)

pub returns-in-Less : goal.returns-in-Less
returns-in-Less c = search-gap _ _ _ _ _ c.loop-entry.invariant _ _ c.in-Some.ensures.steps c.in-Less.ensures

pub returns-in-Equal : goal.returns-in-Equal
returns-in-Equal c = search-hit _ _ _ _ _ c.loop-entry.invariant _ _ c.in-Some.ensures.steps c.in-Equal.ensures

pub loop-entry-preserved : goal.loop-entry-preserved
loop-entry-preserved c = search-next _ _ _ _ _ c.loop-entry.invariant _ _ c.in-Some.ensures.steps c.in-Greater.ensures

pub returns : goal.returns
returns c = search-end _ _ _ _ _ c.loop-entry.invariant c.in-None.ensures.steps.0

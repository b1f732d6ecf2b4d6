-- What stays is moved to the front, the new entry stands behind it, and the number of their bytes is written; in the other mode nothing is.
use native.Mathlib.Omega.{arith}
use mathlib.Core.Path.{ap, ◌∙◌}
use Rattle.std.proofs.Common.{rules}
use Rattle.paper.specs.Image.{big_endian}
use Rattle.paper.specs.Keys.{Bytes}
use Rattle.raw.specs.Bytes.{over}
use Rattle.seat.proofs.Finding.{bytes_known}
use Rattle.committing.proofs.Held.{held_lies}
use Rattle.committing.proofs.Histories.{starts-are, sets-inside, history-lies}
use Rattle.committing.proofs.Entering.{other-same, writes-lie, enter-ready, written, written-long, next-is, entered}
use Rattle.committing.proofs.Transaction.enter_history.Goals as goal

pub sets-writes-requires : goal.sets-writes-requires
sets-writes-requires c = let L = held_lies c.requires.0 in omega arith

pub list_at-requires : goal.list_at-requires
list_at-requires c = writes-lie c.args.state.now (bytes_known _ (search rules)) c.args.self.shape c.args.self.place c.requires.0 _ (starts-are c.args.self.shape c.args.self.place _ c.sets-writes.ensures).1

pub list_at-end-requires : goal.list_at-end-requires
list_at-end-requires c = history-lies c.args.state.now (bytes_known _ (search rules)) c.requires.0.sound c.args.self.shape c.requires.0.shape

pub overflow_add-start : goal.overflow_add-start
overflow_add-start c = let L = held_lies c.requires.0 in omega arith

pub overflow_add-from : goal.overflow_add-from
overflow_add-from c = omega (arith, sets-inside c.args.state.now c.args.self.shape c.args.self.place _ c.requires.0 c.sets-writes.ensures)

pub overflow_sub-from : goal.overflow_sub-from
overflow_sub-from c =
    let L = held_lies c.requires.0 in
    omega (arith, sets-inside c.args.state.now c.args.self.shape c.args.self.place _ c.requires.0 c.sets-writes.ensures)

pub slice_bounds-enter_from-count : goal.slice_bounds-enter_from-count
slice_bounds-enter_from-count c =
    let L = held_lies c.requires.0 in
    omega (arith, sets-inside c.args.state.now c.args.self.shape c.args.self.place _ c.requires.0 c.sets-writes.ensures)

pub slice_bounds-enter_from-start : goal.slice_bounds-enter_from-start
slice_bounds-enter_from-start c =
    let L = held_lies c.requires.0 in
    omega (arith, sets-inside c.args.state.now c.args.self.shape c.args.self.place _ c.requires.0 c.sets-writes.ensures)

pub enter_from-next-requires : goal.enter_from-next-requires
enter_from-next-requires c =
    enter-ready c.args.state.now (bytes_known _ (search rules)) c.args.self.shape c.args.self.place c.requires.0 c.if-self.true c.args.number c.requires.1 _ (starts-are c.args.self.shape c.args.self.place _ c.sets-writes.ensures).1 _ c.cut-cut.ensures c.requires.2
    c.list_at-end.result.now c.list_at.result.now c.list_at-end.ensures c.list_at.ensures

pub put_number-requires-clause-there : goal.put_number-requires-clause-there
put_number-requires-clause-there c =
    let L = held_lies c.requires.0 in
    let long =
    written-long c.args.state.now (bytes_known _ (search rules)) c.args.self.shape c.args.self.place c.requires.0 c.if-self.true c.args.number c.requires.1 _ (starts-are c.args.self.shape c.args.self.place _ c.sets-writes.ensures).1 _ c.cut-cut.ensures c.requires.2
    c.list_at-end.result.now c.list_at.result.now c.list_at-end.ensures c.list_at.ensures c.enter_from-next.new.room c.enter_from-next.ensures.1 in
    omega (arith, long)

pub returns-then-self : goal.returns-then-self
returns-then-self c =
    c.put_number.ensures
    ∙ ap (λ (t : Bytes). over t c.args.self.shape.history (big_endian 8 c.enter_from-next.result))
    (written c.args.state.now (bytes_known _ (search rules)) c.args.self.shape c.args.self.place c.requires.0 c.if-self.true c.args.number c.requires.1 _ (starts-are c.args.self.shape c.args.self.place _ c.sets-writes.ensures).1 _ c.cut-cut.ensures c.requires.2
    c.list_at-end.result.now c.list_at.result.now c.list_at-end.ensures c.list_at.ensures c.enter_from-next.new.room c.enter_from-next.ensures.1)
    ∙ entered c.args.state.now (bytes_known _ (search rules)) c.args.self.shape c.args.self.place c.requires.0 c.if-self.true c.args.number c.requires.1 _ (starts-are c.args.self.shape c.args.self.place _ c.sets-writes.ensures).1 _ c.cut-cut.ensures c.requires.2 (omega arith) _
    (next-is c.args.state.now (bytes_known _ (search rules)) c.args.self.shape c.args.self.place c.requires.0 c.if-self.true c.args.number c.requires.1 _ (starts-are c.args.self.shape c.args.self.place _ c.sets-writes.ensures).1 _ c.cut-cut.ensures c.requires.2
    c.list_at-end.result.now c.list_at.result.now c.list_at-end.ensures c.list_at.ensures _ c.enter_from-next.ensures.0)

pub returns-else-self : goal.returns-else-self
returns-else-self c = other-same c.args.state.now (bytes_known _ (search rules)) c.args.self.shape c.args.self.place c.requires.0 c.if-self.false

-- In serializable mode the room for one entry more is asked behind what stays; in the other mode the history stays empty.
use native.Mathlib.Omega.{arith}
use borrow.Author.Tests.{not-true, not-false}
use mathlib.Core.Path.{ap, ◌∙◌}
use Rattle.paper.specs.Keys.{Bytes}
use Rattle.paper.specs.Lists.{is_some}
use Rattle.mvcc.specs.Histories.{history_read}
use Rattle.seat.proofs.Finding.{bytes_known}
use Rattle.committing.proofs.Held.{held_lies}
use Rattle.committing.proofs.Histories.{starts-are, history-lies}
use Rattle.committing.proofs.Entering.{other_fits, writes-lie, stays-lent, stays-reads, fits_told}
use Rattle.committing.proofs.Transaction.history_fits.Goals as goal

pub returns-then-not-self : goal.returns-then-not-self
returns-then-not-self c = other_fits c.args.state.now (bytes_known _ c.type_inv.state) c.args.self.shape c.args.self.place c.requires.0 (not-true _ c.if-not-self.true)

pub sets-requires : goal.sets-requires
sets-requires c = let L = held_lies c.requires.0 in omega arith

pub list_at-writes-requires : goal.list_at-writes-requires
list_at-writes-requires c = writes-lie c.args.state.now (bytes_known _ c.type_inv.state) c.args.self.shape c.args.self.place c.requires.0 _ (starts-are c.args.self.shape c.args.self.place _ c.sets.ensures).1

pub list_at-requires : goal.list_at-requires
list_at-requires c = history-lies c.args.state.now (bytes_known _ c.type_inv.state) c.requires.0.sound c.args.self.shape c.requires.0.shape

pub fits-requires : goal.fits-requires
fits-requires c =
    ap (λ (b : Bytes). is_some (history_read b))
    (stays-lent c.args.state.now (bytes_known _ c.type_inv.state) c.args.self.shape c.args.self.place c.requires.0 (not-false _ c.if-not-self.false) c.args.number c.requires.1 _ (starts-are c.args.self.shape c.args.self.place _ c.sets.ensures).1 _ c.cut-cut.ensures c.list_at.result.now c.list_at.ensures)
    ∙ stays-reads c.args.state.now (bytes_known _ c.type_inv.state) c.args.self.shape c.args.self.place c.requires.0 (not-false _ c.if-not-self.false) c.args.number c.requires.1 _ (starts-are c.args.self.shape c.args.self.place _ c.sets.ensures).1 _ c.cut-cut.ensures

pub returns : goal.returns
returns c =
    fits_told c.args.state.now (bytes_known _ c.type_inv.state) c.args.self.shape c.args.self.place c.requires.0 (not-false _ c.if-not-self.false) c.args.number c.requires.1 _ (starts-are c.args.self.shape c.args.self.place _ c.sets.ensures).1 _ c.cut-cut.ensures
    _ c.list_at.result.now c.list_at-writes.result.now c.list_at.ensures c.list_at-writes.ensures c.fits.ensures

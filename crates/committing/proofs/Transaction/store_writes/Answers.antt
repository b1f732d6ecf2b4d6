-- A number, room in the history and room in the active run, in this order, and then all is written.
use native.Mathlib.Omega.{arith}
use mathlib.Core.Path.{◌≡◌, sym, ◌∙◌}
use Rattle.std.proofs.Common.{rules}
use Rattle.std.proofs.lemmas.Result.{err_from_is_err_and}
use Rattle.reply.specs.declared.Refusal.TheVariants.{CounterFull}
use Rattle.seat.proofs.Finding.{bytes_known}
use Rattle.committing.proofs.Held.{held_lies}
use Rattle.committing.proofs.Writing.{placed}
use Rattle.committing.proofs.Replies.{clock-full, next-number, history-full, active-full, may_write, writes-told}
use Rattle.committing.proofs.Transaction.store_writes.Goals as goal

pub number-clock-requires-clause-there : goal.number-clock-requires-clause-there
number-clock-requires-clause-there c = let L = held_lies (placed c.args.state.now c.args.self.shape c.args.self.place c.requires.commits) in omega arith

pub returns-in_err-number : goal.returns-in_err-number
returns-in_err-number c =
    let p = err_from_is_err_and c.from_residual.result c.from_residual.ensures.1 in
    let none-told = rw c.in_err-number.ensures.ok_part at c.in_err-number.ensures.value in
    let full : c.in_err-number.field-0.0 ≡ CounterFull = cc in
    rw (p.1, p.2, full) (clock-full c.args.state.now (bytes_known _ (search rules)) c.args.self.shape c.args.self.place c.requires _ c.number-clock.ensures.value (rw c.in_err-number.ensures.ok_part at c.checked_add.ensures))

pub history_fits-requires : goal.history_fits-requires
history_fits-requires c = next-number c.args.state.now (bytes_known _ (search rules)) c.args.self.shape c.args.self.place c.requires _ c.number-clock.ensures.value _ (rw c.in_ok-number.ensures.ok_part at c.checked_add.ensures)

pub active_fits-requires : goal.active_fits-requires
active_fits-requires c = next-number c.args.state.now (bytes_known _ (search rules)) c.args.self.shape c.args.self.place c.requires _ c.number-clock.ensures.value _ (rw c.in_ok-number.ensures.ok_part at c.checked_add.ensures)

pub returns-then-not-history_fits : goal.returns-then-not-history_fits
returns-then-not-history_fits c = history-full c.args.state.now (bytes_known _ (search rules)) c.args.self.shape c.args.self.place c.requires _ c.number-clock.ensures.value _ (rw c.in_ok-number.ensures.ok_part at c.checked_add.ensures) (sym c.history_fits.ensures ∙ c.if-not-history_fits.true)

pub returns-then-not-active_fits : goal.returns-then-not-active_fits
returns-then-not-active_fits c = active-full c.args.state.now (bytes_known _ (search rules)) c.args.self.shape c.args.self.place c.requires _ c.number-clock.ensures.value _ (rw c.in_ok-number.ensures.ok_part at c.checked_add.ensures) (sym c.history_fits.ensures ∙ c.if-not-history_fits.false) (sym c.active_fits.ensures ∙ c.if-not-active_fits.true)

pub write_all-requires : goal.write_all-requires
write_all-requires c = may_write c.args.state.now (bytes_known _ (search rules)) c.args.self.shape c.args.self.place c.requires _ c.number-clock.ensures.value _ (rw c.in_ok-number.ensures.ok_part at c.checked_add.ensures) (sym c.history_fits.ensures ∙ c.if-not-history_fits.false) (sym c.active_fits.ensures ∙ c.if-not-active_fits.false)

pub returns : goal.returns
returns c = writes-told c.args.state.now (bytes_known _ (search rules)) c.args.self.shape c.args.self.place c.requires _ c.number-clock.ensures.value _ (rw c.in_ok-number.ensures.ok_part at c.checked_add.ensures) (sym c.history_fits.ensures ∙ c.if-not-history_fits.false) (sym c.active_fits.ensures ∙ c.if-not-active_fits.false) _ c.write_all.ensures

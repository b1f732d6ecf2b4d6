-- No transaction, or a closed one.
use native.Mathlib.Omega.{arith}
use mathlib.Core.Path.{◌≡◌, ◌∙◌}
use mathlib.Core.Bool.{false}
use Rattle.std.proofs.lemmas.Result.{err_from_is_err_and}
use Rattle.layout.proofs.SoundState.{sound-in}
use Rattle.reply.specs.declared.Refusal.TheVariants.{NoHandle}
use Rattle.seat.proofs.Entering.{enter-missing, enter-closed}
use Rattle.seat.proofs.open_seat.Goals as goal

pub returns-in_err-seat : goal.returns-in_err-seat
returns-in_err-seat c =
    let p = err_from_is_err_and c.from_residual.result c.from_residual.ensures.1 in
    let none-there = rw c.in_err-seat.ensures.ok_part at c.seat_of.ensures in
    let none-told = rw c.in_err-seat.ensures.ok_part at c.in_err-seat.ensures.value in
    let why : c.in_err-seat.field-0.0 ≡ NoHandle = cc in
    rw (p.1, p.2, why) (enter-missing _ _ (sound-in _ c.requires.0) none-there)

pub returns-then-not-seat : goal.returns-then-not-seat
returns-then-not-seat c =
    let there = rw c.in_ok-seat.ensures.ok_part at c.seat_of.ensures in
    let closed : c.in_ok-seat.seat.open ≡ false = grind arith in
    enter-closed _ _ (sound-in _ c.requires.0) there.txn there.found (there.marked ∙ closed)

use Rattle.std.proofs.Common.{sym}
use Rattle.overlay.proofs.Fields.{entry-cut, entry-short, entry-there}
use Rattle.overlay.proofs.first.Goals as goal

pub returns-in_err-key : goal.returns-in_err-key
returns-in_err-key c = rw c.from_residual.ensures (sym (entry-cut c.args.s.now (sym c.in_err-key.ensures)))

pub returns-in_err-value : goal.returns-in_err-value
returns-in_err-value c =
    rw c.from_residual-in_err-value.ensures (sym (entry-short c.args.s.now c.in_ok-key.key.now c.in_ok-key.rest.now (sym c.in_ok-key.ensures) (sym c.in_err-value.ensures)))

pub returns : goal.returns
returns c =
    sym (entry-there c.args.s.now c.in_ok-key.key.now c.in_ok-key.rest.now c.in_ok-value.value.now c.in_ok-value.rest.now (sym c.in_ok-key.ensures) (sym c.in_ok-value.ensures))

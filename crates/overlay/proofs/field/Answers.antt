use Rattle.std.proofs.Common.{sym}
use Rattle.overlay.proofs.Fields.{field-tiny, field-cut}
use Rattle.overlay.proofs.field.Goals as goal

pub returns-in_err-length : goal.returns-in_err-length
returns-in_err-length c = rw c.from_residual.ensures (sym (field-tiny c.args.s.now c.in_err-length.ensures.cases))

pub returns : goal.returns
returns c =
    field-cut c.args.s.now c.in_ok-length.length.now c.in_ok-length.rest.now c.length_at.result c.split_at_checked-2.result c.in_ok-length.ensures.cases c.length_at.ensures.0 c.split_at_checked-2.ensures.cases

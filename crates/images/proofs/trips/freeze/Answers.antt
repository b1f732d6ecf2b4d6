use Rattle.std.proofs.Common.{sym, ap, ◌∙◌, arith, Some}
use Rattle.key.specs.Versions.{packed}
use Rattle.run.proofs.Told.{says_of}
use Rattle.run.proofs.Judging.{whole_is}
use Rattle.images.proofs.trips.freeze.Goals as goal

pub freeze_into-requires : goal.freeze_into-requires
freeze_into-requires c =
    let there = c.in_ok-records.ensures.lookup.0 in
    let records = c.in_ok-records.records.now in
    let whole = whole_is records (says_of records (Some c.in_ok-records_check.field-0) c.in_ok-records_check.ensures).0 in
    (there.0, there.1, omega (arith, there.3, c.in_ok-checked_sub.ensures, c.in_ok-checked_sub-2.ensures, c.in_ok-checked_sub-3.ensures), ap packed (sym there.2) ∙ whole.0)

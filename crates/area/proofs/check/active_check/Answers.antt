use native.Mathlib.Omega.{arith}
use mathlib.Core.Path.{◌∙◌}
use Rattle.raw.proofs.Octets.{octets-of}
use Rattle.area.proofs.ActiveLaws.{active-cut, active-broken, active-late, active-good}
use Rattle.area.proofs.check.active_check.Goals as goal

pub returns-in_err-records : goal.returns-in_err-records
returns-in_err-records c =
    λ st w. c.from_residual.ensures ∙ active-cut c.args.part.now c.args.clock (octets-of c.args.part.now (λ i. omega (arith, c.type_inv.part i))) c.requires st w c.in_err-records.ensures

pub returns-in_err-tally : goal.returns-in_err-tally
returns-in_err-tally c =
    λ st w.
    c.from_residual-in_err-tally.ensures
    ∙ active-broken c.args.part.now c.args.clock (octets-of c.args.part.now (λ i. omega (arith, c.type_inv.part i))) c.requires st w c.in_ok-records.records.now c.in_ok-records.field-0-1.now c.in_ok-records.ensures c.in_err-tally.ensures

pub returns-then-clock-tally : goal.returns-then-clock-tally
returns-then-clock-tally c =
    λ st w.
    active-late c.args.part.now c.args.clock (octets-of c.args.part.now (λ i. omega (arith, c.type_inv.part i))) c.requires st w c.in_ok-records.records.now c.in_ok-records.field-0-1.now c.in_ok-records.ensures c.in_ok-tally.tally c.in_ok-tally.ensures c.if-clock-tally.true

pub returns : goal.returns
returns c =
    λ st w.
    active-good c.args.part.now c.args.clock (octets-of c.args.part.now (λ i. omega (arith, c.type_inv.part i))) c.requires st w c.in_ok-records.records.now c.in_ok-records.field-0-1.now c.in_ok-records.ensures c.in_ok-tally.tally c.in_ok-tally.ensures c.if-clock-tally.false

-- Each check that refuses gives its own return, and what all of them leave is what the writing asks for.
-- For the run area the last step is a tactic's, so that the proof can also hold where the code takes the room from a variable.
use mathlib.Core.Path.{◌≡◌, refl, sym, ap, ◌∙◌}
use mathlib.Core.Bool.{true}
use lib.ListN.{length}
use native.Mathlib.Omega.{arith}
use Rattle.std.proofs.lemmas.Result.{err_from_is_err_and}
use Rattle.area.specs.Opening.{clock_of}
use Rattle.settings.specs.Opening.{settings_of}
use Rattle.paper.specs.Refusals.{go}
use Rattle.paper.specs.Calls.{open_runs, images_in}
use Rattle.paper.specs.Room.{images_fit}
use Rattle.paper.specs.Settings.{in_ranges}
use Rattle.reply.specs.Told.{try_of, refusal_of}
use Rattle.opening.specs.Opening.{Passed}
use Rattle.opening.proofs.Ending.{checked, ends-setting, ends-bad, ends-area, ends-buffer, all-passed, ends-done}
use Rattle.opening.proofs.open.Goals as goal

pub returns-then-not-in_ranges : goal.returns-then-not-in_ranges
returns-then-not-in_ranges c = ends-setting (settings_of c.args.st) c.args.images.now c.args.lengths.now c.args.state.now (sym c.in_ranges.ensures ∙ c.if-not-in_ranges.true)

pub state_length-requires : goal.state_length-requires
state_length-requires c = sym c.in_ranges.ensures ∙ c.if-not-in_ranges.false

pub returns-in_err-clock : goal.returns-in_err-clock
returns-in_err-clock c =
    let ranged : in_ranges (settings_of c.args.st) ≡ true = sym c.in_ranges.ensures ∙ c.if-not-in_ranges.false in
    let p = err_from_is_err_and c.from_residual.result c.from_residual.ensures.1 in
    rw (p.1, p.2) (ends-bad (settings_of c.args.st) c.args.images.now c.args.lengths.now c.args.state.now ranged (refusal_of c.in_err-clock.field-0.0) (ap try_of (sym c.in_err-clock.was) ∙ checked c.open_check.result c.map_err.result c.map_err.ensures.cases ∙ c.open_check.ensures))

pub returns-then-not-images_fit : goal.returns-then-not-images_fit
returns-then-not-images_fit c =
    let ranged : in_ranges (settings_of c.args.st) ≡ true = sym c.in_ranges.ensures ∙ c.if-not-in_ranges.false in
    let timed : go c.in_ok-clock.clock ≡ clock_of (open_runs 1 (images_in c.args.images.now c.args.lengths.now)) = ap try_of (sym c.in_ok-clock.was) ∙ checked c.open_check.result c.map_err.result c.map_err.ensures.cases ∙ c.open_check.ensures in
    let told = ends-area (settings_of c.args.st) c.args.images.now c.args.lengths.now c.args.state.now ranged c.in_ok-clock.clock timed (sym (c.images_fit.ensures (settings_of c.args.st) refl) ∙ c.if-not-images_fit.true) in
    grind (arith, told)

pub returns-then-state-state_length : goal.returns-then-state-state_length
returns-then-state-state_length c =
    let ranged : in_ranges (settings_of c.args.st) ≡ true = sym c.in_ranges.ensures ∙ c.if-not-in_ranges.false in
    let timed : go c.in_ok-clock.clock ≡ clock_of (open_runs 1 (images_in c.args.images.now c.args.lengths.now)) = ap try_of (sym c.in_ok-clock.was) ∙ checked c.open_check.result c.map_err.result c.map_err.ensures.cases ∙ c.open_check.ensures in
    let roomy : images_fit (settings_of c.args.st) (images_in c.args.images.now c.args.lengths.now) ≡ true = sym (c.images_fit.ensures (settings_of c.args.st) refl) ∙ c.if-not-images_fit.false in
    ends-buffer (settings_of c.args.st) c.args.images.now c.args.lengths.now c.args.state.now ranged c.in_ok-clock.clock timed roomy (omega (arith, c.if-state-state_length.true, c.state_length.ensures.0))

pub write_opened-requires : goal.write_opened-requires
write_opened-requires c =
    let ranged : in_ranges (settings_of c.args.st) ≡ true = sym c.in_ranges.ensures ∙ c.if-not-in_ranges.false in
    let timed : go c.in_ok-clock.clock ≡ clock_of (open_runs 1 (images_in c.args.images.now c.args.lengths.now)) = ap try_of (sym c.in_ok-clock.was) ∙ checked c.open_check.result c.map_err.result c.map_err.ensures.cases ∙ c.open_check.ensures in
    let roomy : images_fit (settings_of c.args.st) (images_in c.args.images.now c.args.lengths.now) ≡ true = sym (c.images_fit.ensures (settings_of c.args.st) refl) ∙ c.if-not-images_fit.false in
    let passed : Passed (settings_of c.args.st) c.args.images.now c.args.lengths.now (length c.args.state.now) c.in_ok-clock.clock = all-passed (settings_of c.args.st) c.args.images.now c.args.lengths.now c.args.state.now ranged c.in_ok-clock.clock timed roomy (omega (arith, c.if-state-state_length.false, c.state_length.ensures.0)) in
    passed

pub returns : goal.returns
returns c =
    let ranged : in_ranges (settings_of c.args.st) ≡ true = sym c.in_ranges.ensures ∙ c.if-not-in_ranges.false in
    let timed : go c.in_ok-clock.clock ≡ clock_of (open_runs 1 (images_in c.args.images.now c.args.lengths.now)) = ap try_of (sym c.in_ok-clock.was) ∙ checked c.open_check.result c.map_err.result c.map_err.ensures.cases ∙ c.open_check.ensures in
    let roomy : images_fit (settings_of c.args.st) (images_in c.args.images.now c.args.lengths.now) ≡ true = sym (c.images_fit.ensures (settings_of c.args.st) refl) ∙ c.if-not-images_fit.false in
    let passed : Passed (settings_of c.args.st) c.args.images.now c.args.lengths.now (length c.args.state.now) c.in_ok-clock.clock = all-passed (settings_of c.args.st) c.args.images.now c.args.lengths.now c.args.state.now ranged c.in_ok-clock.clock timed roomy (omega (arith, c.if-state-state_length.false, c.state_length.ensures.0)) in
    ends-done (settings_of c.args.st) c.args.images.now c.args.lengths.now c.args.state.now c.in_ok-clock.clock passed c.write_opened.new.state c.write_opened.ensures

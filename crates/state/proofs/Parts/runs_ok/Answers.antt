-- Each of the two checks says what its part is; where both are good, the tie decides.
use native.Mathlib.Omega.{arith}
use mathlib.Core.Path.{◌∙◌, subst}
use Rattle.area.proofs.Checked.{ActiveSays, AreaSays}
use Rattle.settings.specs.Opening.{settings_of}
use Rattle.state.proofs.Together.{active-told, area-told, runs-active, runs-area, runs-tied}
use Rattle.state.proofs.Parts.runs_ok.Goals as goal

pub returns-in_default : goal.returns-in_default
returns-in_default c =
    let p = c.args.self.now in
    let st = settings_of p.st in
    let b = p.state.now in
    let h = p.lies in
    let active-here = active-told st b c.args.clock _ _ h.shape.active (omega (arith, h.active)) (omega (arith, h.active, h.area, h.inside)) c.active_check.result c.active_check.ensures in
    runs-active st b c.args.clock (subst (ActiveSays st b c.args.clock) c.in_default.is active-here)

pub returns-in_default-area_check : goal.returns-in_default-area_check
returns-in_default-area_check c =
    let p = c.args.self.now in
    let st = settings_of p.st in
    let b = p.state.now in
    let h = p.lies in
    let area-here = area-told st b c.args.clock _ _ h.shape.area (omega (arith, h.area)) (omega (arith, h.area, h.inside)) c.area_check.result c.area_check.ensures in
    runs-area st b c.args.clock (subst (AreaSays st b c.args.clock) c.in_default-area_check.is area-here)

pub returns : goal.returns
returns c =
    let p = c.args.self.now in
    let st = settings_of p.st in
    let b = p.state.now in
    let h = p.lies in
    let active-here = active-told st b c.args.clock _ _ h.shape.active (omega (arith, h.active)) (omega (arith, h.active, h.area, h.inside)) c.active_check.result c.active_check.ensures in
    let area-here = area-told st b c.args.clock _ _ h.shape.area (omega (arith, h.area)) (omega (arith, h.area, h.inside)) c.area_check.result c.area_check.ensures in
    c.newer.ensures
    ∙ runs-tied st b c.args.clock (omega (arith, c.ranges.clock.fits)) _ _ (subst (ActiveSays st b c.args.clock) c.in-Some.is active-here) (subst (AreaSays st b c.args.clock) c.in-Some-area_check.is area-here)

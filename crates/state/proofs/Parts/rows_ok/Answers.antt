-- The rows lie between byte 88 and the history.
use native.Mathlib.Omega.{arith}
use mathlib.Core.Path.{◌∙◌}
use Prim.Native.Nat.{◌-◌}
use Rattle.settings.specs.Opening.{settings_of}
use Rattle.state.proofs.Together.{rows_is}
use Rattle.state.proofs.Parts.rows_ok.Goals as goal

pub returns : goal.returns
returns c =
    let p = c.args.self.now in
    let st = settings_of p.st in
    let b = p.state.now in
    let h = p.lies in
    c.rows_read.ensures ∙ rows_is st b (p.shape.history - 88) (omega (arith, h.rows)) _ c.rows_in.ensures

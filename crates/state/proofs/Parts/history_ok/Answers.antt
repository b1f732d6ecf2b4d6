-- The number in front of the history, then its entries.
use native.Mathlib.Omega.{arith}
use mathlib.Core.Path.{◌∙◌}
use Rattle.settings.specs.Opening.{settings_of}
use Rattle.state.proofs.Histories.{history-short, history-told}
use Rattle.state.proofs.Parts.history_ok.Goals as goal

pub returns-then-self-from : goal.returns-then-self-from
returns-then-self-from c =
    let p = c.args.self.now in
    let st = settings_of p.st in
    let b = p.state.now in
    let h = p.lies in
    history-short st p.shape h.shape b c.args.clock (omega (arith, h.active, h.area, h.inside)) c.number-n.result c.number-n.ensures.value c.if-self-from.true

pub returns : goal.returns
returns c =
    let p = c.args.self.now in
    let st = settings_of p.st in
    let b = p.state.now in
    let h = p.lies in
    c.history_check.ensures
    ∙ history-told st p.shape h.shape b c.args.clock (omega (arith, h.active, h.area, h.inside)) c.number-n.result c.number-n.ensures.value c.entries.result (omega (arith, c.if-self-from.false)) c.entries.ensures

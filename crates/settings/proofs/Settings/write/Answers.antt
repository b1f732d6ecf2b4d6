use Rattle.settings.proofs.Writing.{put_next, put-none, put-settings}
use Rattle.settings.specs.Opening.{settings_of}
use Rattle.layout.specs.Codec.{put_all}
use Rattle.layout.specs.Layout.{n8}
use Rattle.raw.specs.Bytes.{over}
use Rattle.std.proofs.Common.{◌<◌, ◌*◌, length, length-take, take, arith}
use Rattle.std.proofs.lemmas.List.{take_more, take_all}
use mathlib.Core.Path.{sym, ap, ◌∙◌}
use Rattle.settings.proofs.Settings.write.Goals as goal

pub loop-i-init : goal.loop-i-init
loop-i-init c = put-none c.args.state.now

pub loop-i-preserved : goal.loop-i-preserved
loop-i-preserved c =
    let i = c.loop-i.i in
    let l : i < length c.numbers.result = omega (arith, ap length c.numbers.ensures) in
    put_next c.args.state.now _ _ (take i c.numbers.result) (8 * i) _ (omega (arith, length-take i c.numbers.result)) c.loop-i.invariant c.put_number.ensures
    ∙ ap (λ ns. over c.args.state.now 0 (put_all n8 ns)) (sym (take_more c.numbers.result i 0 l))

pub returns : goal.returns
returns c =
    c.loop-i.invariant
    ∙ ap (λ ns. over c.args.state.now 0 (put_all n8 ns)) (take_all c.loop-i.i c.numbers.result (omega (arith, ap length c.numbers.ensures)) ∙ c.numbers.ensures)
    ∙ ap (over c.args.state.now 0) (put-settings (settings_of c.args.self))

use native.Mathlib.Omega.{arith}
use mathlib.Core.Path.{ap, ◌∙◌}
use Prim.Native.Nat.{ℕ}
use Rattle.paper.specs.Image.{big_endian}
use Rattle.raw.specs.Bytes.{over}
use Rattle.settings.specs.Opening.{settings_of}
use Rattle.opening.proofs.Freeing.{none-freed, place-next, all-freed}
use Rattle.opening.proofs.free_places.Goals as goal

pub shape-shape-requires : goal.shape-shape-requires
shape-shape-requires c = c.requires.0

pub loop-i-init : goal.loop-i-init
loop-i-init c = none-freed c.shape-shape.result c.args.state.now

pub place_at-requires : goal.place_at-requires
place_at-requires c =
    let upcoming = place-next c.shape-shape.result c.args.state.now c.loop-i.state c.loop-i.i c.loop-i.invariant (settings_of c.args.st) c.requires.0 c.shape-shape.ensures c.requires.1 c.loop-i-test.true in
    omega (arith, upcoming.small)

pub put_number-requires-clause-there : goal.put_number-requires-clause-there
put_number-requires-clause-there c =
    let upcoming = place-next c.shape-shape.result c.args.state.now c.loop-i.state c.loop-i.i c.loop-i.invariant (settings_of c.args.st) c.requires.0 c.shape-shape.ensures c.requires.1 c.loop-i-test.true in
    omega (arith, upcoming.inside, c.place_at.ensures)

pub loop-i-preserved : goal.loop-i-preserved
loop-i-preserved c =
    let upcoming = place-next c.shape-shape.result c.args.state.now c.loop-i.state c.loop-i.i c.loop-i.invariant (settings_of c.args.st) c.requires.0 c.shape-shape.ensures c.requires.1 c.loop-i-test.true in
    upcoming.next c.put_number.new.s (c.put_number.ensures ∙ ap (λ (j : ℕ). over c.loop-i.state j (big_endian 8 0)) c.place_at.ensures)

pub returns : goal.returns
returns c =
    all-freed c.shape-shape.result c.args.state.now c.loop-i.state c.loop-i.i c.loop-i.invariant (settings_of c.args.st) c.requires.0 c.shape-shape.ensures c.loop-i-test.false

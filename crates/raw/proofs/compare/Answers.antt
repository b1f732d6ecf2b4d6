-- Long ones are alike as far as they were looked at, and decided at the first byte that differs.
use native.Mathlib.Omega.{arith}
use mathlib.Core.Path.{refl, ap, ◌∙◌}
use lib.ListN.{get_or}
use Rattle.raw.specs.Orders.{ordering}
use Rattle.raw.proofs.Comparing.{compare-keys, compare-numbers}
use Rattle.raw.proofs.Heads.{alike-on, decided}
use Rattle.raw.proofs.compare.Goals as goal

pub loop-i-init : goal.loop-i-init
loop-i-init c = refl

pub loop-i-preserved : goal.loop-i-preserved
loop-i-preserved c = alike-on c.args.a.now c.args.b.now c.loop-i.i (omega (arith, c.if-a-ge-LONG.true, c.loop-i-test.true)) (omega (arith, c.if-b-ge-LONG.true, c.loop-i-test.true)) c.loop-i.invariant c.if-a-i.false

pub returns-then-a-i : goal.returns-then-a-i
returns-then-a-i c =
    decided c.args.a.now c.args.b.now c.loop-i.i (omega (arith, c.if-a-ge-LONG.true, c.loop-i-test.true)) (omega (arith, c.if-b-ge-LONG.true, c.loop-i-test.true)) c.loop-i.invariant
    c.cmp.result (ap ordering c.cmp.ensures ∙ compare-numbers (get_or c.args.a.now c.loop-i.i 0) (get_or c.args.b.now c.loop-i.i 0)) c.if-a-i.true

pub returns : goal.returns
returns c = grind (arith, compare-keys)

use Rattle.probe.proofs.Asking.{placed-none, placed-next, placed-all}
use mathlib.Core.Path.{refl, ◌∙◌}
use lib.ListN.{length-set}
use native.Mathlib.Omega.{arith}
use Rattle.probe.proofs.cursors_of.Goals as goal

pub loop-i-init : goal.loop-i-init
loop-i-init c = record { long = refl; made = placed-none _ }

pub loop-i-preserved : goal.loop-i-preserved
loop-i-preserved c =
    let i = c.loop-i.invariant in
    record {
      long = length-set c.loop-i.c-items c.loop-i.i c.cursor_at.result ∙ i.long;
      made = placed-next c.args.places.now c.loop-i.c-items c.loop-i.i c.cursor_at.result (omega arith) c.cursor_at.ensures i.made;
    }

pub returns : goal.returns
returns c = placed-all c.args.places.now c.loop-i.c-items c.loop-i.i c.loop-i.invariant.long (omega arith) c.loop-i.invariant.made

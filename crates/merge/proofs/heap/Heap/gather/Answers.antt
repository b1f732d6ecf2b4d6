use mathlib.Core.Path.{refl, ap, ◌∙◌}
use native.Mathlib.Omega.{arith}
use Rattle.std.proofs.lemmas.List.{take_all}
use Rattle.paper.specs.Lists.{keep}
use Rattle.merge.specs.Cursors.{unfinished}
use Rattle.merge.proofs.Building.{gathered-on}
use Rattle.merge.proofs.heap.Heap.gather.Goals as goal

pub loop-c-init : goal.loop-c-init
unfolding keep
loop-c-init c = record { few = omega arith; long = omega arith; kept = refl }

pub loop-c-preserved : goal.loop-c-preserved
loop-c-preserved c =
    let r = gathered-on c.args.cursors.now c.loop-c.c-index c.loop-c.heap c.push.new.self (omega arith) c.loop-c.invariant.few c.loop-c.invariant.kept c.push.ensures in
    record { few = r.0; long = r.1; kept = r.2 }

pub returns : goal.returns
returns c =
    record {
      few = omega arith;
      long = c.loop-c.invariant.long;
      kept = c.loop-c.invariant.kept ∙ ap (keep unfinished) (take_all c.loop-c.c-index c.args.cursors.now (omega arith));
    }

use native.Mathlib.Omega.{arith}
use mathlib.Core.Path.{refl, ◌∙◌, ap}
use mathlib.Core.List.{List, map}
use Rattle.std.proofs.lemmas.List.{take_all}
use Rattle.paper.specs.Seen.{newest}
use Rattle.paper.specs.Lists.{join}
use Rattle.merge.proofs.Weights.{all_get_d}
use Rattle.merge.specs.Cursors.{nowhere, lawful, left}
use Rattle.merge.specs.declared.heap.Cursor.{Cursor}
use Rattle.lsm.proofs.NewestLaws.{newest-next, next-in}
use Rattle.lsm.proofs.get.newest_of.Goals as goal

pub loop-c-init : goal.loop-c-init
unfolding newest join
loop-c-init c = record { is = refl; inside = tt }

pub newest_in-requires : goal.newest_in-requires
newest_in-requires c = all_get_d (lawful c.args.s.now) c.args.cursors.now c.loop-c.c-index nowhere (omega arith) c.requires

pub loop-c-preserved : goal.loop-c-preserved
loop-c-preserved c =
    let i = c.loop-c.invariant in
    record {
      is = newest-next c.args.s.now c.args.key.now c.args.read c.args.cursors.now c.loop-c.c-index (omega arith) c.loop-c.best c.newest_in.result c.newer-best.result c.newer-best.ensures i.is c.newest_in.ensures.0;
      inside = next-in c.args.s.now c.args.key.now c.args.read c.args.cursors.now c.loop-c.c-index (omega arith) c.loop-c.best c.newest_in.result c.newer-best.result c.newer-best.ensures i.inside c.newest_in.ensures.1;
    }

pub returns : goal.returns
returns c = (
  c.loop-c.invariant.is ∙ ap (λ (cs : List Cursor). newest c.args.key.now c.args.read (join (map (left c.args.s.now) cs))) (take_all c.loop-c.c-index c.args.cursors.now (omega arith)),
  c.loop-c.invariant.inside,
)

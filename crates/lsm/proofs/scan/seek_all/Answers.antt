use native.Mathlib.Omega.{arith}
use mathlib.Core.Path.{refl, ap, ◌∙◌, subst}
use lib.ListN.{get_or}
use lib.Seq.{get_or-set_other}
use Rattle.paper.specs.Lists.{all}
use Rattle.merge.specs.Cursors.{nowhere, lawful}
use Rattle.merge.specs.declared.heap.Cursor.{Cursor}
use Rattle.merge.proofs.Weights.{all_get_d}
use Rattle.lsm.specs.Edges.{bound_of}
use Rattle.lsm.specs.Seeking.{Sought}
use Rattle.lsm.proofs.SeekLaws.{sought-more}
use Rattle.lsm.proofs.scan.seek_all.Goals as goal

pub loop-c-init : goal.loop-c-init
unfolding all
loop-c-init c = record { sought = record { lawfully = refl; runs = refl; kept = refl }; others = λ k h. refl }

pub seek_low-requires : goal.seek_low-requires
seek_low-requires c =
    ap (lawful c.args.s.now) (c.loop-c.invariant.others c.loop-c.c-index (omega arith)) ∙ all_get_d (lawful c.args.s.now) c.args.cursors.now c.loop-c.c-index nowhere (omega arith) c.requires

pub loop-c-preserved : goal.loop-c-preserved
loop-c-preserved c =
    let i = c.loop-c.c-index in
    let w : Sought c.args.s.now (bound_of c.args.low) (get_or c.args.cursors.now i nowhere) c.seek_low.result =
    subst (λ (x : Cursor). Sought c.args.s.now (bound_of c.args.low) x c.seek_low.result) (c.loop-c.invariant.others i (omega arith)) c.seek_low.ensures in
    record {
      sought = sought-more c.args.s.now (bound_of c.args.low) c.args.cursors.now c.loop-c.cursors i c.seek_low.result (omega arith) (omega arith) c.loop-c.invariant.sought w;
      others = λ k h. get_or-set_other c.loop-c.cursors i k c.seek_low.result nowhere (omega arith) ∙ c.loop-c.invariant.others k (omega arith);
    }

use Rattle.std.proofs.Common.{◌/◌, length, ap, ◌∙◌, arith}
use Rattle.std.proofs.lemmas.Grind.{common_steps}
use Rattle.paper.specs.Lists.{rises}
use Rattle.txn.proofs.Changing.{fits_verdict}
use Rattle.txn.proofs.Laying.{set-rising, set-counted}
use Prim.Native.Nat.{compare}
use Rattle.txn.proofs.set_fits.Goals as goal

pub among-requires : goal.among-requires
among-requires c = ap (rises compare) c.set-set.ensures.0 ∙ set-rising c.args.place.now c.args.at c.requires.1 _ c.set-set.ensures.1

pub returns-then-set-count : goal.returns-then-set-count
returns-then-set-count c =
    let n = set-counted c.args.place.now c.args.at c.requires.1 _ c.set-set.ensures.1 in
    rw (fits_verdict c.args.count c.args.hash _ c.requires.2 (set-rising c.args.place.now c.args.at c.requires.1 _ c.set-set.ensures.1) c.args.serializable (length c.set-set.result.now / 4) n) (grind (arith, common_steps))

pub returns-else-set-count : goal.returns-else-set-count
returns-else-set-count c =
    let n = set-counted c.args.place.now c.args.at c.requires.1 _ c.set-set.ensures.1 in
    rw (fits_verdict c.args.count c.args.hash _ c.requires.2 (set-rising c.args.place.now c.args.at c.requires.1 _ c.set-set.ensures.1) c.args.serializable (length c.set-set.result.now / 4) n) (grind (arith, common_steps))

-- The newest of the runs passed.
use mathlib.Core.Path.{◌≡◌}
use mathlib.Core.List.{map}
use lib.ListN.{take}
use Rattle.paper.specs.Seen.{newest}
use Rattle.paper.specs.Lists.{join}
use Rattle.merge.specs.Cursors.{left}
use Rattle.lsm.specs.Newest.{best_in, InBest}
use Rattle.lsm.proofs.get.newest_of.Given as goal

abbrev pub invariant-loop-c : goal.invariant-loop-c
invariant-loop-c l = record {
  is : best_in l.s l.best ≡ newest l.key l.read (join (map (left l.s) (take l.c-index l.cursors)));
  inside : InBest l.s l.best;
}

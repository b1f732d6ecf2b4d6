use mathlib.Core.Path.{ap, ◌∙◌}
use Rattle.paper.specs.Lists.{all}
use Rattle.merge.specs.Cursors.{live}
use Rattle.merge.proofs.Building.{all_live, built}
use Rattle.merge.proofs.heap.Heap.of.Goals as goal

pub order-requires : goal.order-requires
order-requires c = ap (all (live c.args.s.now)) c.gather-heap.ensures.kept ∙ all_live c.args.s.now _ c.requires.1

pub returns : goal.returns
returns c = built c.args.s.now c.args.cursors.now _ _ c.requires.0 c.requires.1 c.requires.2 c.gather-heap.ensures c.order.ensures

-- Both cursors are live, being among those of the heap.
use Rattle.merge.proofs.Weights.{all-at}
use Rattle.merge.specs.Cursors.{nowhere, live}
use native.Mathlib.Omega.{arith}
use Rattle.merge.proofs.heap.Heap.is_before_at.Goals as goal

pub is_before-requires : goal.is_before-requires
is_before-requires c =
    let h = c.args.self.now in
    (all-at (live c.args.s.now) h.cursors h.len c.args.i nowhere (omega arith) (omega arith) c.requires.2, all-at (live c.args.s.now) h.cursors h.len c.args.j nowhere (omega arith) (omega arith) c.requires.2)

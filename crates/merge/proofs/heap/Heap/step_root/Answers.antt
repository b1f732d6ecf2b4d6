use Rattle.merge.proofs.HeapSteps.{settled}
use Rattle.merge.proofs.heap.Heap.step_root.Goals as goal

pub returns : goal.returns
returns c = settled c.args.s.now _ _ _ c.advance.ensures c.sift_down.ensures.0 c.sift_down.ensures.1

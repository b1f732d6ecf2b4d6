use Rattle.merge.proofs.HeapSteps.{root_live}
use Rattle.merge.proofs.CursorLaws.{live-record}
use native.Mathlib.Omega.{arith}
use Rattle.merge.proofs.heap.Heap.has_least.Goals as goal

pub compare_versions-requires : goal.compare_versions-requires
compare_versions-requires c = (live-record _ _ (root_live c.args.s.now c.args.self.now c.requires.0 (omega arith)), c.requires.1)

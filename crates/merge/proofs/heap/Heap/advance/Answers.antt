use Rattle.merge.proofs.HeapSteps.{root_live, stays, leaves}
use Rattle.merge.proofs.Weights.{weight-first, weight-last}
use Rattle.merge.proofs.CursorLaws.{live-record, onward}
use Rattle.merge.proofs.HeapLaws.{replaced}
use Rattle.merge.specs.Cursors.{bef, nowhere}
use Prim.Native.Nat.{◌-◌}
use lib.ListN.{get_or, length-set}
use native.Mathlib.Omega.{arith}
use Rattle.merge.proofs.heap.Heap.advance.Goals as goal

pub version_at-p-requires : goal.version_at-p-requires
version_at-p-requires c = live-record _ _ (root_live c.args.s.now c.args.self.now c.requires.0 c.requires.1)

pub returns-then-p-c : goal.returns-then-p-c
returns-then-p-c c =
    let h = c.args.self.now in
    let x = onward (get_or h.cursors 0 nowhere) c.version_at-p.result in
    stays c.args.s.now h c.requires.0 c.requires.1 c.version_at-p.result c.version_at-p.ensures _ c.requires.0.few (rw length-set c.requires.0.long)
    (replaced (bef c.args.s.now) nowhere h.cursors h.len h.len x (omega arith) c.requires.0.heap) c.if-p-c.true
    (λ f. weight-first f h.cursors h.len x nowhere c.requires.1 c.requires.0.long)

pub returns-else-p-c : goal.returns-else-p-c
returns-else-p-c c =
    let h = c.args.self.now in
    let x = get_or h.cursors (h.len - 1) nowhere in
    leaves c.args.s.now h c.requires.0 c.requires.1 c.version_at-p.result c.version_at-p.ensures _ (omega (arith, c.requires.0.few)) (rw length-set (omega (arith, c.requires.0.long)))
    (replaced (bef c.args.s.now) nowhere h.cursors h.len (h.len - 1) x (omega arith) c.requires.0.heap) c.if-p-c.false
    (λ f. weight-last f h.cursors h.len nowhere c.requires.1 c.requires.0.long)

use Rattle.merge.proofs.Weights.{all-bag}
use Rattle.merge.proofs.HeapLaws.{bag-refl, bag-trans}
use Rattle.merge.proofs.HeapSteps.{sifted}
use Rattle.merge.specs.Shape.{HeapFrom}
use Rattle.merge.specs.Cursors.{bef, nowhere, live}
use Prim.Native.Nat.{ℕ}
use mathlib.Core.Path.{◌≡◌, refl, ◌∙◌, subst}
use native.Mathlib.Omega.{arith}
use Rattle.merge.proofs.heap.Heap.order.Goals as goal

pub loop-at-init : goal.loop-at-init
loop-at-init c = record { same = refl; living = c.requires; heap = record { ordered = λ j p b f. absurd (omega arith) }; bag = bag-refl }

pub loop-at-preserved : goal.loop-at-preserved
loop-at-preserved c =
    let i = c.loop-at.invariant in
    let w = c.sift_down.ensures in
    let r = sifted c.args.s.now c.loop-at.self c.sift_down.new.self c.loop-at.at (omega arith) w.0 w.1 i.heap in
    record { same = w.0 ∙ i.same; living = all-bag (live c.args.s.now) r.1 i.living; heap = r.0; bag = bag-trans i.bag r.1 }

pub returns : goal.returns
returns c =
    let e : c.loop-at.at ≡ 0 = omega arith in
    record { same = c.loop-at.invariant.same; heap = subst (λ (i : ℕ). HeapFrom (bef c.args.s.now) nowhere c.loop-at.self.cursors c.loop-at.self.len i) e c.loop-at.invariant.heap; bag = c.loop-at.invariant.bag }

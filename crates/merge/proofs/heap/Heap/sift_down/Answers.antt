-- One level further down: the cursors are those with two of them swapped.
use Rattle.std.proofs.lemmas.List.Edits.{swap_is}
use Rattle.merge.proofs.Weights.{all-bag}
use Rattle.merge.proofs.HeapLaws.{sw, step, bag, bag-trans}
use Rattle.merge.specs.Cursors.{bef, nowhere, live}
use Rattle.merge.specs.Shape.{HeapBut}
use Rattle.merge.specs.Bag.{SameBag}
use Rattle.merge.specs.declared.heap.Cursor.{Cursor}
use mathlib.Core.List.{List}
use lib.ListN.{take}
use native.Mathlib.Omega.{arith}
use mathlib.Core.Path.{◌≡◌, ◌∙◌, sym, subst}
use Rattle.merge.proofs.heap.Heap.sift_down.Goals as goal

pub loop-place-preserved : goal.loop-place-preserved
loop-place-preserved c =
    let h = c.loop-place.self in
    let i = c.loop-place.invariant in
    let p = c.loop-place.place in
    let r = c.sink_to-next.result in
    let n = c.args.self.now.len in
    let e : n ≡ h.len = omega arith in
    let ne = c.if-next-place.false in
    let k = c.sink_to-next.ensures.child ne in
    let w : sw nowhere h.cursors p r ≡ c.swap.new.self = swap_is h.cursors p r nowhere (omega arith) (omega arith) ∙ sym c.swap.ensures.after in
    let b : SameBag (take h.len h.cursors) (take h.len c.swap.new.self) =
    subst (λ (l : List Cursor). SameBag (take h.len h.cursors) (take h.len l)) w (bag nowhere h.cursors h.len p r ne (omega arith) k.below (omega arith)) in
    record {
      within = omega (arith, k.below);
      same = i.same;
      living = all-bag (live c.args.s.now) b i.living;
      but = λ k hb. subst (λ (l : List Cursor). HeapBut (bef c.args.s.now) nowhere l n k r) w
          (rw e (step (bef c.args.s.now) nowhere h.cursors h.len k p r (rw e at (i.but k hb)) c.sink_to-next.ensures ne (omega arith)));
      bag = bag-trans i.bag (rw e b);
    }

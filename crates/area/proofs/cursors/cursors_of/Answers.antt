use Rattle.area.proofs.FreezeLaws.{there, run_inside, area-inside, area-reads, area-counts, counted-all, counted-few}
use Rattle.area.proofs.Placing.{place-start, place-there, place-next, place-done, spread}
use Rattle.area.proofs.Lying.{lying-read}
use Rattle.layout.specs.Layout.{store_in}
use Rattle.raw.proofs.Octets.{octets-of}
use Rattle.paper.specs.Store.{frozen_of}
use native.Mathlib.Omega.{arith}
use lib.ListN.{length-reverse}
use mathlib.Core.Path.{refl, sym, ◌∙◌}
use Prim.Native.Nat.{◌+◌}
use Rattle.area.proofs.cursors.cursors_of.Goals as goal

pub number-requires : goal.number-requires
number-requires c =
    let t = there c.args.state.now (octets-of c.args.state.now (λ i. omega (arith, c.type_inv.state i))) c.args.active c.args.area c.requires in
    omega (arith, t.before, t.ends)

pub overflow_add-stop : goal.overflow_add-stop
overflow_add-stop c =
    let t = there c.args.state.now (octets-of c.args.state.now (λ i. omega (arith, c.type_inv.state i))) c.args.active c.args.area c.requires in
    omega (arith, t.ends, run_inside c.args.state.now (octets-of c.args.state.now (λ i. omega (arith, c.type_inv.state i))) c.args.active c.args.area c.requires c.number.result c.number.ensures.value)

pub overflow_add-at : goal.overflow_add-at
overflow_add-at c =
    let t = there c.args.state.now (octets-of c.args.state.now (λ i. omega (arith, c.type_inv.state i))) c.args.active c.args.area c.requires in
    omega (arith, t.ends)

pub number-requires-2 : goal.number-requires-2
number-requires-2 c =
    let t = there c.args.state.now (octets-of c.args.state.now (λ i. omega (arith, c.type_inv.state i))) c.args.active c.args.area c.requires in
    omega (arith, t.ends)

pub overflow_add-end : goal.overflow_add-end
overflow_add-end c =
    omega (arith, area-inside c.args.state.now (octets-of c.args.state.now (λ i. omega (arith, c.type_inv.state i))) c.args.active c.args.area c.requires c.number.result c.number.ensures.value c.number-2.result c.number-2.ensures.value)

pub slice_bounds-count_images-end : goal.slice_bounds-count_images-end
slice_bounds-count_images-end c =
    omega (arith, area-inside c.args.state.now (octets-of c.args.state.now (λ i. omega (arith, c.type_inv.state i))) c.args.active c.args.area c.requires c.number.result c.number.ensures.value c.number-2.result c.number-2.ensures.value)

pub count_images-n-requires : goal.count_images-n-requires
count_images-n-requires c =
    area-counts c.args.state.now (octets-of c.args.state.now (λ i. omega (arith, c.type_inv.state i))) c.args.active c.args.area c.requires c.number.result c.number.ensures.value c.number-2.result c.number-2.ensures.value

pub loop-passed-init : goal.loop-passed-init
loop-passed-init c =
    place-start c.args.state.now (octets-of c.args.state.now (λ i. omega (arith, c.type_inv.state i))) (frozen_of (store_in c.args.state.now)) (record { at = c.args.active + 8; end = c.args.active + 8 + c.number.result; run = 0 }) c.count_images-n.result (counted-few c.args.state.now (octets-of c.args.state.now (λ i. omega (arith, c.type_inv.state i))) c.args.active c.args.area c.requires c.number.result c.number.ensures.value c.number-2.result c.number-2.ensures.value c.count_images-n.result c.count_images-n.ensures) (c.args.area + 8) (c.args.area + 8 + c.number-2.result) _
    (lying-read c.args.state.now (c.args.area + 8) (c.args.area + 8 + c.number-2.result) (octets-of c.args.state.now (λ i. omega (arith, c.type_inv.state i))) (omega arith) (area-inside c.args.state.now (octets-of c.args.state.now (λ i. omega (arith, c.type_inv.state i))) c.args.active c.args.area c.requires c.number.result c.number.ensures.value c.number-2.result c.number-2.ensures.value) (frozen_of (store_in c.args.state.now)) (area-reads c.args.state.now (octets-of c.args.state.now (λ i. omega (arith, c.type_inv.state i))) c.args.active c.args.area c.requires c.number.result c.number.ensures.value c.number-2.result c.number-2.ensures.value))
    (length-reverse (frozen_of (store_in c.args.state.now)) ∙ sym (counted-all c.args.state.now (octets-of c.args.state.now (λ i. omega (arith, c.type_inv.state i))) c.args.active c.args.area c.requires c.number.result c.number.ensures.value c.number-2.result c.number-2.ensures.value c.count_images-n.result c.count_images-n.ensures)) refl refl

pub number-requires-in-loop-passed : goal.number-requires-in-loop-passed
number-requires-in-loop-passed c =
    omega (arith, place-there c.args.state.now (octets-of c.args.state.now (λ i. omega (arith, c.type_inv.state i))) (frozen_of (store_in c.args.state.now)) _ c.count_images-n.result (counted-few c.args.state.now (octets-of c.args.state.now (λ i. omega (arith, c.type_inv.state i))) c.args.active c.args.area c.requires c.number.result c.number.ensures.value c.number-2.result c.number-2.ensures.value c.count_images-n.result c.count_images-n.ensures) c.loop-passed.at c.loop-passed.cursors c.loop-passed.passed c.loop-passed.invariant c.loop-passed-test.true)

pub overflow_add-next : goal.overflow_add-next
overflow_add-next c =
    let placed = place-next c.args.state.now (octets-of c.args.state.now (λ i. omega (arith, c.type_inv.state i))) (frozen_of (store_in c.args.state.now)) _ c.count_images-n.result (counted-few c.args.state.now (octets-of c.args.state.now (λ i. omega (arith, c.type_inv.state i))) c.args.active c.args.area c.requires c.number.result c.number.ensures.value c.number-2.result c.number-2.ensures.value c.count_images-n.result c.count_images-n.ensures) c.loop-passed.at c.loop-passed.cursors c.loop-passed.passed c.loop-passed.invariant c.loop-passed-test.true c.number-in-loop-passed.result c.number-in-loop-passed.ensures.value in
    omega (arith, placed.inside)

pub offset_bounds-cursors-rank : goal.offset_bounds-cursors-rank
offset_bounds-cursors-rank c =
    omega (arith, counted-few c.args.state.now (octets-of c.args.state.now (λ i. omega (arith, c.type_inv.state i))) c.args.active c.args.area c.requires c.number.result c.number.ensures.value c.number-2.result c.number-2.ensures.value c.count_images-n.result c.count_images-n.ensures)

pub bounds-cursors-rank : goal.bounds-cursors-rank
bounds-cursors-rank c =
    omega (arith, counted-few c.args.state.now (octets-of c.args.state.now (λ i. omega (arith, c.type_inv.state i))) c.args.active c.args.area c.requires c.number.result c.number.ensures.value c.number-2.result c.number-2.ensures.value c.count_images-n.result c.count_images-n.ensures)

pub loop-passed-preserved : goal.loop-passed-preserved
loop-passed-preserved c =
    let placed = place-next c.args.state.now (octets-of c.args.state.now (λ i. omega (arith, c.type_inv.state i))) (frozen_of (store_in c.args.state.now)) _ c.count_images-n.result (counted-few c.args.state.now (octets-of c.args.state.now (λ i. omega (arith, c.type_inv.state i))) c.args.active c.args.area c.requires c.number.result c.number.ensures.value c.number-2.result c.number-2.ensures.value c.count_images-n.result c.count_images-n.ensures) c.loop-passed.at c.loop-passed.cursors c.loop-passed.passed c.loop-passed.invariant c.loop-passed-test.true c.number-in-loop-passed.result c.number-in-loop-passed.ensures.value in
    placed.next

pub overflow_add-result : goal.overflow_add-result
overflow_add-result c =
    omega (arith, counted-few c.args.state.now (octets-of c.args.state.now (λ i. omega (arith, c.type_inv.state i))) c.args.active c.args.area c.requires c.number.result c.number.ensures.value c.number-2.result c.number-2.ensures.value c.count_images-n.result c.count_images-n.ensures)

pub returns : goal.returns
returns c =
    spread c.args.state.now c.args.active c.args.area (there c.args.state.now (octets-of c.args.state.now (λ i. omega (arith, c.type_inv.state i))) c.args.active c.args.area c.requires) c.number.result c.number.ensures.value c.count_images-n.result c.loop-passed.cursors (counted-few c.args.state.now (octets-of c.args.state.now (λ i. omega (arith, c.type_inv.state i))) c.args.active c.args.area c.requires c.number.result c.number.ensures.value c.number-2.result c.number-2.ensures.value c.count_images-n.result c.count_images-n.ensures) c.loop-passed.invariant.front (place-done c.args.state.now (octets-of c.args.state.now (λ i. omega (arith, c.type_inv.state i))) (frozen_of (store_in c.args.state.now)) _ c.count_images-n.result (counted-few c.args.state.now (octets-of c.args.state.now (λ i. omega (arith, c.type_inv.state i))) c.args.active c.args.area c.requires c.number.result c.number.ensures.value c.number-2.result c.number-2.ensures.value c.count_images-n.result c.count_images-n.ensures) c.loop-passed.at c.loop-passed.cursors c.loop-passed.passed c.loop-passed.invariant c.loop-passed-test.false)

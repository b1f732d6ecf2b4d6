use Rattle.area.proofs.FreezeLaws.{there, run_inside, area-inside, area-counts, counted-all, counted-inside, fit-seventeen, fit-room}
use Rattle.raw.proofs.Octets.{octets-of}
use native.Mathlib.Omega.{arith}
use Rattle.area.proofs.freezing.freeze_fits.Goals as goal

pub number-used-requires : goal.number-used-requires
number-used-requires c =
    let t = there c.args.state.now (octets-of c.args.state.now (λ i. omega (arith, c.type_inv.state i))) c.args.active c.args.area c.requires.0 in
    omega (arith, t.before, t.ends)

pub overflow_add-from : goal.overflow_add-from
overflow_add-from c =
    let t = there c.args.state.now (octets-of c.args.state.now (λ i. omega (arith, c.type_inv.state i))) c.args.active c.args.area c.requires.0 in
    omega (arith, t.ends)

pub number-requires : goal.number-requires
number-requires c =
    let t = there c.args.state.now (octets-of c.args.state.now (λ i. omega (arith, c.type_inv.state i))) c.args.active c.args.area c.requires.0 in
    omega (arith, t.ends)

pub overflow_add-end : goal.overflow_add-end
overflow_add-end c =
    omega (arith, area-inside c.args.state.now (octets-of c.args.state.now (λ i. omega (arith, c.type_inv.state i))) c.args.active c.args.area c.requires.0 c.number-used.result c.number-used.ensures.value c.number.result c.number.ensures.value)

pub slice_bounds-count_images-end : goal.slice_bounds-count_images-end
slice_bounds-count_images-end c =
    omega (arith, area-inside c.args.state.now (octets-of c.args.state.now (λ i. omega (arith, c.type_inv.state i))) c.args.active c.args.area c.requires.0 c.number-used.result c.number-used.ensures.value c.number.result c.number.ensures.value)

pub count_images-count-requires : goal.count_images-count-requires
count_images-count-requires c =
    area-counts c.args.state.now (octets-of c.args.state.now (λ i. omega (arith, c.type_inv.state i))) c.args.active c.args.area c.requires.0 c.number-used.result c.number-used.ensures.value c.number.result c.number.ensures.value

pub overflow_sub-result-then-count-lt16 : goal.overflow_sub-result-then-count-lt16
overflow_sub-result-then-count-lt16 c =
    omega (arith, counted-inside c.args.state.now (octets-of c.args.state.now (λ i. omega (arith, c.type_inv.state i))) c.args.active c.args.area c.requires.0 c.number-used.result c.number-used.ensures.value c.number.result c.number.ensures.value c.count_images-count.result (counted-all c.args.state.now (octets-of c.args.state.now (λ i. omega (arith, c.type_inv.state i))) c.args.active c.args.area c.requires.0 c.number-used.result c.number-used.ensures.value c.number.result c.number.ensures.value c.count_images-count.result c.count_images-count.ensures))

pub overflow_add-result-then-count-lt16 : goal.overflow_add-result-then-count-lt16
overflow_add-result-then-count-lt16 c =
    omega (arith, area-inside c.args.state.now (octets-of c.args.state.now (λ i. omega (arith, c.type_inv.state i))) c.args.active c.args.area c.requires.0 c.number-used.result c.number-used.ensures.value c.number.result c.number.ensures.value, run_inside c.args.state.now (octets-of c.args.state.now (λ i. omega (arith, c.type_inv.state i))) c.args.active c.args.area c.requires.0 c.number-used.result c.number-used.ensures.value)

pub overflow_add-result : goal.overflow_add-result
overflow_add-result c =
    let t = there c.args.state.now (octets-of c.args.state.now (λ i. omega (arith, c.type_inv.state i))) c.args.active c.args.area c.requires.0 in
    omega (arith, t.ends, run_inside c.args.state.now (octets-of c.args.state.now (λ i. omega (arith, c.type_inv.state i))) c.args.active c.args.area c.requires.0 c.number-used.result c.number-used.ensures.value)

pub returns-then-count-lt16 : goal.returns-then-count-lt16
returns-then-count-lt16 c =
    fit-room c.args.state.now (octets-of c.args.state.now (λ i. omega (arith, c.type_inv.state i))) c.args.active c.args.area c.requires.0 c.number-used.result c.number-used.ensures.value c.number.result c.number.ensures.value c.count_images-count.result (counted-all c.args.state.now (octets-of c.args.state.now (λ i. omega (arith, c.type_inv.state i))) c.args.active c.args.area c.requires.0 c.number-used.result c.number-used.ensures.value c.number.result c.number.ensures.value c.count_images-count.result c.count_images-count.ensures) c.if-count-lt16.true c.args.room c.requires.1

pub returns-else-count-lt16 : goal.returns-else-count-lt16
returns-else-count-lt16 c =
    fit-seventeen c.args.state.now (octets-of c.args.state.now (λ i. omega (arith, c.type_inv.state i))) c.args.active c.args.area c.requires.0 c.number-used.result c.number-used.ensures.value c.number.result c.number.ensures.value c.count_images-count.result (counted-all c.args.state.now (octets-of c.args.state.now (λ i. omega (arith, c.type_inv.state i))) c.args.active c.args.area c.requires.0 c.number-used.result c.number-used.ensures.value c.number.result c.number.ensures.value c.count_images-count.result c.count_images-count.ensures) c.if-count-lt16.false

use Rattle.area.proofs.FreezeLaws.{there, run-packed, run_inside, image-inside, frozen-written}
use Rattle.raw.proofs.Octets.{octets-of}
use native.Mathlib.Omega.{arith}
use borrow.Author.Rules.{rules}
use Rattle.area.proofs.freezing.freeze.Goals as goal

pub overflow_add-from : goal.overflow_add-from
overflow_add-from c =
    let t = there c.args.state.now (octets-of c.args.state.now (λ i. omega (arith, c.slice_known-1.given i))) c.args.active c.args.area c.requires.0 in
    omega (arith, t.before, t.ends)

pub number-used-requires : goal.number-used-requires
number-used-requires c =
    let t = there c.args.state.now (octets-of c.args.state.now (λ i. omega (arith, c.slice_known-1.given i))) c.args.active c.args.area c.requires.0 in
    omega (arith, t.before, t.ends)

pub number-filled-requires : goal.number-filled-requires
number-filled-requires c =
    let t = there c.args.state.now (octets-of c.args.state.now (λ i. omega (arith, c.slice_known-1.given i))) c.args.active c.args.area c.requires.0 in
    omega (arith, t.ends)

pub overflow_add-to : goal.overflow_add-to
overflow_add-to c =
    omega (arith, image-inside c.args.state.now (octets-of c.args.state.now (λ i. omega (arith, c.slice_known-1.given i))) c.args.active c.args.area c.requires.0 c.number-used.result c.number-used.ensures.value c.number-filled.result c.number-filled.ensures.value c.requires.1)

pub overflow_add-to-2 : goal.overflow_add-to-2
overflow_add-to-2 c =
    omega (arith, image-inside c.args.state.now (octets-of c.args.state.now (λ i. omega (arith, c.slice_known-1.given i))) c.args.active c.args.area c.requires.0 c.number-used.result c.number-used.ensures.value c.number-filled.result c.number-filled.ensures.value c.requires.1)

pub overflow_add-to-3 : goal.overflow_add-to-3
overflow_add-to-3 c =
    omega (arith, image-inside c.args.state.now (octets-of c.args.state.now (λ i. omega (arith, c.slice_known-1.given i))) c.args.active c.args.area c.requires.0 c.number-used.result c.number-used.ensures.value c.number-filled.result c.number-filled.ensures.value c.requires.1)

pub overflow_add-from-2 : goal.overflow_add-from-2
overflow_add-from-2 c =
    let z = image-inside c.args.state.now (octets-of c.args.state.now (λ i. omega (arith, c.slice_known-1.given i))) c.args.active c.args.area c.requires.0 c.number-used.result c.number-used.ensures.value c.number-filled.result c.number-filled.ensures.value c.requires.1 in
    omega (arith, z, run_inside c.args.state.now (octets-of c.args.state.now (λ i. omega (arith, c.slice_known-1.given i))) c.args.active c.args.area c.requires.0 c.number-used.result c.number-used.ensures.value)

pub freeze_into-requires : goal.freeze_into-requires
freeze_into-requires c =
    let z = image-inside c.args.state.now (octets-of c.args.state.now (λ i. omega (arith, c.slice_known-1.given i))) c.args.active c.args.area c.requires.0 c.number-used.result c.number-used.ensures.value c.number-filled.result c.number-filled.ensures.value c.requires.1 in
    let y = run_inside c.args.state.now (octets-of c.args.state.now (λ i. omega (arith, c.slice_known-1.given i))) c.args.active c.args.area c.requires.0 c.number-used.result c.number-used.ensures.value in (omega arith, omega (arith, z, y), omega (arith, z), run-packed c.args.state.now (octets-of c.args.state.now (λ i. omega (arith, c.slice_known-1.given i))) c.args.active c.args.area c.requires.0 c.number-used.result c.number-used.ensures.value)

pub overflow_add-used : goal.overflow_add-used
overflow_add-used c =
    omega (arith, image-inside c.args.state.now (octets-of c.args.state.now (λ i. omega (arith, c.slice_known-1.given i))) c.args.active c.args.area c.requires.0 c.number-used.result c.number-used.ensures.value c.number-filled.result c.number-filled.ensures.value c.requires.1)

pub put_number-requires : goal.put_number-requires
put_number-requires c =
    let z = image-inside c.args.state.now (octets-of c.args.state.now (λ i. omega (arith, c.slice_known-1.given i))) c.args.active c.args.area c.requires.0 c.number-used.result c.number-used.ensures.value c.number-filled.result c.number-filled.ensures.value c.requires.1 in
    search rules

pub overflow_add-filled : goal.overflow_add-filled
overflow_add-filled c =
    omega (arith, image-inside c.args.state.now (octets-of c.args.state.now (λ i. omega (arith, c.slice_known-1.given i))) c.args.active c.args.area c.requires.0 c.number-used.result c.number-used.ensures.value c.number-filled.result c.number-filled.ensures.value c.requires.1)

pub overflow_add-filled-2 : goal.overflow_add-filled-2
overflow_add-filled-2 c =
    omega (arith, image-inside c.args.state.now (octets-of c.args.state.now (λ i. omega (arith, c.slice_known-1.given i))) c.args.active c.args.area c.requires.0 c.number-used.result c.number-used.ensures.value c.number-filled.result c.number-filled.ensures.value c.requires.1)

pub put_number-requires-2 : goal.put_number-requires-2
put_number-requires-2 c =
    let z = image-inside c.args.state.now (octets-of c.args.state.now (λ i. omega (arith, c.slice_known-1.given i))) c.args.active c.args.area c.requires.0 c.number-used.result c.number-used.ensures.value c.number-filled.result c.number-filled.ensures.value c.requires.1 in
    search rules

pub put_number-requires-3 : goal.put_number-requires-3
put_number-requires-3 c =
    let t = there c.args.state.now (octets-of c.args.state.now (λ i. omega (arith, c.slice_known-1.given i))) c.args.active c.args.area c.requires.0 in
    let x = t.before in let y = t.ends in search rules

pub returns : goal.returns
returns c =
    frozen-written c.args.state.now (octets-of c.args.state.now (λ i. omega (arith, c.slice_known-1.given i))) c.args.active c.args.area c.requires.0 c.number-used.result c.number-used.ensures.value c.number-filled.result c.number-filled.ensures.value c.requires.1 _ _ _ _ c.freeze_into.ensures c.put_number.ensures c.put_number-2.ensures c.put_number-3.ensures

use native.Mathlib.Omega.{arith}
use mathlib.Core.Path.{◌≡◌, sym, ap, ◌∙◌}
use lib.Seq.{take-length}
use Rattle.layout.specs.Codec.{sized, plain}
use Rattle.raw.proofs.Octets.{octets-of}
use Rattle.area.proofs.PutLaws.{putting-start, putting-done, putting-turn}
use Rattle.area.proofs.opening.put_images.Goals as goal

pub loop-n-init : goal.loop-n-init
loop-n-init c =
    let e : c.into_iter-n-iterator.result.iter.rest.now ≡ c.args.lengths.now = ap (λ r. r.iter.rest.now) c.into_iter-n-iterator.ensures.into_iter_gives ∙ ap (λ i. i.rest.now) c.rev-n-items.ensures.source ∙ c.iter.ensures.rest in
    let so = putting-start c.args.images.now c.args.lengths.now (octets-of c.args.images.now (λ i. omega (arith, c.type_inv.images i))) c.requires.0 c.args.state.now c.args.at c.requires.1 c.images_total-end.result c.images_total-end.ensures.sum c.put_number.new.s c.put_number.ensures in
    record { rest = rw e (sym (take-length c.args.lengths.now)); so = rw e so }

pub overflow_sub-from : goal.overflow_sub-from
overflow_sub-from c =
    let turn = putting-turn c.args.images.now c.args.lengths.now (octets-of c.args.images.now (λ i. omega (arith, c.type_inv.images i))) c.requires.0 c.args.state.now c.args.at c.requires.1 c.images_total-end.result c.images_total-end.ensures.sum c.put_number.new.s c.put_number.ensures c.loop-n.state c.loop-n.end c.loop-n.to c.loop-n.n-iterator.iter.rest.now c.loop-n.invariant.rest c.loop-n.invariant.so c.next.new.self.iter.rest.now c.in-Some.n.now c.in-Some.ensures.steps in
    turn.less

pub slice_bounds-put_sized-end : goal.slice_bounds-put_sized-end
slice_bounds-put_sized-end c =
    let turn = putting-turn c.args.images.now c.args.lengths.now (octets-of c.args.images.now (λ i. omega (arith, c.type_inv.images i))) c.requires.0 c.args.state.now c.args.at c.requires.1 c.images_total-end.result c.images_total-end.ensures.sum c.put_number.new.s c.put_number.ensures c.loop-n.state c.loop-n.end c.loop-n.to c.loop-n.n-iterator.iter.rest.now c.loop-n.invariant.rest c.loop-n.invariant.so c.next.new.self.iter.rest.now c.in-Some.n.now c.in-Some.ensures.steps in
    turn.inside

pub put_sized-requires-clause-there : goal.put_sized-requires-clause-there
put_sized-requires-clause-there c =
    let turn = putting-turn c.args.images.now c.args.lengths.now (octets-of c.args.images.now (λ i. omega (arith, c.type_inv.images i))) c.requires.0 c.args.state.now c.args.at c.requires.1 c.images_total-end.result c.images_total-end.ensures.sum c.put_number.new.s c.put_number.ensures c.loop-n.state c.loop-n.end c.loop-n.to c.loop-n.n-iterator.iter.rest.now c.loop-n.invariant.rest c.loop-n.invariant.so c.next.new.self.iter.rest.now c.in-Some.n.now c.in-Some.ensures.steps in
    omega (arith, turn.room, turn.size, turn.less, turn.inside)

pub overflow_add-to-in-loop-n-2 : goal.overflow_add-to-in-loop-n-2
overflow_add-to-in-loop-n-2 c =
    let turn = putting-turn c.args.images.now c.args.lengths.now (octets-of c.args.images.now (λ i. omega (arith, c.type_inv.images i))) c.requires.0 c.args.state.now c.args.at c.requires.1 c.images_total-end.result c.images_total-end.ensures.sum c.put_number.new.s c.put_number.ensures c.loop-n.state c.loop-n.end c.loop-n.to c.loop-n.n-iterator.iter.rest.now c.loop-n.invariant.rest c.loop-n.invariant.so c.next.new.self.iter.rest.now c.in-Some.n.now c.in-Some.ensures.steps in
    omega (arith, turn.room, turn.size)

pub loop-n-preserved : goal.loop-n-preserved
unfolding sized plain
loop-n-preserved c =
    let turn = putting-turn c.args.images.now c.args.lengths.now (octets-of c.args.images.now (λ i. omega (arith, c.type_inv.images i))) c.requires.0 c.args.state.now c.args.at c.requires.1 c.images_total-end.result c.images_total-end.ensures.sum c.put_number.new.s c.put_number.ensures c.loop-n.state c.loop-n.end c.loop-n.to c.loop-n.n-iterator.iter.rest.now c.loop-n.invariant.rest c.loop-n.invariant.so c.next.new.self.iter.rest.now c.in-Some.n.now c.in-Some.ensures.steps in
    record { rest = turn.front; so = turn.next c.put_sized.new.s c.put_sized.ensures }

pub returns : goal.returns
returns c =
    putting-done c.args.images.now c.args.lengths.now (octets-of c.args.images.now (λ i. omega (arith, c.type_inv.images i))) c.requires.0 c.args.state.now c.args.at c.requires.1 c.images_total-end.result c.images_total-end.ensures.sum c.put_number.new.s c.put_number.ensures c.loop-n.state c.loop-n.end c.loop-n.to c.loop-n.n-iterator.iter.rest.now c.loop-n.invariant.rest c.loop-n.invariant.so c.in-None.ensures.steps.0

use Rattle.std.proofs.Common.{inl, refl, arith}
use Rattle.versions.proofs.Absorbing.{own-rise, own-few, own-grown, absorb-size, absorb-room, absorb-from, absorb-ready, absorb-done}
use Rattle.versions.proofs.absorb.Goals as goal

pub count-requires-clause-fits : goal.count-requires-clause-fits
count-requires-clause-fits c = inl (omega (arith, own-few c.args.own, c.ranges.own))

pub overflow_mul-more : goal.overflow_mul-more
overflow_mul-more c =
    omega (arith, own-grown c.args.own c.count.result c.count.ensures.ran, absorb-room c.args.room.now c.args.used c.requires.0 c.requires.1 c.args.number c.requires.2 _ (own-rise c.args.own) c.requires.3)

pub overflow_add-more : goal.overflow_add-more
overflow_add-more c =
    omega (arith, own-grown c.args.own c.count.result c.count.ensures.ran, absorb-room c.args.room.now c.args.used c.requires.0 c.requires.1 c.args.number c.requires.2 _ (own-rise c.args.own) c.requires.3)

pub overflow_add-end : goal.overflow_add-end
overflow_add-end c =
    omega (arith, own-grown c.args.own c.count.result c.count.ensures.ran, absorb-room c.args.room.now c.args.used c.requires.0 c.requires.1 c.args.number c.requires.2 _ (own-rise c.args.own) c.requires.3)

pub overflow_add-from : goal.overflow_add-from
overflow_add-from c =
    omega (arith, own-grown c.args.own c.count.result c.count.ensures.ran, absorb-room c.args.room.now c.args.used c.requires.0 c.requires.1 c.args.number c.requires.2 _ (own-rise c.args.own) c.requires.3, absorb-from c.args.room.now c.args.used c.requires.0 c.requires.1 c.args.number c.requires.2 _ (own-rise c.args.own) c.requires.3 _ (own-grown c.args.own c.count.result c.count.ensures.ran) c.first_place-from.result c.first_place-from.ensures _ refl)

pub shift-requires : goal.shift-requires
shift-requires c =
    omega (arith, own-grown c.args.own c.count.result c.count.ensures.ran, absorb-room c.args.room.now c.args.used c.requires.0 c.requires.1 c.args.number c.requires.2 _ (own-rise c.args.own) c.requires.3, absorb-from c.args.room.now c.args.used c.requires.0 c.requires.1 c.args.number c.requires.2 _ (own-rise c.args.own) c.requires.3 _ (own-grown c.args.own c.count.result c.count.ensures.ran) c.first_place-from.result c.first_place-from.ensures _ refl)

pub slice_bounds-weave-end : goal.slice_bounds-weave-end
slice_bounds-weave-end c =
    omega (arith, own-grown c.args.own c.count.result c.count.ensures.ran, absorb-room c.args.room.now c.args.used c.requires.0 c.requires.1 c.args.number c.requires.2 _ (own-rise c.args.own) c.requires.3, c.shift.auto.s)

pub weave-requires : goal.weave-requires
weave-requires c = absorb-ready c.args.room.now c.args.used c.requires.0 c.requires.1 c.args.number c.requires.2 _ (own-rise c.args.own) c.requires.3 _ (own-grown c.args.own c.count.result c.count.ensures.ran) c.first_place-from.result c.first_place-from.ensures _ c.shift.ensures

pub returns : goal.returns
returns c = (
  omega (arith, own-grown c.args.own c.count.result c.count.ensures.ran, absorb-size c.args.room.now c.args.used c.requires.0 c.requires.1 c.args.number c.requires.2 _ (own-rise c.args.own) c.requires.3),
  absorb-done c.args.room.now c.args.used c.requires.0 c.requires.1 c.args.number c.requires.2 _ (own-rise c.args.own) c.requires.3 _ (own-grown c.args.own c.count.result c.count.ensures.ran) c.first_place-from.result c.first_place-from.ensures _ c.shift.ensures c.weave.new.room _ c.weave.ensures c.weave.auto.room refl,
)

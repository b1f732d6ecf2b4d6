use Rattle.std.proofs.Common.{ap, ◌∙◌, arith}
use Rattle.raw.specs.Bytes.{over}
use Rattle.paper.specs.Keys.{Bytes}
use Rattle.layout.specs.Layout.{pair_stream}
use Rattle.overlay.specs.Overlay.{pair}
use Rattle.overlay.proofs.Putting.{put_inside, put_size, put-is}
use Rattle.overlay.proofs.put.Goals as goal

pub overflow_add-next-2 : goal.overflow_add-next-2
overflow_add-next-2 c =
    let n = put_size c.args.room.now c.args.used c.requires.0 _ c.new.ensures _ c.args.value.now _ _ c.hole-hole.ensures in
    omega (arith, n, c.requires)

pub overflow_add-next-3 : goal.overflow_add-next-3
overflow_add-next-3 c =
    let n = put_size c.args.room.now c.args.used c.requires.0 _ c.new.ensures _ c.args.value.now _ _ c.hole-hole.ensures in
    omega (arith, n, c.requires)

pub overflow_add-result : goal.overflow_add-result
overflow_add-result c =
    let n = put_size c.args.room.now c.args.used c.requires.0 _ c.new.ensures _ c.args.value.now _ _ c.hole-hole.ensures in
    omega (arith, n, c.requires)

pub shift-requires : goal.shift-requires
shift-requires c =
    let i = put_inside c.args.room.now c.args.used c.requires.0 _ c.new.ensures _ c.args.value.now _ _ c.hole-hole.ensures in
    let n = put_size c.args.room.now c.args.used c.requires.0 _ c.new.ensures _ c.args.value.now _ _ c.hole-hole.ensures in
    omega (arith, i, n, c.requires)

pub put_entry-requires : goal.put_entry-requires
put_entry-requires c =
    let n = put_size c.args.room.now c.args.used c.requires.0 _ c.new.ensures _ c.args.value.now _ _ c.hole-hole.ensures in
    omega (arith, n, c.requires)

pub returns : goal.returns
returns c =
    let i = put_inside c.args.room.now c.args.used c.requires.0 _ c.new.ensures _ c.args.value.now _ _ c.hole-hole.ensures in
    let n = put_size c.args.room.now c.args.used c.requires.0 _ c.new.ensures _ c.args.value.now _ _ c.hole-hole.ensures in (
      n,
      c.put_entry.ensures ∙ ap (λ (t : Bytes). over t c.hole-hole.result.start (pair_stream.put (pair c.args.key.now c.args.value.now))) c.shift.ensures
          ∙ put-is c.args.room.now c.args.used c.requires.0 _ c.new.ensures _ c.args.value.now _ _ c.hole-hole.ensures (omega (arith, i, n, c.requires)),
    )

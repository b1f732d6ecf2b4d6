-- The hash goes into the set in the room behind the number, and the number is written anew.
use Rattle.std.proofs.Common.{◌∙◌, arith}
use Rattle.txn.proofs.Adding.{room-enough, room-grown, set-added}
use Rattle.txn.proofs.add_hash.Goals as goal

pub add_hash-count-requires : goal.add_hash-count-requires
add_hash-count-requires c =
    room-enough c.args.place.now c.args.at c.used_at-n.result c.args.hash c.used_at-n.ensures c.requires.0 c.requires.1 c.requires.2

pub overflow_mul-count : goal.overflow_mul-count
overflow_mul-count c =
    omega (arith, c.add_hash-count.ensures.0, room-grown c.args.place.now c.args.at c.used_at-n.result c.args.hash c.used_at-n.ensures c.requires.0 c.requires.1)

pub returns : goal.returns
returns c =
    c.put_number.ensures
    ∙ set-added c.args.place.now c.args.at c.used_at-n.result c.args.hash c.used_at-n.ensures c.requires.0 c.requires.1 c.requires.2 c.add_hash-count.result c.add_hash-count.new.room c.add_hash-count.ensures.0 c.add_hash-count.ensures.1

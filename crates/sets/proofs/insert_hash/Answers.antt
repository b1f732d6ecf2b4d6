-- The hashes from the gap on move up by one, and the hash is written in the gap.
use Rattle.sets.proofs.Inserting.{gap-inside, written_new}
use Rattle.raw.proofs.Octets.{octets-of}
use Rattle.raw.specs.Bytes.{over}
use Rattle.paper.specs.Image.{big_endian}
use Rattle.paper.specs.Keys.{Bytes}
use Rattle.std.proofs.Common.{ap, ◌∙◌, arith}
use Prim.Native.Nat.{◌*◌}
use Rattle.sets.proofs.insert_hash.Goals as goal

pub overflow_mul-place : goal.overflow_mul-place
overflow_mul-place c = let w = gap-inside c.args.room.now c.args.n c.args.i c.args.h c.requires.2 in omega arith

pub overflow_add-place : goal.overflow_add-place
overflow_add-place c = let w = gap-inside c.args.room.now c.args.n c.args.i c.args.h c.requires.2 in omega arith

pub overflow_sub-n : goal.overflow_sub-n
overflow_sub-n c = gap-inside c.args.room.now c.args.n c.args.i c.args.h c.requires.2

pub shift-requires : goal.shift-requires
shift-requires c = let w = gap-inside c.args.room.now c.args.n c.args.i c.args.h c.requires.2 in omega arith

pub put_number-requires : goal.put_number-requires
put_number-requires c = let w = gap-inside c.args.room.now c.args.n c.args.i c.args.h c.requires.2 in omega arith

pub returns : goal.returns
returns c =
    c.put_number.ensures
    ∙ ap (λ (t : Bytes). over t (4 * c.args.i) (big_endian 4 c.args.h)) c.shift.ensures
    ∙ written_new c.args.room.now c.args.n c.args.i c.args.h (octets-of c.args.room.now (λ i. omega (arith, c.slice_known-1.given i))) c.requires.0 c.requires.1 c.requires.2

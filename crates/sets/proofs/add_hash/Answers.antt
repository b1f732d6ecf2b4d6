-- A hash that stands in the set changes nothing, and another one goes into the gap that the search finds.
use Rattle.std.proofs.Common.{ap, sym, ◌∙◌, arith}
use Rattle.paper.specs.Lists.{rises}
use Prim.Native.Nat.{compare}
use Rattle.raw.proofs.Octets.{octets-of}
use Rattle.sets.specs.Sets.{found_in}
use Rattle.sets.proofs.Inserting.{added, written-there}
use Rattle.sets.proofs.Hashes.{set-front}
use Rattle.sets.proofs.add_hash.Goals as goal

pub find_hash-requires : goal.find_hash-requires
find_hash-requires c = ap (rises compare) (set-front c.args.room.now c.args.n c.requires.0) ∙ c.requires.1

pub returns-in-Ok : goal.returns-in-Ok
returns-in-Ok c =
    written-there c.args.room.now c.args.n _ c.args.h (octets-of c.args.room.now (λ i. omega (arith, c.slice_known-1.given i))) c.requires.0 c.requires.1
    (sym c.in-Ok.is ∙ c.find_hash.ensures ∙ ap (found_in c.args.h) (set-front c.args.room.now c.args.n c.requires.0))

pub insert_hash-requires : goal.insert_hash-requires
insert_hash-requires c =
    let gap = sym c.in-Err.is ∙ c.find_hash.ensures ∙ ap (found_in c.args.h) (set-front c.args.room.now c.args.n c.requires.0) in
    let more = added c.args.room.now c.args.n _ c.args.h c.requires.1 gap in
    (omega arith, c.requires.1, gap)

pub returns-in-Err : goal.returns-in-Err
returns-in-Err c =
    let gap = sym c.in-Err.is ∙ c.find_hash.ensures ∙ ap (found_in c.args.h) (set-front c.args.room.now c.args.n c.requires.0) in
    (sym (added c.args.room.now c.args.n _ c.args.h c.requires.1 gap), c.insert_hash.ensures)

use Rattle.std.proofs.Common.{◌≡◌, length, take}
use Rattle.area.proofs.PutLaws.{Putting}
use Rattle.area.proofs.opening.put_images.Given as goal

abbrev pub invariant-loop-n : goal.invariant-loop-n
invariant-loop-n l =
    let left = l.n-iterator.iter.rest.now in
    record {
      rest : left ≡ take (length left) l.lengths;
      so : Putting l.initial.state l.initial.to l.images l.lengths l.state l.end (length left) l.to;
    }

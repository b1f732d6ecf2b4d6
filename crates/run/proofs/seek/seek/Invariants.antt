use Rattle.std.proofs.Common.{◌≡◌, take}
use Rattle.key.specs.Stamps.{stamped}
use Rattle.run.proofs.Seeking.{Passing}
use Rattle.run.proofs.seek.seek.Given as goal

abbrev pub invariant-loop-place : goal.invariant-loop-place
invariant-loop-place l =
    record {
      same : l.place-iterator.records.now ≡ take l.end l.s;
      so : Passing (take l.end l.s) l.from l.end (stamped l.key l.stamp) l.place-iterator.at;
    }

use Rattle.std.proofs.Common.{◌≡◌}
use Rattle.run.proofs.Tallying.{Tallied}
use Rattle.run.proofs.tally.Tally.of.Given as goal

abbrev pub invariant-loop-place : goal.invariant-loop-place
invariant-loop-place l =
    record {
      same : l.place-iterator.records.now ≡ l.records;
      so : Tallied l.records l.tally l.place-iterator.at;
    }

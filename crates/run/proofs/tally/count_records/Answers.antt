use mathlib.Core.Path.{ap}
use Rattle.run.specs.Tallies.{tally_of}
use Rattle.run.specs.declared.tally.Tally.{Tally}
use Rattle.run.proofs.tally.count_records.Goals as goal

pub returns : goal.returns
unfolding tally_of
returns c = ap (λ (t : Tally). t.count) c.of.ensures

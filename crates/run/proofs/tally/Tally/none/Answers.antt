use mathlib.Core.Path.{refl}
use Rattle.run.specs.Tallies.{earliest, tally_of}
use Rattle.paper.specs.Store.{latest}
use Rattle.run.proofs.tally.Tally.none.Goals as goal

pub returns : goal.returns
unfolding earliest tally_of latest
returns c = refl

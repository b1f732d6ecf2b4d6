use Rattle.settings.proofs.Reading.{settings-long, settings-are}
use native.Mathlib.Omega.{arith}
use Rattle.settings.proofs.Settings.at.Goals as goal

pub front_numbers-requires : goal.front_numbers-requires
front_numbers-requires c = omega (arith, settings-long c.args.state.now c.requires)

pub returns : goal.returns
returns c = let e = settings-are c.args.state.now c.requires in rw c.front_numbers.ensures (cc)

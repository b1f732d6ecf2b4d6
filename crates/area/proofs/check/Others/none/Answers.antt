use mathlib.Core.Path.{refl}
use Rattle.paper.specs.Lists.{join}
use Rattle.paper.specs.Store.{latest_of}
use Rattle.area.specs.Told.{others_of}
use Rattle.area.proofs.check.Others.none.Goals as goal

pub returns : goal.returns
unfolding others_of join latest_of
returns c = refl

-- The settings of a sound state are read, and put its parts.
use Rattle.seat.proofs.Finding.{settings-there, settings-ranged, shape-there}
use Rattle.seat.proofs.shape_in.Goals as goal

pub at-requires : goal.at-requires
at-requires c = settings-there c.args.state.now c.requires

pub shape-requires : goal.shape-requires
shape-requires c = settings-ranged c.args.state.now c.requires _ c.at.ensures

pub returns : goal.returns
returns c = shape-there c.args.state.now c.requires _ c.at.ensures c.shape.result c.shape.ensures

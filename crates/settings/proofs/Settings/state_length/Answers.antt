use Rattle.settings.proofs.Shapes.{shaped}
use Rattle.settings.specs.Opening.{settings_of}
use native.Mathlib.Omega.{arith}
use Rattle.settings.proofs.Settings.state_length.Goals as goal

pub overflow_mul-result : goal.overflow_mul-result
overflow_mul-result c =
    let z = shaped (settings_of c.args.self) c.requires c.shape-shape.result c.shape-shape.ensures in omega arith

pub overflow_add-result : goal.overflow_add-result
overflow_add-result c =
    let z = shaped (settings_of c.args.self) c.requires c.shape-shape.result c.shape-shape.ensures in omega arith

pub returns : goal.returns
returns c =
    let z = shaped (settings_of c.args.self) c.requires c.shape-shape.result c.shape-shape.ensures in (z.places-wide, omega arith)

-- The numbers stand where the shape puts them.
use Rattle.settings.specs.Opening.{settings_of}
use Rattle.settings.proofs.Shapes.{Shaped, shaped}
use Rattle.opening.proofs.Emptying.{emptied-written}
use borrow.Author.Rules.{rules}
use Rattle.opening.proofs.empty_parts.Goals as goal

pub put_number-requires : goal.put_number-requires
put_number-requires c =
    let here : Shaped (settings_of c.args.st) c.shape-shape.result = shaped (settings_of c.args.st) c.requires.0 c.shape-shape.result c.shape-shape.ensures in
    let z = here in search rules

pub put_number-requires-2 : goal.put_number-requires-2
put_number-requires-2 c =
    let here : Shaped (settings_of c.args.st) c.shape-shape.result = shaped (settings_of c.args.st) c.requires.0 c.shape-shape.result c.shape-shape.ensures in
    let z = here in search rules

pub put_number-requires-3 : goal.put_number-requires-3
put_number-requires-3 c =
    let here : Shaped (settings_of c.args.st) c.shape-shape.result = shaped (settings_of c.args.st) c.requires.0 c.shape-shape.result c.shape-shape.ensures in
    let z = here in search rules

pub put_number-requires-4 : goal.put_number-requires-4
put_number-requires-4 c =
    let here : Shaped (settings_of c.args.st) c.shape-shape.result = shaped (settings_of c.args.st) c.requires.0 c.shape-shape.result c.shape-shape.ensures in
    let z = here in search rules

pub put_number-requires-5 : goal.put_number-requires-5
put_number-requires-5 c =
    let here : Shaped (settings_of c.args.st) c.shape-shape.result = shaped (settings_of c.args.st) c.requires.0 c.shape-shape.result c.shape-shape.ensures in
    let z = here in search rules

pub returns : goal.returns
returns c =
    emptied-written (settings_of c.args.st) c.requires.0 c.shape-shape.result c.shape-shape.ensures c.args.clock c.args.state.now _ _ _ _ _ c.put_number.ensures c.put_number-2.ensures c.put_number-3.ensures c.put_number-4.ensures c.put_number-5.ensures

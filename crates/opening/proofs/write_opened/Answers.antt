-- Every part is written once, and what was checked leaves room for each.
use native.Mathlib.Omega.{arith}
use Rattle.raw.proofs.Octets.{octets-of}
use Rattle.settings.specs.Opening.{settings_of}
use Rattle.settings.proofs.Shapes.{shaped}
use Rattle.opening.proofs.Writing.{passed-long, settings-inside, images-inside, opened-written}
use borrow.Author.Rules.{rules}
use Rattle.opening.proofs.write_opened.Goals as goal

pub shape-shape-requires : goal.shape-shape-requires
shape-shape-requires c = c.requires.ranges

pub write-requires : goal.write-requires
write-requires c = settings-inside (settings_of c.args.st) _ _ _ _ c.requires

pub empty_parts-requires : goal.empty_parts-requires
empty_parts-requires c = (c.requires.ranges, let z = passed-long (settings_of c.args.st) _ _ _ _ c.requires in search rules)

pub put_images-requires : goal.put_images-requires
put_images-requires c =
    let w = shaped (settings_of c.args.st) c.requires.ranges c.shape-shape.result c.shape-shape.ensures in
    let z = images-inside (settings_of c.args.st) _ _ _ _ c.requires in
    (c.requires.good, omega (arith, z, w.area))

pub free_places-requires : goal.free_places-requires
free_places-requires c = (c.requires.ranges, let z = passed-long (settings_of c.args.st) _ _ _ _ c.requires in search rules)

pub returns : goal.returns
returns c =
    let w = shaped (settings_of c.args.st) c.requires.ranges c.shape-shape.result c.shape-shape.ensures in
    opened-written (settings_of c.args.st) c.args.images.now c.args.lengths.now c.args.clock c.args.state.now (octets-of c.args.images.now (λ i. omega (arith, c.type_inv.images i))) c.requires _ _ _ _ c.shape-shape.result.area w.area c.write.ensures c.empty_parts.ensures c.put_images.ensures c.free_places.ensures

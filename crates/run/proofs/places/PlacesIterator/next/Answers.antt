use native.Mathlib.Omega.{arith}
use mathlib.Core.Path.{sym, ap, ◌∙◌}
use lib.ListN.{length}
use Rattle.key.specs.Versions.{packed}
use Rattle.key.proofs.Packed.{record-there, onward-order, onward-packed}
use Rattle.run.proofs.Reading.{part-rest}
use Rattle.run.proofs.places.PlacesIterator.next.Goals as goal

pub version_at-place-requires : goal.version_at-place-requires
version_at-place-requires c =
    let q = c.args.self.now in
    record-there q.records.now q.at (length q.records.now) (omega (arith, q.ahead, c.if-self.false)) (omega arith) (ap packed (part-rest q.records.now q.at) ∙ q.whole)

pub new-requires : goal.new-requires
new-requires c =
    let q = c.args.self.now in
    let s = q.records.now in
    let p = c.version_at-place.result in (
      onward-order s q.at (length s) (omega (arith, q.ahead, c.if-self.false)) (omega arith) (ap packed (part-rest s q.at) ∙ q.whole) p c.version_at-place.ensures,
      ap packed (sym (part-rest s p.ve)) ∙ onward-packed s q.at (length s) (omega (arith, q.ahead, c.if-self.false)) (omega arith) (ap packed (part-rest s q.at) ∙ q.whole) p c.version_at-place.ensures,
    )

-- Where the parts of a state with good settings lie in it.
-- Assumes nothing.
use native.Mathlib.Omega.{arith}
use mathlib.Core.Path.{◌≡◌, ap, ◌∙◌}
use Rattle.std.proofs.lemmas.Nat.{div-mul-add}
use mathlib.Core.Bool.{true}
use mathlib.Core.Option.{some}
use Prim.Native.Nat.{ℕ, ◌+◌, ◌*◌, ◌/◌}
use lib.ListN.{length}
use Rattle.paper.specs.Keys.{Bytes, octets}
use Rattle.paper.specs.Settings.{Settings, in_ranges}
use Rattle.raw.specs.Bytes.{part}
use Rattle.raw.proofs.Parts.{length_part}
use Rattle.layout.proofs.SoundFits.{ranged}
use Rattle.settings.specs.Opening.{good_in}
use Rattle.settings.specs.Shapes.{shape_of}
use Rattle.settings.specs.declared.Shape.{Shape}
use Rattle.settings.proofs.Shapes.{shaped}
use Rattle.settings.proofs.Reading.{ready}
use Rattle.state.specs.Lying.{Lies}

pub ranges-good : (b : Bytes) (st : Settings) → good_in b ≡ some st → in_ranges st ≡ true
ranges-good b st g = (ready b st g).ranges

pub lies : (b : Bytes) (st : Settings) (z : Shape) → octets b ≡ true → good_in b ≡ some st → z ≡ shape_of st → Lies b st z
lies b st z o g e =
    let r = ready b st g in
    let S = shaped st r.ranges z e in
    let n = r.enough in
    record {
      bytes = o;
      shape = S;
      rows = omega (arith, S.rows-wide);
      history = S.history-wide;
      active = S.active-wide;
      area = S.area-wide;
      inside = omega (arith, S.places-wide);
      seat = λ i l. omega (arith, S.place-wide-at i l);
      few = S.few-places;
      wide = omega (arith, S.place-wide, S.own, S.reads, S.writes);
      hashes = omega (arith, S.writes, (ranged st r.ranges).write_hashes.1);
      small = omega (arith, S.places-wide, S.small);
    }

-- how many places the slice of them has
pub seats-many : (b : Bytes) (st : Settings) (z : Shape) → Lies b st z → (q : Bytes) → q ≡ part b z.places (z.count * z.stride) → length q / z.stride ≡ z.count
seats-many b st z h q e =
    let l : length q ≡ z.count * z.stride + 0 = ap length e ∙ length_part b z.places (z.count * z.stride) h.inside ∙ omega arith in
    ap (λ (n : ℕ). n / z.stride) l ∙ div-mul-add z.count z.stride 0 (omega (arith, h.wide))

-- Packed runs: what is packed is read back, and the versions from an offset to an end are the first and those after it.
-- Assumes nothing.
use native.Mathlib.Omega.{arith}
use mathlib.Core.Path.{◌≡◌, refl, sym, ap, ◌∙◌}
use mathlib.Core.Bool.{true}
use mathlib.Core.Option.{none}
use mathlib.Core.List.{[], ◌∷◌, ◌++◌}
use Prim.Native.Nat.{ℕ, ◌-◌, ◌≤◌, ◌<◌}
use lib.ListN.{length, drop}
use Rattle.paper.specs.Lists.{all, is_some}
use Rattle.paper.specs.Keys.{Bytes, Version, cmp_version}
use Rattle.paper.specs.Runs.{Run, is_run, version_size}
use Rattle.paper.specs.Image.{record_bytes, records_bytes, one_record, number, bytes, storable}
use Rattle.paper.proofs.KeyOrder.{version-order}
use Rattle.paper.proofs.ImageLaws.{record-at}
use Rattle.paper.proofs.ImageBack.{length-record}
use Rattle.raw.specs.Bytes.{part}
use Rattle.key.specs.Packing.{pack_all}
use Rattle.key.specs.Versions.{version_or, version_at, versions, packed}
use Rattle.key.specs.Places.{version_in, Placed}
use Rattle.key.specs.declared.Place.{Place}
use Rattle.key.proofs.Packing.{Codec, First, read-nil, read_back, packed_all, packed-is, first-thing, first_next, next-order, next-whole}

record-longer : (v : Version) → 0 < length (record_bytes v)
unfolding version_size
record-longer v = omega (arith, length-record v)

record-end : one_record [] ≡ none
unfolding one_record number bytes
record-end = refl

pub version-codec : Codec record_bytes one_record cmp_version storable
version-codec = record { ord = version-order; back = record-at; end = record-end; longer = record-longer }

-- the paper's records, packed
pub records-pack : (vs : Run) → records_bytes vs ≡ pack_all record_bytes vs
unfolding records_bytes pack_all
records-pack [] = refl
records-pack (v ∷ vs) = ap (λ (b : Bytes). record_bytes v ++ b) (records-pack vs)

-- what is packed is read back
pub versions-records : (vs : Run) → all storable vs ≡ true → versions (records_bytes vs) ≡ vs
versions-records vs a = ap versions (records-pack vs) ∙ read_back record_bytes one_record cmp_version storable version-codec vs a

-- the records of a run are packed
pub packed-records : (vs : Run) → is_run vs ≡ true → all storable vs ≡ true → packed (records_bytes vs) ≡ true
packed-records vs r a = ap packed (records-pack vs) ∙ packed_all record_bytes one_record cmp_version storable version-codec vs r a

-- packed bytes are the records of a run whose versions fit their fields
pub packed-run : (b : Bytes) → packed b ≡ true → (records_bytes (versions b) ≡ b) × (is_run (versions b) ≡ true) × (all storable (versions b) ≡ true)
packed-run b h =
    let w = packed-is record_bytes one_record cmp_version storable version-codec b h in
    (records-pack (versions b) ∙ w.0, w.1, w.2)

pub versions-nil : versions [] ≡ []
versions-nil = read-nil record_bytes one_record cmp_version storable version-codec

-- packed bytes from an offset to an end, not empty
module _ (s : Bytes) (at end : ℕ) (l : at < end) (inside : end ≤ length s) (whole : packed (part s at (end - at)) ≡ true) where
  pub foremost : First record_bytes one_record cmp_version storable version-codec s at end
  foremost = first-thing record_bytes one_record cmp_version storable version-codec s at end l inside whole

  -- there is a version at the offset
  pub record-there : is_some (one_record (drop at s)) ≡ true
  record-there = ap is_some foremost.reads

  module _ (p : Place) (there : Placed s at p) where
    -- it ends at or before the end
    pub onward-order : p.ve ≤ end
    onward-order = next-order record_bytes one_record cmp_version storable version-codec s at end l inside whole (version_in s p) p.ve there.read there.inside

    -- the versions are it and those after it
    pub versions-step : versions (part s at (end - at)) ≡ version_at s at ∷ versions (part s p.ve (end - p.ve))
    unfolding version_at
    versions-step =
        first_next record_bytes one_record cmp_version storable version-codec s at end l inside whole (version_in s p) p.ve there.read there.inside
        ∙ ap {B = Run} (λ v. v ∷ versions (part s p.ve (end - p.ve))) (sym (ap version_or there.read))

    -- which are packed too
    pub onward-packed : packed (part s p.ve (end - p.ve)) ≡ true
    onward-packed = next-whole record_bytes one_record cmp_version storable version-codec s at end l inside whole (version_in s p) p.ve there.read there.inside

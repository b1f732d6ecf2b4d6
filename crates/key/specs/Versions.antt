-- The versions that lie in bytes: the one at an offset, and those of a packed run.
-- Assumes nothing.
use Rattle.std.specs.Prelude.{ℕ, Bool, [], drop}
use Rattle.std.proofs.Math.Option.{Option, none, some}
use Rattle.paper.specs.Keys.{Bytes, Version, cmp_version}
use Rattle.paper.specs.Runs.{Run}
use Rattle.paper.specs.Image.{record_bytes, one_record, storable}
use Rattle.key.specs.Packing.{read_all, packed_by}

-- what stands where there is no version
abbrev pub no_version : Version
no_version = record { key = []; time = 0; value = [] }

abbrev pub version_or : Option (Version × Bytes) → Version
version_or none = no_version
version_or (some p) = p.0

-- the version whose record starts at an offset
unfoldable pub version_at : Bytes → ℕ → Version
version_at s at = version_or (one_record (drop at s))

-- the versions of packed records
abbrev pub versions : Bytes → Run
versions s = read_all one_record s

-- the bytes are the records of a run, and nothing else
abbrev pub packed : Bytes → Bool
packed s = packed_by record_bytes one_record cmp_version storable s

-- The record at an offset of bytes that end at an end.
-- Assumes nothing.
use Rattle.std.specs.Prelude.{ℕ, ◌-◌, ◌≤◌, ◌≡◌, length, Option, Some, None}
use Rattle.std.proofs.Math.Option.{none, some}
use Rattle.paper.specs.Keys.{Bytes}
use Rattle.paper.specs.Image.{one_record}
use Rattle.raw.specs.Bytes.{part}
use Rattle.key.specs.Places.{version_in, Placed}
use Rattle.key.specs.declared.Place.{Place}

-- the key at a place lies in the bytes
abbrev pub KeyIn : Bytes → Place → Type 0
KeyIn s p = (p.ks ≤ p.ke) × (p.ke ≤ length s)

-- the record at an offset has its parts there and ends at or before the end, and is what the paper reads there
pub record Within (s : Bytes) (at end : ℕ) (p : Place) : Type 0 where
  pub there : Placed s at p
  pub before : p.ve ≤ end
  pub read : one_record (part s at (end - at)) ≡ some (version_in s p, part s p.ve (end - p.ve))

-- the record is read, or the bytes are 'cut'
abbrev pub Recorded : Bytes → ℕ → ℕ → Option Place → Type 0
Recorded s at end (Some p) = Within s at end p
Recorded s at end None = one_record (part s at (end - at)) ≡ none

-- Where the parts of a version lie in bytes.
-- Assumes nothing.
use Rattle.std.specs.Prelude.{ℕ, ◌+◌, ◌-◌, ◌≤◌, ◌≡◌, length, drop}
use Rattle.std.proofs.Math.Option.{some}
use Rattle.paper.specs.Keys.{Bytes, Version}
use Rattle.paper.specs.Image.{one_record}
use Rattle.raw.specs.Bytes.{part}
use Rattle.key.specs.declared.Place.{Place}

-- the version whose parts lie there
abbrev pub version_in : Bytes → Place → Version
version_in s p = record { key = part s p.ks (p.ke - p.ks); time = p.time; value = part s p.vs (p.ve - p.vs) }

-- the record at an offset has its parts there, one after the other, and ends with its value:
-- 'key length 16 bits, key, timestamp 64 bits, value length 16 bits, value'
pub record Placed (s : Bytes) (at : ℕ) (p : Place) : Type 0 where
  pub read : one_record (drop at s) ≡ some (version_in s p, drop p.ve s)
  pub start : p.ks ≡ at + 2
  pub key : p.ks ≤ p.ke
  pub mid : p.vs ≡ p.ke + 10
  pub value : p.vs ≤ p.ve
  pub inside : p.ve ≤ length s

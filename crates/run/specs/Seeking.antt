-- Where packed records begin to be at or after a version.
-- Assumes nothing.
use Rattle.std.specs.Prelude.{ℕ, ◌-◌, ◌≤◌, ◌≡◌, Bool, true, not}
use Rattle.paper.specs.Lists.{is_lt, keep}
use Rattle.paper.specs.Keys.{Bytes, Version, cmp_version}
use Rattle.raw.specs.Bytes.{part}
use Rattle.key.specs.Versions.{versions, packed}

-- a version stands before another
abbrev pub is_before : Version → Version → Bool
is_before w v = is_lt (cmp_version w v)

abbrev pub is_from : Version → Version → Bool
is_from v w = not (is_before w v)

-- the records from r on are packed, and they are those at or after v
pub record Sought (s : Bytes) (from end : ℕ) (v : Version) (r : ℕ) : Type 0 where
  pub low : from ≤ r
  pub high : r ≤ end
  pub whole : packed (part s r (end - r)) ≡ true
  pub found : versions (part s r (end - r)) ≡ keep (is_from v) (versions (part s from (end - from)))

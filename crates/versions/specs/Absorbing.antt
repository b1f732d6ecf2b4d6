-- Own writes that become versions of the active run: how both lie in one buffer, and the run that there is then.
-- Assumes nothing.
use Rattle.std.specs.Prelude.{ℕ, ◌+◌, ◌*◌, ◌-◌, ◌≤◌, ◌≡◌, Bool, true, List, ◌++◌, ltb, length, take}
use Rattle.paper.specs.Lists.{all, insert_all}
use Rattle.paper.specs.Keys.{Bytes, Version, Pair, cmp_version}
use Rattle.paper.specs.Runs.{Run}
use Rattle.paper.specs.Store.{own_size}
use Rattle.paper.specs.Image.{records_bytes}
use Rattle.paper.specs.Calls.{stamped}
use Rattle.raw.specs.Bytes.{part}
use Rattle.key.specs.Versions.{versions, packed}
use Rattle.overlay.specs.Overlay.{own_in, overlay_in}

-- the versions of the records from one index to another
abbrev pub versions_in : Bytes → ℕ → ℕ → Run
versions_in s at end = versions (part s at (end - at))

abbrev pub packed_in : Bytes → ℕ → ℕ → Bool
packed_in s at end = packed (part s at (end - at))

-- every version is older than a commit number: 'every .. version at or below the clock', which rises to it
abbrev pub older : ℕ → Run → Bool
older n r = all (λ v. ltb v.time n) r

-- 'each overlay entry becomes a version with that timestamp'
abbrev pub version_of : ℕ → Pair → Version
version_of n p = record { key = p.key; time = n; value = p.value }

-- own writes in a run at a commit number: 'each overlay entry becomes a version with that timestamp in the active run'
abbrev pub joined : ℕ → List Pair → Run → Run
joined n own r = insert_all cmp_version (stamped n own) r

-- how many bytes own writes take as versions: '4 bytes plus key and value for each entry', '12 bytes plus key and value for each version'
abbrev pub grown : List Pair → ℕ
grown own = own_size own + 8 * length own

-- the active run lies from at to end, the own writes from own to stop, both in order, and no version is as new as the commit number
pub record Absorbable (s : Bytes) (at end own stop n : ℕ) : Type 0 where
  pub order : at ≤ end
  pub apart : end ≤ own
  pub onward : own ≤ stop
  pub inside : stop ≤ length s
  pub whole : packed_in s at end ≡ true
  pub aged : older n (versions_in s at end) ≡ true
  pub entries : overlay_in s own stop ≡ true

-- the run that comes of them
abbrev pub absorbed : Bytes → ℕ → ℕ → ℕ → ℕ → ℕ → Run
absorbed s at end own stop n = joined n (own_in s own stop) (versions_in s at end)

-- the records in front of r stay where they are: every own write goes among those from r on
pub record Parted (s : Bytes) (own : List Pair) (n r : ℕ) : Type 0 where
  pub high : r ≤ length s
  pub whole : packed_in s r (length s) ≡ true
  pub aged : older n (versions_in s r (length s)) ≡ true
  pub front : records_bytes (joined n own (versions s)) ≡ take r s ++ records_bytes (joined n own (versions_in s r (length s)))

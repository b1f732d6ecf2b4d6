-- Packed records of a run in which no key is empty, and what an image is told as.
-- Assumes nothing.
use Rattle.std.specs.Prelude.{ℕ, ◌-◌, ◌≡◌, Bool, true, false, cond, ◌&&◌, Option, Some, None, Result, Ok, Err}
use Rattle.paper.specs.Lists.{is_lt, rises_from}
use Rattle.paper.specs.Keys.{Bytes, Version, cmp_version, same_key}
use Rattle.paper.specs.Image as paper
use Rattle.paper.specs.Image.{is_whole, record_bytes}
use Rattle.paper.specs.Store.{latest}
use Rattle.raw.specs.Bytes.{part}
use Rattle.key.specs.Packing.{pack_all}
use Rattle.key.specs.Versions.{versions, packed}
use Rattle.key.specs.Places.{version_in}
use Rattle.key.specs.declared.Place.{Place}
use Rattle.run.specs.Records.{Within}
use Rattle.run.specs.Tallies.{tally_of}
use Rattle.run.specs.declared.tally.Tally.{Tally}
use Rattle.run.specs.declared.BadImage.{BadImage}
use Rattle.run.specs.declared.BadImage.TheVariants.{Broken, Foreign}

-- the bytes are the records of a run and nothing else, and none has an empty key: what the active run is, and an image behind its head
unfoldable pub whole_run : Bytes → Bool
whole_run b = packed b && is_whole (versions b)

-- what the check answers: how many records there are, and their earliest and latest timestamps; or that they are no such run
unfoldable pub checked : Bytes → Option Tally
checked b = cond (whole_run b) (Some (tally_of (versions b))) None

-- the paper's verdict, with the largest timestamp of a good run: 10 where it is 'cut (inside the version too), overlong, unsorted, with an empty key or
-- a wrong mark', 11 where it has 'mark right, version not 1, rest unread'
abbrev pub told : paper.Verdict → Result ℕ BadImage
told (paper.good r) = Ok (latest r)
told paper.broken = Err Broken
told paper.foreign = Err Foreign

-- the bytes are records that rise from a version, and nothing else
unfoldable pub rises_in : Version → Bytes → Bool
rises_in v b = same_key (pack_all record_bytes (versions b)) b && rises_from cmp_version v (versions b)

-- a record follows a place and rises from its version; or the bytes that follow it are no records that do
abbrev pub Risen : Bytes → Place → ℕ → Option Place → Type 0
Risen s p end (Some q) = Within s p.ve end q × (is_lt (cmp_version (version_in s p) (version_in s q)) ≡ true)
Risen s p end None = rises_in (version_in s p) (part s p.ve (end - p.ve)) ≡ false

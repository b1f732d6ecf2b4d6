-- Own writes as the code holds them: what a field and an entry at the front of some bytes are, and the bytes that a write replaces.
-- Assumes nothing.
use Rattle.std.specs.Prelude.{ℕ, ◌-◌, ◌≤◌, ◌≡◌, List, ◌++◌, length, take, drop, Option, Some, None}
use Rattle.std.specs.Borrow.{Bor}
use Rattle.std.proofs.Math.Option as math
use Rattle.paper.specs.Lists.{insert}
use Rattle.paper.specs.Keys.{Bytes, Pair, cmp_pair}
use Rattle.raw.specs.Bytes.{part}
use Rattle.layout.specs.Codec.{put_all}
use Rattle.layout.specs.Layout.{pair_stream}
use Rattle.overlay.specs.Overlay.{pair, pairs_in}
use Rattle.overlay.specs.declared.own.Entry.{Entry}
use Rattle.overlay.specs.declared.own.Own.{Own}

-- the bytes from one index to another
abbrev pub span : Bytes → ℕ → ℕ → Bytes
span s at end = part s at (end - at)

-- the own write that an entry is
abbrev pub written : Entry → Pair
written e = pair e.key.now e.value.now

-- the own writes that an iterator has not given yet
abbrev pub left : Own → List Pair
left own = pairs_in own.bytes.now

-- a field and the bytes behind it, or none
abbrev pub field_read : Option (Bor Bytes × Bor Bytes) → math.Option (Bytes × Bytes)
field_read None = math.none
field_read (Some p) = math.some (p.0.now, p.1.now)

-- an entry and the bytes behind it, or none
abbrev pub entry_read : Option (Entry × Bor Bytes) → math.Option (Pair × Bytes)
entry_read None = math.none
entry_read (Some p) = math.some (written p.0, p.1.now)

-- a write of a key goes in the place of the bytes from `start` to `stop`, whatever its value
pub record Hole (s k : Bytes) (start stop : ℕ) : Type 0 where
  pub mid : start ≤ stop
  pub high : stop ≤ length s
  pub filled : (v : Bytes) → put_all pair_stream (insert cmp_pair (pair k v) (pairs_in s)) ≡ take start s ++ (pair_stream.put (pair k v) ++ drop stop s)

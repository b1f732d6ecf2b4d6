-- Stamps of a key: their order, the ends of their range, and a key at a stamp as a version.
-- Assumes nothing.
use Prim.Native.Nat.{ℕ, compare, Ordering}
use Rattle.std.specs.Prelude.{[]}
use Rattle.paper.specs.Keys.{Bytes, Version}
use Rattle.paper.specs.Settings.{most_number}
use Rattle.key.specs.declared.KeyStamp.{KeyStamp}

-- 'timestamp descending'
abbrev pub cmp_stamp : KeyStamp → KeyStamp → Ordering
cmp_stamp a b = compare b.time a.time

-- 'the constants TS_RANGE_BEGIN and TS_RANGE_END': the largest timestamp of 64 bits comes first, the smallest last
abbrev pub range_begin : ℕ
range_begin = most_number

abbrev pub range_end : ℕ
range_end = 0

-- a key at a stamp; its value has no part in the order
abbrev pub stamped : Bytes → KeyStamp → Version
stamped k t = record { key = k; time = t.time; value = [] }

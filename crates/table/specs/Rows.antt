-- The reader rows of a state, in their region: how they read, where a timestamp stands among them, and whether a reader may be added.
-- Assumes nothing.
use Rattle.std.specs.Prelude.{ℕ, suc, ◌+◌, ◌*◌, ◌-◌, ◌/◌, ◌≤◌, ◌≡◌, Bool, true, false, cond, List, [], ◌∷◌, length, ltb, eqb, Result, Ok, Err}
use Rattle.std.proofs.Math.Option.{Option, none, some}
use Rattle.paper.specs.Lists.{any, is_some, rises}
use Rattle.paper.specs.Keys.{Bytes}
use Rattle.paper.specs.Readers.{Row, cmp_row, readers_at}
use Rattle.paper.specs.Settings.{most_number}
use Rattle.paper.specs.Room.{table_fits}
use Rattle.paper.specs.Sound.{same_rows}
use Rattle.layout.specs.Codec.{Slot, room}
use Rattle.layout.specs.Layout.{listed, row_stream}
use Rattle.table.specs.declared.Spot.{Spot}
use Rattle.table.specs.declared.Gap.{Gap}
use Rattle.table.specs.declared.RowRefusal.{RowRefusal}
use Rattle.table.specs.declared.RowRefusal.TheVariants.{Full, Most}

-- ---- a region is room for rows in all of its bytes, as the rows' part of a state is
unfoldable pub region_slot : Bytes → Slot (List Row)
region_slot b = room (length b) (listed row_stream)

unfoldable pub read_in : Bytes → Option (List Row)
read_in b = (region_slot b).read b

abbrev pub or_empty : Option (List Row) → List Row
or_empty none = []
or_empty (some rs) = rs

-- the rows of a region
unfoldable pub rows_in : Bytes → List Row
rows_in b = or_empty (read_in b)

-- rows written over a region; what they do not use keeps what it had
unfoldable pub lay_rows : List Row → Bytes → Bytes
lay_rows rs b = (region_slot b).write rs b

-- a region with rows that rise
pub record Rowed (b : Bytes) : Type 0 where
  pub reads : is_some (read_in b) ≡ true
  pub rise : rises cmp_row (rows_in b) ≡ true

-- a region that reads as n rows
pub record Holds (b : Bytes) (n : ℕ) : Type 0 where
  pub reads : is_some (read_in b) ≡ true
  pub many : n ≡ length (rows_in b)
  pub fits : 8 + 16 * n ≤ length b

-- 'has a row for each transaction place': 8 bytes for the number of used bytes, and 16 a row
abbrev pub room_in : Bytes → ℕ
room_in b = (length b - 8) / 16

-- ---- where a timestamp stands among rising rows
-- how many rows are before it
unfoldable pub rows_before : ℕ → List Row → ℕ
rows_before t [] = 0
rows_before t (r ∷ rs) = let further = suc (rows_before t rs) in cond (ltb r.time t) further 0

-- some row is its
unfoldable pub has_row : ℕ → List Row → Bool
has_row t rs = any (λ r. eqb t r.time) rs

-- a row at place k of n, with c readers; and no row, which would be at place k
abbrev pub here : ℕ → ℕ → ℕ → Result Spot Gap
here k n c = Ok (record { k = k; n = n; count = c })

abbrev pub gap : ℕ → ℕ → Result Spot Gap
gap k n = Err (record { k = k; n = n })

-- the place of its row, or the place where its row would be
unfoldable pub spot_of : ℕ → List Row → Result Spot Gap
spot_of t rs = cond (has_row t rs) (here (rows_before t rs) (length rs) (readers_at t rs)) (gap (rows_before t rs) (length rs))

-- ---- may a reader be added at t: 'a reader table full for a new timestamp' is 5, 'a reader's count there' (at 2^64-1) is 7
-- what is found out of room and count
abbrev pub judged : Bool → Bool → Result (Unit {0}) RowRefusal
judged room below = cond room (cond below (Ok tt) (Err Most)) (Err Full)

unfoldable pub checked : Bytes → ℕ → Result (Unit {0}) RowRefusal
checked b t = judged (table_fits (room_in b) (rows_in b) t) (ltb (readers_at t (rows_in b)) most_number)

-- ---- 'reader rows rise strictly and count exactly the transactions': the region reads as these rows
abbrev pub are_rows : Option (List Row) → List Row → Bool
are_rows none made = false
are_rows (some rs) made = same_rows rs made

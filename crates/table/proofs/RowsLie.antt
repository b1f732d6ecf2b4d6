-- The rows' part of a state is a region: what the layout reads and writes there is what the table's own definitions say.
-- Assumes nothing.
use Prim.Native.Nat.{ℕ, ◌+◌, ◌≤◌}
use native.Mathlib.Omega.{arith}
use mathlib.Core.Path.{◌≡◌, refl, sym, ap, ◌∙◌}
use mathlib.Core.Bool.{true}
use mathlib.Core.List.{List}
use mathlib.Core.Option.{some}
use lib.ListN.{length}
use lib.Dec.{ltb}
use Rattle.paper.specs.Lists.{is_some, rises}
use Rattle.paper.specs.Keys.{Bytes}
use Rattle.paper.specs.Readers.{Row, cmp_row, readers_at}
use Rattle.paper.specs.Settings.{Settings, most_number}
use Rattle.paper.specs.Room.{table_fits}
use Rattle.paper.specs.Store.{Store, rows_of, read_numbers_of}
use Rattle.paper.specs.Sound.{sound}
use Rattle.paper.proofs.PlaceLaws.{same_rows-eq, rows_of-sound}
use Rattle.paper.proofs.SoundLaws.{rules}
use Rattle.raw.specs.Bytes.{over}
use Rattle.raw.proofs.Over.{over-within}
use Rattle.layout.specs.Codec.{room}
use Rattle.layout.specs.Offsets.{start_rows, width_rows, rows_part}
use Rattle.layout.specs.Layout.{listed, row_stream, rows_slot}
use Rattle.layout.proofs.LayoutLaws.{OkRows, rows-width}
use Rattle.layout.proofs.Sides.{Has}
use Rattle.layout.proofs.Lies.{Laid}
use Rattle.table.specs.Rows.{region_slot, read_in, or_empty, rows_in, lay_rows, Rowed, room_in, judged, checked}
use Rattle.table.proofs.RowsAnew.{lay-over}

pub slot-reads : (s : Settings) (q : Bytes) → (rows_slot s).read q ≡ read_in q
unfolding rows_slot read_in region_slot room
slot-reads s q = refl

pub slot-writes : (s : Settings) (rs : List Row) (q : Bytes) → (rows_slot s).write rs q ≡ lay_rows rs q
unfolding rows_slot lay_rows region_slot room
slot-writes s rs q = refl

-- ---- a part that holds the rows rs
module _ (s : Settings) (q : Bytes) (rs : List Row) (h : Has (rows_slot s) q rs) where
  pub part-reads : read_in q ≡ some rs
  part-reads = sym (slot-reads s q) ∙ h.read

  pub part-rows : rows_in q ≡ rs
  unfolding rows_in
  part-rows = ap or_empty part-reads

  -- 'a row for each transaction place'
  pub part_room : room_in q ≡ s.transactions
  part_room = omega (arith, h.long, rows-width s)

  pub part-rowed : rises cmp_row rs ≡ true → Rowed q
  part-rowed u = record { reads = ap is_some part-reads; rise = ap (rises cmp_row) part-rows ∙ u }

  -- the check, in the paper's words
  pub part-checked : (t : ℕ) → checked q t ≡ judged (table_fits s.transactions rs t) (ltb (readers_at t rs) most_number)
  unfolding checked
  part-checked t =
      ap (λ (u : List Row). judged (table_fits (room_in q) u t) (ltb (readers_at t u) most_number)) part-rows
      ∙ ap (λ (n : ℕ). judged (table_fits n rs t) (ltb (readers_at t rs) most_number)) part_room

  -- rows made of these are written as the layout writes them
  pub part-laid : (f : List Row → List Row) → lay_rows (f (rows_in q)) q ≡ (rows_slot s).write (f rs) q
  part-laid f = ap (λ (u : List Row). lay_rows (f u) q) part-rows ∙ sym (slot-writes s (f rs) q)

-- ---- in the state's bytes, the rows are written where their part begins
pub rows-laid : (s : Settings) (b : Bytes) (rs : List Row) → OkRows s rs → start_rows + width_rows s ≤ length b
    → over b start_rows (lay_rows rs (rows_part s b)) ≡ over b start_rows ((listed row_stream).put rs)
rows-laid s b rs o l = ap (over b start_rows) (lay-over rs (rows_part s b)) ∙ over-within b start_rows (width_rows s) 0 ((listed row_stream).put rs) l (omega (arith, o.1))

-- ---- a sound store's rows rise
pub sound-rise : (s : Store) → sound s ≡ true → rises cmp_row s.readers ≡ true
sound-rise s h =
    ap (rises cmp_row) (same_rows-eq s.readers (rows_of (read_numbers_of s.places)) (rules s h).rows) ∙ (rows_of-sound (read_numbers_of s.places)).rising

pub sound-rowed : (b : Bytes) (s : Store) → Laid b s → sound s ≡ true → Rowed (rows_part s.settings b)
sound-rowed b s l h = part-rowed s.settings (rows_part s.settings b) s.readers l.readers (sound-rise s h)

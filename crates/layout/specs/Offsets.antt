-- Where each part of a state begins, and how many bytes it may take, in plain numbers of the settings.
-- Assumes nothing.
use Rattle.std.specs.Prelude.{ℕ, zero, suc, ◌+◌, ◌*◌}
use Rattle.paper.specs.Keys.{Bytes}
use Rattle.paper.specs.Image.{big_endian}
use Rattle.paper.specs.Settings.{Settings}
use Rattle.raw.specs.Bytes.{part, over}

-- the settings stand in front, 9 times 8 bytes: the mode, number 0, then the eight numbers
abbrev pub setting_at : ℕ → ℕ
setting_at k = 8 * k

abbrev pub start_clock : ℕ
start_clock = 72

abbrev pub start_counter : ℕ
start_counter = 80

-- ---- a list in its room has the number of its bytes in front, 8 bytes
abbrev pub start_rows : ℕ
start_rows = 88

-- a row for each transaction place, 16 bytes each
abbrev pub width_rows : Settings → ℕ
width_rows s = 8 + 16 * s.transactions

abbrev pub start_history : Settings → ℕ
start_history s = start_rows + width_rows s

-- 16 bytes an entry, and 4 a hash
abbrev pub width_history : Settings → ℕ
width_history s = 8 + 16 * s.history_entries + 4 * s.history_hashes

abbrev pub start_active : Settings → ℕ
start_active s = start_history s + width_history s

abbrev pub width_active : Settings → ℕ
width_active s = 8 + s.active_bytes

abbrev pub start_area : Settings → ℕ
start_area s = start_active s + width_active s

-- at most 16 images, each with the number of its bytes in front
abbrev pub width_area : Settings → ℕ
width_area s = 8 + 8 * 16 + s.area_bytes

abbrev pub start_places : Settings → ℕ
start_places s = start_area s + width_area s

-- ---- a transaction's place, from its own start: its handle, 0 where the place is free
abbrev pub place_read : ℕ
place_read = 8

-- 1 where the transaction is open
abbrev pub place_mark : ℕ
place_mark = 16

abbrev pub place_overlay : ℕ
place_overlay = 24

abbrev pub width_overlay : Settings → ℕ
width_overlay s = 8 + s.overlay_bytes

abbrev pub place_reads : Settings → ℕ
place_reads s = place_overlay + width_overlay s

abbrev pub width_reads : Settings → ℕ
width_reads s = 8 + 4 * s.read_hashes

abbrev pub place_writes : Settings → ℕ
place_writes s = place_reads s + width_reads s

abbrev pub width_writes : Settings → ℕ
width_writes s = 8 + 4 * s.write_hashes

-- the bytes of a place
abbrev pub stride : Settings → ℕ
stride s = place_writes s + width_writes s

-- where place i begins, from 0
abbrev pub place_at : Settings → ℕ → ℕ
place_at s i = start_places s + i * stride s

-- ---- the bytes of each part
abbrev pub clock_part : Bytes → Bytes
clock_part b = part b start_clock 8

abbrev pub counter_part : Bytes → Bytes
counter_part b = part b start_counter 8

module _ (s : Settings) (b : Bytes) where
  abbrev pub rows_part : Bytes
  rows_part = part b start_rows (width_rows s)

  abbrev pub history_part : Bytes
  history_part = part b (start_history s) (width_history s)

  abbrev pub active_part : Bytes
  active_part = part b (start_active s) (width_active s)

  abbrev pub area_part : Bytes
  area_part = part b (start_area s) (width_area s)

  abbrev pub places_part : Bytes
  places_part = part b (start_places s) (s.transactions * stride s)

  abbrev pub place_part : ℕ → Bytes
  place_part i = part b (place_at s i) (stride s)

-- ---- the first n places freed: 0 in place of each handle
unfoldable pub freed : Settings → ℕ → Bytes → Bytes
freed s zero b = b
freed s (suc n) b = over (freed s n b) (place_at s n) (big_endian 8 0)

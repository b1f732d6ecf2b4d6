-- What an opening writes beside settings, images and places, and what its checks have found before it writes.
-- Assumes nothing.
use Rattle.std.specs.Prelude.{ℕ, ◌≡◌, true, List}
use Rattle.paper.specs.Keys.{Bytes}
use Rattle.paper.specs.Image.{big_endian}
use Rattle.paper.specs.Settings.{Settings, in_ranges}
use Rattle.paper.specs.Store.{latest_of}
use Rattle.paper.specs.Room.{images_fit, buffer_fits}
use Rattle.paper.specs.Calls.{images_in}
use Rattle.raw.specs.Bytes.{over}
use Rattle.layout.specs.Offsets.{start_clock, start_counter, start_rows, start_history, start_active}
use Rattle.area.specs.Opening.{good_images, runs_in}

-- the clock; no handle is given yet, 'the next handle, 1 for the first after opening'; no reader row, no commit, no active version: the number of a
-- list's bytes, which stands in front of it, is 0
unfoldable pub emptied : Settings → ℕ → Bytes → Bytes
emptied st clock b =
    over (over (over (over (over b start_clock (big_endian 8 clock)) start_counter (big_endian 8 0)) start_rows (big_endian 8 0)) (start_history st) (big_endian 8 0)) (start_active st) (big_endian 8 0)

-- nothing refuses the opening in a buffer of `room` bytes, and this is its clock: '12, then the runs from the first, 10 or 11, then 5'
pub record Passed (st : Settings) (images : Bytes) (lengths : List ℕ) (room clock : ℕ) : Type 0 where
  pub ranges : in_ranges st ≡ true
  pub good : good_images images lengths ≡ true
  pub time : clock ≡ latest_of (runs_in images lengths)
  pub area : images_fit st (images_in images lengths) ≡ true
  pub buffer : buffer_fits st room ≡ true

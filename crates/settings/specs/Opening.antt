-- The opening settings as a host gives them, and as they stand in front of a state.
-- Assumes nothing.
use Rattle.std.specs.Prelude.{Bool, ◌&&◌, cond, ℕ, ◌*◌, List, map, length, Option as Found, Some, None}
use Rattle.std.specs.List.{range_with_len}
use Rattle.std.proofs.Math.Option.{Option, none, some}
use Rattle.paper.specs.Keys.{Bytes}
use Rattle.paper.specs.Image.{number_from}
use Rattle.paper.specs.Settings.{Settings, in_ranges}
use Rattle.paper.specs.Room.{buffer_fits}
use Rattle.raw.specs.Bytes.{part}
use Rattle.layout.specs.Layout.{settings_in}
use Rattle.settings.specs.declared.Settings.{Settings as Given}

-- the paper's settings: 'transactions ..; for each of them overlay bytes .., read hashes .., write hashes ..; history entries .. and hashes ..;
-- active run bytes ..; run area ..'
abbrev pub settings_of : Given → Settings
settings_of g =
    record {
      serializable = g.serializable;
      transactions = g.transactions;
      overlay_bytes = g.overlay;
      read_hashes = g.reads;
      write_hashes = g.writes;
      history_entries = g.entries;
      history_hashes = g.hashes;
      active_bytes = g.active;
      area_bytes = g.area;
    }

-- a value that was found, if the test passes at it
abbrev pub only_if : {A : Type 0} → (A → Bool) → Option A → Option A
only_if test none = none
only_if test (some a) = cond (test a) (some a) none

-- 'settings in range and the buffer long enough for them': where these are found, the rest of a state can be looked at
unfoldable pub good_in : Bytes → Option Settings
good_in b = only_if (λ st. in_ranges st && buffer_fits st (length b)) (settings_in b)

-- what reading the settings in front of a state answers
abbrev pub answered : Found Given → Option Settings
answered (Some g) = some (settings_of g)
answered None = none

-- the nine numbers in front of a state, 8 bytes each
abbrev pub front_numbers : Bytes → List ℕ
front_numbers b = map (λ i. number_from 0 (part b (8 * i) 8)) (range_with_len 0 9)

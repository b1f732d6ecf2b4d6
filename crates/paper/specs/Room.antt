-- Room: each rule of 'no room means exactly' by a name of its own, as what must hold so that there is room.
-- Assumes nothing.
use Rattle.std.specs.Prelude.{ℕ, Bool, ◌&&◌, List, length, leb, ltb}
use Rattle.std.proofs.Math.Option.{Option, none, some}
use Rattle.paper.specs.Lists.{total}
use Rattle.paper.specs.Keys.{Bytes, Pair}
use Rattle.paper.specs.Runs.{Run, run_size}
use Rattle.paper.specs.Readers.{Row, add_reader}
use Rattle.paper.specs.History.{Commit}
use Rattle.paper.specs.Settings.{Settings, state_length, most_runs}
use Rattle.paper.specs.Store.{Store, own_size, area_size, hash_count, txns_of}

-- 'no transaction place free': fewer transactions than places
abbrev pub place_free : Store → Bool
place_free s = ltb (length (txns_of s.places)) s.settings.transactions

-- 'overlay after the write above its limit (4 bytes plus key and value for each entry, a replaced value counted no more)'
abbrev pub overlay_fits : Settings → List Pair → Bool
overlay_fits st own = leb (own_size own) st.overlay_bytes

-- 'hash new and set full': the set with the hash in it is within its room
abbrev pub set_fits : ℕ → List ℕ → Bool
set_fits room set = leb (length set) room

-- 'out buffer shorter than the answer'; an absent answer needs none
abbrev pub answer_size : Option Bytes → ℕ
answer_size none = 0
answer_size (some b) = length b

abbrev pub answer_fits : ℕ → Option Bytes → Bool
answer_fits room answer = leb (answer_size answer) room

abbrev pub pair_fits : ℕ → ℕ → Pair → Bool
pair_fits key_room value_room p = leb (length p.key) key_room && leb (length p.value) value_room

-- 'history after pruning plus the new entry above a limit'
abbrev pub history_fits : Settings → List Commit → Bool
history_fits st cs = leb (length cs) st.history_entries && leb (hash_count cs) st.history_hashes

-- 'active run (12 bytes plus key and value for each version) .. too small'
abbrev pub active_fits : Settings → Run → Bool
active_fits st r = leb (run_size r) st.active_bytes

-- 'run area (whole images) too small; a 17th run': opening and frozen runs together
abbrev pub runs_fit : Settings → List Run → Bool
runs_fit st rs = leb (length rs) most_runs && leb (area_size rs) st.area_bytes

-- 'opening runs over their limits': the images count whole
abbrev pub images_fit : Settings → List Bytes → Bool
images_fit st images = leb (length images) most_runs && leb (total length images) st.area_bytes

-- 'a reader table full for a new timestamp': the rows with a reader more at t
abbrev pub table_fits : ℕ → List Row → ℕ → Bool
table_fits room rows t = leb (length (add_reader t rows)) room

-- 'state buffer too short'
abbrev pub buffer_fits : Settings → ℕ → Bool
buffer_fits st room = leb (state_length st) room

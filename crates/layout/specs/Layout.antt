-- The layout of a store's state: its settings first, then a slot of a fixed width for each part.
-- Assumes nothing.
use Rattle.std.specs.Prelude.{ℕ, Bool, false, cond, List, [], ◌∷◌, ◌++◌, reverse, length, take, drop, leb}
use Rattle.std.proofs.Math.Option.{Option, none, some}
use Rattle.paper.specs.Keys.{Bytes, Version, Pair}
use Rattle.paper.specs.Runs.{Run}
use Rattle.paper.specs.Readers.{Row, row}
use Rattle.paper.specs.History.{Commit, make_commit}
use Rattle.paper.specs.Image.{record_bytes, one_record, image_of, Verdict, good, broken, foreign, verdict}
use Rattle.paper.specs.Settings.{Settings, state_length}
use Rattle.paper.specs.Store.{Txn, make_txn, Store, make_store, frozen_of}
use Rattle.paper.specs.Sound.{sound}
use Rattle.paper.specs.Refusals.{Try, stop, go}
use Rattle.paper.specs.Calls.{Reply, refused, Outcome, Call, tried}
use Rattle.layout.specs.Codec.{Stream, num, both, via, flag_number, flag, Whole, sized, plain, many, whole_via, Slot, room, beside, rows, optional, slot_via, map_option}
use Rattle.layout.specs.Offsets.{start_clock, width_rows, width_history, width_active, width_area, width_overlay, width_reads, width_writes}

-- ---- streams
-- the settings in 72 bytes: the mode, 1 where it is serializable, and the eight numbers, 8 bytes each
abbrev pub Numbers8 : Type 0
Numbers8 = ℕ × (ℕ × (ℕ × (ℕ × (ℕ × (ℕ × (ℕ × ℕ))))))

abbrev pub to_settings : Bool × Numbers8 → Settings
to_settings p =
    record {
      serializable = p.0;
      transactions = p.1.0;
      overlay_bytes = p.1.1.0;
      read_hashes = p.1.1.1.0;
      write_hashes = p.1.1.1.1.0;
      history_entries = p.1.1.1.1.1.0;
      history_hashes = p.1.1.1.1.1.1.0;
      active_bytes = p.1.1.1.1.1.1.1.0;
      area_bytes = p.1.1.1.1.1.1.1.1;
    }

abbrev pub from_settings : Settings → Bool × Numbers8
from_settings s =
    (s.serializable, (s.transactions, (s.overlay_bytes, (s.read_hashes, (s.write_hashes, (s.history_entries, (s.history_hashes, (s.active_bytes, s.area_bytes))))))))

abbrev pub n8 : Stream ℕ
n8 = num 8

unfoldable pub settings_stream : Stream Settings
settings_stream = via to_settings from_settings (both (flag 8) (both n8 (both n8 (both n8 (both n8 (both n8 (both n8 (both n8 n8))))))))

-- the nine numbers as they stand there
abbrev pub setting_numbers : Settings → List ℕ
setting_numbers s =
    flag_number s.serializable ∷ s.transactions ∷ s.overlay_bytes ∷ s.read_hashes ∷ s.write_hashes ∷ s.history_entries ∷ s.history_hashes ∷ s.active_bytes ∷ s.area_bytes ∷ []

-- values one after the other, with the number of their bytes in front
abbrev pub listed : {A : Type 0} → Stream A → Stream (List A)
listed S = sized 8 (many S)

-- a reader row: timestamp, count
unfoldable pub row_stream : Stream Row
row_stream = via (λ p. row p.0 p.1) (λ r. (r.time, r.count)) (both n8 n8)

-- hashes of 4 bytes, one after the other
abbrev pub hashes : Whole (List ℕ)
hashes = many (num 4)

abbrev pub hashes_stream : Stream (List ℕ)
hashes_stream = sized 8 hashes

-- a commit of the history: number, hashes
unfoldable pub commit_stream : Stream Commit
commit_stream = via (λ p. make_commit p.0 p.1) (λ c. (c.number, c.hashes)) (both n8 hashes_stream)

-- an entry of an overlay: key, value, each with its length in 2 bytes
unfoldable pub pair_stream : Stream Pair
pair_stream = via (λ p. record { key = p.0; value = p.1 }) (λ p. (p.key, p.value)) (both (sized 2 plain) (sized 2 plain))

-- a version, as in an image
unfoldable pub version_stream : Stream Version
version_stream = record { put = record_bytes; get = one_record }

abbrev pub run_of : Verdict → Option Run
run_of (good r) = some r
run_of broken = none
run_of foreign = none

unfoldable pub image : Whole Run
image = record { form = image_of; parse = λ s. run_of (verdict s) }

-- At most 16 images, each with its length, the last in run order first: so a run that is frozen goes behind the others, and none of them moves.
unfoldable pub images_whole : Whole (List Run)
images_whole = whole_via reverse reverse (many (sized 8 image))

abbrev pub images_stream : Stream (List Run)
images_stream = sized 8 images_whole

-- ---- the place of a transaction: handle, 0 where it is free; read number, open or closed; overlay; read and write sets
abbrev pub TxnParts : Type 0
TxnParts = (ℕ × Bool) × (List Pair × (List ℕ × List ℕ))

abbrev pub head_slot : Slot (ℕ × Bool)
head_slot = room 16 (both n8 (flag 8))

abbrev pub overlay_slot : Settings → Slot (List Pair)
overlay_slot s = room (width_overlay s) (listed pair_stream)

abbrev pub reads_slot : Settings → Slot (List ℕ)
reads_slot s = room (width_reads s) hashes_stream

abbrev pub writes_slot : Settings → Slot (List ℕ)
writes_slot s = room (width_writes s) hashes_stream

unfoldable pub txn_slot : Settings → Slot TxnParts
txn_slot s = beside head_slot (beside (overlay_slot s) (beside (reads_slot s) (writes_slot s)))

abbrev pub to_txn : Option (ℕ × TxnParts) → Option Txn
to_txn none = none
to_txn (some p) = some (make_txn p.0 p.1.0.0 p.1.0.1 p.1.1.0 p.1.1.1.0 p.1.1.1.1)

abbrev pub from_txn : Option Txn → Option (ℕ × TxnParts)
from_txn none = none
from_txn (some t) = some (t.handle, ((t.read, t.open?), (t.own, (t.reads, t.writes))))

-- what stands in front of a place
abbrev pub tag_of : Option Txn → ℕ
tag_of none = 0
tag_of (some t) = t.handle

unfoldable pub place_slot : Settings → Slot (Option Txn)
place_slot s = slot_via to_txn from_txn (optional (txn_slot s))

-- ---- the parts after the settings
unfoldable pub settings_slot : Slot Settings
settings_slot = room start_clock settings_stream

unfoldable pub number_slot : Slot ℕ
number_slot = room 8 n8

unfoldable pub rows_slot : Settings → Slot (List Row)
rows_slot s = room (width_rows s) (listed row_stream)

unfoldable pub history_slot : Settings → Slot (List Commit)
history_slot s = room (width_history s) (listed commit_stream)

unfoldable pub active_slot : Settings → Slot Run
active_slot s = room (width_active s) (listed version_stream)

unfoldable pub frozen_slot : Settings → Slot (List Run)
frozen_slot s = room (width_area s) images_stream

unfoldable pub places_slot : Settings → Slot (List (Option Txn))
places_slot s = rows s.transactions (place_slot s)

abbrev pub Parts : Type 0
Parts = ℕ × (ℕ × (List Row × (List Commit × (Run × (List Run × List (Option Txn))))))

unfoldable pub parts_slot : Settings → Slot Parts
parts_slot s = beside number_slot (beside number_slot (beside (rows_slot s) (beside (history_slot s) (beside (active_slot s) (beside (frozen_slot s) (places_slot s))))))

abbrev pub to_store : Settings → Parts → Store
to_store s p = make_store s p.0 p.1.0 p.1.1.1.1.1.1 p.1.1.0 p.1.1.1.0 p.1.1.1.1.0 p.1.1.1.1.1.0

abbrev pub parts_of : Store → Parts
parts_of s = (s.clock, (s.counter, (s.readers, (s.history, (s.active, (frozen_of s, s.places))))))

-- ---- the state
-- the bytes of the parts, behind the settings
abbrev pub parts_in : Settings → Bytes → Bytes
parts_in s b = take (parts_slot s).width (drop start_clock b)

abbrev pub behind : Settings → Bytes → Bytes
behind s b = drop (parts_slot s).width (drop start_clock b)

abbrev pub with_settings : Bytes → Option Settings → Option Store
with_settings b none = none
with_settings b (some s) = cond (leb (state_length s) (length b)) (map_option (to_store s) ((parts_slot s).read (parts_in s b))) none

-- the settings in front
unfoldable pub settings_in : Bytes → Option Settings
settings_in b = settings_slot.read (take start_clock b)

-- the store that a state holds; none where the settings are no settings, 'the buffer' is not 'long enough for them', or a part does not read
unfoldable pub read_store : Bytes → Option Store
read_store b = with_settings b (settings_in b)

-- the store is written over the old bytes; what it does not use keeps what it had
unfoldable pub write_store : Store → Bytes → Bytes
write_store s b =
    settings_slot.write s.settings (take start_clock b)
    ++ ((parts_slot s.settings).write (parts_of s) (parts_in s.settings b) ++ behind s.settings b)

-- ---- a call on a state: the reply, and the bytes after it
-- a store that breaks the state rules: its settings are in no range
abbrev pub no_store : Store
no_store = make_store (record { serializable = false; transactions = 0; overlay_bytes = 0; read_hashes = 0; write_hashes = 0; history_entries = 0; history_hashes = 0; active_bytes = 0; area_bytes = 0 }) 0 0 [] [] [] [] []

abbrev pub or_no_store : Option Store → Store
or_no_store none = no_store
or_no_store (some s) = s

-- the store in the bytes, unsound where they read as none
unfoldable pub store_in : Bytes → Store
store_in b = or_no_store (read_store b)

-- 9 is given exactly where this is false
unfoldable pub sound_state : Bytes → Bool
sound_state b = sound (store_in b)

-- 'refusals write nothing to any lent buffer; 6 alone marks its transaction closed': else the store after the call is written
abbrev pub settled_on : Bytes → Try Outcome → Reply × Bytes
settled_on b (stop r) = (refused r, b)
settled_on b (go o) = (o.reply, write_store o.store b)

unfoldable pub on_bytes : Call → Bytes → Reply × Bytes
on_bytes c b = settled_on b (tried (store_in b) c)

-- A transaction's place: the transaction in its bytes, and its overlay and sets where they lie.
-- Assumes nothing.
use Prim.Native.Nat.{ℕ, ◌+◌, ◌/◌, compare}
use Rattle.std.specs.Prelude.{Bool, false, ◌&&◌, List, [], ◌∷◌, length, leb}
use Rattle.std.proofs.Math.Option.{Option, none, some}
use Rattle.paper.specs.Lists.{all, rises, hold_all}
use Rattle.paper.specs.Keys.{Bytes, Pair, cmp_pair}
use Rattle.paper.specs.Image.{number_from}
use Rattle.paper.specs.Settings.{Settings}
use Rattle.paper.specs.Store.{Txn, make_txn}
use Rattle.paper.specs.Sound.{sound_pair}
use Rattle.raw.specs.Bytes.{part}
use Rattle.layout.specs.Codec.{Slot}
use Rattle.layout.specs.Offsets.{place_overlay, place_reads, place_writes, stride}
use Rattle.layout.specs.Layout.{place_slot}
use Rattle.overlay.specs.Overlay.{own_in, overlay_in}
use Rattle.sets.specs.Sets.{hashes_in}
use Rattle.settings.specs.declared.Shape.{Shape}
use Rattle.txn.specs.declared.Rooms.{Rooms}

-- the settings that a place goes by: the mode, and the room of its overlay and sets
abbrev pub settings_of : Bool → Rooms → Settings
settings_of serializable r =
    record {
      serializable = serializable;
      transactions = 0;
      overlay_bytes = r.own;
      read_hashes = r.reads;
      write_hashes = r.writes;
      history_entries = 0;
      history_hashes = 0;
      active_bytes = 0;
      area_bytes = 0;
    }

-- and the rooms that a store's settings grant
abbrev pub rooms_of : Settings → Rooms
rooms_of s = record { own = s.overlay_bytes; reads = s.read_hashes; writes = s.write_hashes; serializable = s.serializable }

-- the same of a state, by its shape
abbrev pub rooms_in : Shape → Rooms
rooms_in z = record { own = z.own; reads = z.reads; writes = z.writes; serializable = z.serializable }

-- how a place is read and written, and how long it is: the mode has no part in either
abbrev pub place_of : Rooms → Slot (Option Txn)
place_of r = place_slot (settings_of false r)

abbrev pub stride_of : Rooms → ℕ
stride_of r = stride (settings_of false r)

abbrev pub reads_at : Rooms → ℕ
reads_at r = place_reads (settings_of false r)

abbrev pub writes_at : Rooms → ℕ
writes_at r = place_writes (settings_of false r)

-- ---- the transaction
-- what stands where there is no transaction
abbrev pub no_txn : Txn
no_txn = make_txn 0 0 false [] [] []

abbrev pub txn_or : Option (Option Txn) → Txn
txn_or none = no_txn
txn_or (some none) = no_txn
txn_or (some (some t)) = t

-- the transaction in a place
unfoldable pub txn_in : Rooms → Bytes → Txn
txn_in r b = txn_or ((place_of r).read b)

abbrev pub orderly_txn : Option (Option Txn) → Bool
orderly_txn none = false
orderly_txn (some none) = false
orderly_txn (some (some t)) =
    hold_all (rises cmp_pair t.own ∷ all sound_pair t.own ∷ rises compare t.reads ∷ rises compare t.writes ∷ [])

-- the place holds a transaction, its overlay and its sets rise, and its entries are sound: so it is in every sound state
unfoldable pub orderly : Rooms → Bytes → Bool
orderly r b = orderly_txn ((place_of r).read b)

-- ---- its overlay and its sets, each with the number of its bytes in front
abbrev pub used_at : Bytes → ℕ → ℕ
used_at b at = number_from 0 (part b at 8)

abbrev pub own_start : ℕ
own_start = place_overlay + 8

abbrev pub own_end : Bytes → ℕ
own_end b = own_start + used_at b place_overlay

abbrev pub own_of : Bytes → List Pair
own_of b = own_in b own_start (own_end b)

-- the overlay lies in the place, and is one
unfoldable pub own_held : Bytes → Bool
own_held b = leb (own_end b) (length b) && overlay_in b own_start (own_end b)

abbrev pub set_count : Bytes → ℕ → ℕ
set_count b at = used_at b at / 4

abbrev pub set_of : Bytes → ℕ → List ℕ
set_of b at = hashes_in b (at + 8) (set_count b at)

-- the set at an index lies in the place, and rises
unfoldable pub set_held : Bytes → ℕ → Bool
set_held b at = leb (at + 8 + used_at b at) (length b) && rises compare (set_of b at)

-- The state rules of one place, part by part, as the bytes of the part are read.
-- Assumes nothing.
use Rattle.std.specs.Prelude.{ℕ, ◌+◌, ◌*◌, Bool, true, false, ◌&&◌, leb}
use Rattle.std.proofs.Math.Option.{Option, none, some}
use Rattle.paper.specs.Lists.{all, rises}
use Rattle.paper.specs.Keys.{Bytes, cmp_pair}
use Rattle.paper.specs.Settings.{Settings}
use Rattle.paper.specs.Store.{Txn, own_size}
use Rattle.paper.specs.Sound.{sound_pair, sound_set, sound_txn}
use Rattle.raw.specs.Bytes.{part}
use Rattle.layout.specs.Codec.{room}
use Rattle.layout.specs.Offsets.{place_read, place_overlay, width_overlay, place_reads, place_writes}
use Rattle.layout.specs.Layout.{hashes_stream, head_slot, overlay_slot, place_slot}

-- what was read passes a test
abbrev pub passes : {A : Type 0} → (A → Bool) → Option A → Bool
passes f none = false
passes f (some a) = f a

-- a free place keeps the rules
abbrev pub place_passes : Settings → ℕ → ℕ → Option Txn → Bool
place_passes st counter clock none = true
place_passes st counter clock (some t) = sound_txn st counter clock t

-- the place reads, and a transaction in it keeps every rule
unfoldable pub place_sound : Settings → ℕ → ℕ → Bytes → Bool
place_sound st counter clock b = passes (place_passes st counter clock) ((place_slot st).read b)

-- ---- part by part
-- 'handles .. from 1 to the counter', 'every .. read number .. at or below the clock'
unfoldable pub head_sound : ℕ → ℕ → ℕ → Bytes → Bool
head_sound handle counter clock b = passes (λ p. leb 1 handle && (leb handle counter && leb p.0 clock)) (head_slot.read (part b place_read 16))

-- 'overlays strictly rising and within room'
unfoldable pub own_sound : Settings → Bytes → Bool
own_sound st b =
    passes (λ own. rises cmp_pair own && (all sound_pair own && leb (own_size own) st.overlay_bytes)) ((overlay_slot st).read (part b place_overlay (width_overlay st)))

-- the bytes of a set in room for so many hashes
abbrev pub set_width : ℕ → ℕ
set_width count = 8 + 4 * count

-- 'sets without repeats; .. in the other mode sets .. are empty': the set at an index
unfoldable pub set_sound : Bool → ℕ → ℕ → Bytes → Bool
set_sound serializable count at b = passes (sound_set serializable count) ((room (set_width count) hashes_stream).read (part b at (set_width count)))

-- the rules that look at one part alone
unfoldable pub parts_sound : Settings → ℕ → ℕ → ℕ → Bytes → Bool
parts_sound st handle counter clock b =
    head_sound handle counter clock b
    && (own_sound st b && (set_sound st.serializable st.read_hashes (place_reads st) b && set_sound st.serializable st.write_hashes (place_writes st) b))

-- What a caller with a store's settings wants: its places are those of the rooms that it grants, and what is required of a place
-- holds in a sound store.
-- Assumes nothing.
use mathlib.Core.Path.{◌≡◌, refl, sym, ap, ◌∙◌}
use mathlib.Core.Bool.{true, false}
use mathlib.Core.Option.{Option, none, some}
use Prim.Native.Nat.{ℕ}
use lib.ListN.{length}
use Rattle.paper.specs.Keys.{Bytes}
use Rattle.paper.specs.Image.{big_endian}
use Rattle.paper.specs.Settings.{Settings}
use Rattle.paper.specs.Store.{Txn, closed}
use Rattle.paper.specs.Sound.{txn_rules, sound_txn}
use Rattle.raw.specs.Bytes.{over}
use Rattle.raw.proofs.Over.{over-front}
use Rattle.layout.specs.Codec.{Slot, flag_number, write_named, optional, slot_via}
use Rattle.layout.specs.Offsets.{place_mark}
use Rattle.layout.specs.Layout.{txn_slot, tag_of, place_slot}
use Rattle.layout.proofs.Sides.{Has}
use Rattle.layout.proofs.LayoutLaws.{place-width}
use Rattle.layout.proofs.Places.{place-closed}
use Rattle.txn.specs.Place.{settings_of, rooms_of, place_of, stride_of, txn_in, orderly, own_of, own_held}
use Rattle.txn.specs.Checks.{passes, place_passes, place_sound}
use Rattle.txn.proofs.Holding.{held, orderly-sound, own_is, own_held_lem}

module _ (st : Settings) where
  -- the same slot
  pub slot_same : place_slot st ≡ place_of (rooms_of st)
  unfolding place_slot txn_slot
  slot_same = refl

  -- the same verdict
  pub sound-same : (counter clock : ℕ) (q : Bytes) → place_sound (settings_of st.serializable (rooms_of st)) counter clock q ≡ place_sound st counter clock q
  unfolding place_sound place_slot txn_slot sound_txn txn_rules
  sound-same counter clock q = go ((place_slot st).read q)
    where
      go : (o : Option (Option Txn)) → passes (place_passes (settings_of st.serializable (rooms_of st)) counter clock) o ≡ passes (place_passes st counter clock) o
      go none = refl
      go (some none) = refl
      go (some (some t)) = refl

  -- 'handle 0' is a free place
  pub freed : (q : Bytes) → over q 0 (big_endian 8 (tag_of none)) ≡ (place_slot st).write none q
  unfolding place_slot slot_via optional write_named big_endian
  freed q = over-front q (big_endian 8 0)

  module _ (q : Bytes) (t : Txn) (h : Has (place_slot st) q (some t)) where
    -- the mark alone is a closed transaction
    pub closed_is : over q place_mark (big_endian 8 (flag_number false)) ≡ (place_slot st).write (some (closed t)) q
    closed_is = sym (place-closed st q t h)

    pub place-long : length q ≡ stride_of (rooms_of st)
    place-long = h.long ∙ place-width st

    module _ (counter clock : ℕ) (s : sound_txn st counter clock t ≡ true) where
      read_here : (place_of (rooms_of st)).read q ≡ some (some t)
      read_here = ap (λ (S : Slot (Option Txn)). S.read q) (sym slot_same) ∙ h.read

      pub steady : orderly (rooms_of st) q ≡ true
      steady = (orderly-sound st counter clock (rooms_of st) q t read_here s).0

      pub txn-is : txn_in (rooms_of st) q ≡ t
      txn-is = (orderly-sound st counter clock (rooms_of st) q t read_here s).1

      -- what is asked of a place to read and write its own writes
      pub own-ready : (own_held q ≡ true) × (own_of q ≡ t.own)
      own-ready =
          let H = held (rooms_of st) q h.bytes place-long steady in
          (own_held_lem (rooms_of st) q place-long H, own_is (rooms_of st) q place-long H ∙ ap (λ (u : Txn). u.own) txn-is)

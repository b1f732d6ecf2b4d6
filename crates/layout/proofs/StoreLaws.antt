-- The laws of a state: a store that was read is written back without a change, one that is written is read, and the length stays.
-- Assumes nothing.
use Prim.Native.Nat.{ℕ, ◌-◌, ◌≤◌}
use native.Mathlib.Omega.{arith}
use mathlib.Core.Path.{◌≡◌, refl, sym, ap, ap₂, ◌∙◌, subst}
use mathlib.Core.Bool.{Bool, true, false, cond}
use mathlib.Core.List.{◌++◌}
use mathlib.Core.Option.{Option, none, some, none-ne-some, some-injective}
use lib.ListN.{length, take, drop, length-append, length-drop, take-append-drop}
use lib.Seq.{length-take-le, take_at, drop_at}
use lib.Dec.{leb}
use borrow.Author.Tests.{leb-true, le-leb}
use Rattle.paper.specs.Keys.{Bytes, octets}
use Rattle.paper.specs.Settings.{Settings, state_length}
use Rattle.paper.specs.Store.{Store}
use Rattle.raw.proofs.Parts.{length_part}
use Rattle.raw.proofs.Octets.{octets-take, octets-part}
use Rattle.layout.specs.Codec.{map_option}
use Rattle.layout.specs.Offsets.{start_clock}
use Rattle.layout.specs.Layout.{settings_slot, Parts, parts_slot, to_store, parts_of, parts_in, behind, with_settings, settings_in, read_store, write_store, or_no_store, store_in}
use Rattle.layout.proofs.Slots.{kept-as}
use Rattle.layout.proofs.LayoutLaws.{OkSet, settings-slot, OkParts, parts_laws, Fits, fit_parts, parts-fit, settings-width, width_is}

-- the bytes b hold the store s
pub record Held (b : Bytes) (s : Store) : Type 0 where
  pub enough : state_length s.settings ≤ length b
  pub settings : settings_in b ≡ some s.settings
  pub parts : (parts_slot s.settings).read (parts_in s.settings b) ≡ some (parts_of s)

pub held : (b : Bytes) (s : Store) → read_store b ≡ some s → Held b s
unfolding read_store
held b s = go (settings_in b) refl
  where
    all : (st : Settings) → settings_in b ≡ some st → (t : Bool) → leb (state_length st) (length b) ≡ t → (o : Option Parts) → (parts_slot st).read (parts_in st b) ≡ o
        → cond t (map_option (to_store st) o) none ≡ some s → Held b s
    all st e true l none f g = absurd (none-ne-some s g)
    all st e true l (some p) f g = subst (Held b) (some-injective (to_store st p) s g) (record { enough = leb-true _ _ l; settings = e; parts = f })
    all st e false l o f g = absurd (none-ne-some s g)

    go : (o : Option Settings) → settings_in b ≡ o → with_settings b o ≡ some s → Held b s
    go none e f = absurd (none-ne-some s f)
    go (some st) e f = all st e (leb (state_length st) (length b)) refl ((parts_slot st).read (parts_in st b)) refl f

pub read_held : (b : Bytes) (s : Store) → Held b s → read_store b ≡ some s
unfolding read_store
read_held b s h = simp (h.settings, le-leb (state_length s.settings) (length b) h.enough, h.parts)

pub in-read : (b : Bytes) (s : Store) → read_store b ≡ some s → store_in b ≡ s
unfolding store_in
in-read b s e = ap or_no_store e

-- ---- lengths of the settings and of the parts
module _ (st : Settings) (b : Bytes) (l : state_length st ≤ length b) where
  pub settings-long : length (take start_clock b) ≡ settings_slot.width
  settings-long = length-take-le start_clock b (omega (arith, width_is st)) ∙ sym settings-width

  pub parts-long : length (parts_in st b) ≡ (parts_slot st).width
  parts-long = length_part b start_clock (parts_slot st).width (omega (arith, width_is st))

-- ---- a store that was read
-- what was read is written back without a change, and fits
module _ (b : Bytes) (s : Store) (o : octets b ≡ true) (e : read_store b ≡ some s) where
  settings-kept : (settings_slot.write s.settings (take start_clock b) ≡ take start_clock b) × OkSet s.settings
  unfolding settings_in
  settings-kept = kept-as settings-slot (take start_clock b) s.settings (octets-take start_clock b o) (settings-long s.settings b (held b s e).enough) (held b s e).settings

  parts-kept : ((parts_slot s.settings).write (parts_of s) (parts_in s.settings b) ≡ parts_in s.settings b) × OkParts s.settings (parts_of s)
  parts-kept = kept-as (parts_laws s.settings) (parts_in s.settings b) (parts_of s) (octets-part b start_clock (parts_slot s.settings).width o) (parts-long s.settings b (held b s e).enough) (held b s e).parts

  pub write_read : write_store s b ≡ b
  unfolding write_store
  write_read =
      ap₂ (λ (u v : Bytes). u ++ (v ++ behind s.settings b)) settings-kept.0 parts-kept.0
      ∙ ap (λ (u : Bytes). take start_clock b ++ u) (take-append-drop (parts_slot s.settings).width (drop start_clock b))
      ∙ take-append-drop start_clock b

  pub read_fits : Fits s
  read_fits = parts-fit s settings-kept.1 parts-kept.1

-- ---- a store that is written
module _ (s : Store) (b : Bytes) (l : state_length s.settings ≤ length b) (f : Fits s) where
  front : Bytes
  front = settings_slot.write s.settings (take start_clock b)

  middle : Bytes
  middle = (parts_slot s.settings).write (parts_of s) (parts_in s.settings b)

  front_long : length front ≡ start_clock
  unfolding front
  front_long = settings-slot.long (take start_clock b) s.settings (settings-long s.settings b l) f.settings ∙ settings-width

  middle-long : length middle ≡ (parts_slot s.settings).width
  unfolding middle
  middle-long = (parts_laws s.settings).long (parts_in s.settings b) (parts_of s) (parts-long s.settings b l) (fit_parts s f)

  pub fits-length : length (write_store s b) ≡ length b
  unfolding write_store front middle
  fits-length =
      let w : ℕ = (parts_slot s.settings).width in
      let p = front_long in
      let q = middle-long in
      let r : length (behind s.settings b) ≡ length b - start_clock - w = length-drop w (drop start_clock b) ∙ ap (λ (n : ℕ). n - w) (length-drop start_clock b) in
      simp length-append (omega (arith, width_is s.settings))

  settings-back : settings_in (write_store s b) ≡ some s.settings
  unfolding settings_in write_store front middle
  settings-back =
      ap settings_slot.read (take_at front (middle ++ behind s.settings b) start_clock front_long)
      ∙ settings-slot.back (take start_clock b) s.settings (settings-long s.settings b l) f.settings

  parts-back : (parts_slot s.settings).read (parts_in s.settings (write_store s b)) ≡ some (parts_of s)
  unfolding write_store front middle
  parts-back =
      ap (λ (u : Bytes). (parts_slot s.settings).read (take (parts_slot s.settings).width u)) (drop_at front (middle ++ behind s.settings b) start_clock front_long)
      ∙ ap (parts_slot s.settings).read (take_at middle (behind s.settings b) (parts_slot s.settings).width middle-long)
      ∙ (parts_laws s.settings).back (parts_in s.settings b) (parts_of s) (parts-long s.settings b l) (fit_parts s f)

  pub fits_read : read_store (write_store s b) ≡ some s
  fits_read = read_held (write_store s b) s (record { enough = rw fits-length l; settings = settings-back; parts = parts-back })

-- What a search among the places says of the store.
-- Assumes nothing.
use Rattle.std.specs.Prelude.{Option as Found, None, Some, ◌==◌}
use Prim.Native.Nat.{ℕ, ◌+◌, ◌*◌, ◌/◌, ◌<◌, ◌≤◌}
use native.Mathlib.Omega.{arith}
use mathlib.Core.Path.{◌≡◌, refl, sym, ap, ap₂, ◌∙◌}
use mathlib.Core.Bool.{Bool, true, false}
use mathlib.Core.Option.{some}
use lib.ListN.{length, get_or}
use Rattle.std.proofs.Common.{Fits, w8}
use Rattle.raw.proofs.Octets.{octets-of}
use Rattle.paper.specs.Keys.{Bytes, octets}
use Rattle.paper.specs.Image.{number_from}
use Rattle.paper.specs.Lists.{is_some}
use Rattle.paper.specs.Settings.{Settings, in_ranges}
use Rattle.paper.specs.Store.{Store, find_txn}
use Rattle.raw.specs.Bytes.{part}
use Rattle.layout.specs.Codec.{flag_number}
use Rattle.layout.specs.Offsets.{place_at, places_part}
use Rattle.layout.specs.Layout.{settings_in, read_store, store_in, sound_state}
use Rattle.paper.proofs.SoundLaws.{rules}
use Rattle.layout.proofs.SoundState.{sound-read, sound-enough, sound-in}
use Rattle.layout.proofs.Inside as inside
use Rattle.layout.proofs.Changes.{place_end}
use Rattle.table.specs.Places.{found_in}
use Rattle.table.proofs.PlacesLie as lie
use Rattle.settings.specs.declared.Shape.{Shape}
use Rattle.settings.specs.Shapes.{shape_of}
use Rattle.settings.proofs.Shapes.{Shaped, shaped}
use Rattle.settings.proofs.Reading.{sound-ready, ready-some}
use Rattle.seat.specs.Seats.{Seated, SeatTold}

-- the mark is 1 exactly where the transaction is open
-- what is known of a slice of bytes
pub bytes_known : (s : Bytes) → ((i : ℕ) → Fits w8 (get_or s i 0)) → octets s ≡ true
bytes_known s h = octets-of s (λ i. omega (arith, h i))

flag_mark : (x : Bool) → (flag_number x == 1) ≡ x
flag_mark true = refl
flag_mark false = refl

module _ (b : Bytes) (o : octets b ≡ true) (h : sound_state b ≡ true) where
  abbrev s : Store
  s = store_in b

  abbrev st : Settings
  st = s.settings

  here : read_store b ≡ some s
  here = sound-read b h

  -- a shape that is that of the state
  pub shape-fits : (z : Shape) → z ≡ shape_of (store_in b).settings → Shaped (store_in b).settings z
  shape-fits z e = shaped st (rules s (sound-in b h)).ranges z e

  -- the slice of the places, as code lends it
  pub places-lent : (z : Shape) → z ≡ shape_of (store_in b).settings → part b z.places (z.count * z.stride) ≡ places_part (store_in b).settings b
  places-lent z e = let S = shape-fits z e in ap₂ (part b) S.places (ap₂ (λ (n w : ℕ). n * w) S.count S.stride)

  module _ (z : Shape) (e : z ≡ shape_of (store_in b).settings) (q : Bytes) (lent : q ≡ part b z.places (z.count * z.stride)) (handle : ℕ) (k : handle ≡ 0 → ⊥) where
    sought : (r : Found ℕ) → r ≡ found_in q 0 z.stride (length q / z.stride) handle → lie.TxnFound st b s.places (inside.lies b s o here).places handle r
    sought r f =
        let S : Shaped st z = shape-fits z e in
        let h : 0 < handle = omega arith in
        lie.txn-found st b s.places (inside.lies b s o here).places handle h r (f ∙ ap₂ (λ (u : Bytes) (w : ℕ). found_in u 0 w (length u / w) handle) (lent ∙ places-lent z e) S.stride)

    -- no place has the handle
    pub seat-missing : None ≡ found_in q 0 z.stride (length q / z.stride) handle → SeatTold (store_in b) handle None
    seat-missing f = sought None f

    module _ (i : ℕ) (f : Some i ≡ found_in q 0 z.stride (length q / z.stride) handle) where
      there : lie.TxnAt handle s.places i
      there = sought (Some i) f

      nearby : z.places + i * z.stride ≡ place_at st i
      nearby = let S = shape-fits z e in ap₂ (λ (n w : ℕ). n + i * w) S.places S.stride

      pub seat-small : z.places + i * z.stride < 134217728
      seat-small = let S = shape-fits z e in omega (arith, nearby, place_end st i (omega (arith, there.inside, lie.count-is st b s.places (inside.lies b s o here).places)), S.small)

    module _ (i : ℕ) (f : Some i ≡ found_in q 0 z.stride (length q / z.stride) handle) (at : ℕ) (a : at ≡ z.places + i * z.stride) where
      found : (at ≡ place_at st i) × lie.TxnAt handle s.places i
      found = (a ∙ nearby i f, there i f)

      among : i < st.transactions
      among = omega (arith, found.1.inside, lie.count-is st b s.places (inside.lies b s o here).places)

      -- the place is one of the state's
      pub seat-inside : (at + 24 ≤ length b) × (at + 24 ≤ 134217728)
      seat-inside = let S = shape-fits z e in (omega (arith, found.0, place_end st i among, sound-enough b h), omega (arith, found.0, place_end st i among, S.small))

      mark-is : (m : ℕ) → m ≡ number_from 0 (part b (at + 16) 8) → m ≡ flag_number found.1.txn.open?
      mark-is m e₁ = e₁ ∙ ap (λ (n : ℕ). number_from 0 (part b (n + 16) 8)) found.0 ∙ inside.mark-at b s o here i among found.1.txn found.1.there

      -- what stands behind the handle there
      pub seat-there : (read m : ℕ) → read ≡ number_from 0 (part b (at + 8) 8) → m ≡ number_from 0 (part b (at + 16) 8) → Seated (store_in b) handle at read (m == 1)
      seat-there read m e₁ e₂ =
          record {
            index = i;
            txn = found.1.txn;
            inside = among;
            start = found.0;
            here = found.1.there;
            handle = found.1.handle;
            found = found.1.found;
            put = found.1.put;
            reads = sym (e₁ ∙ ap (λ (n : ℕ). number_from 0 (part b (n + 8) 8)) found.0 ∙ inside.read_at b s o here i among found.1.txn found.1.there);
            marked = sym (ap (λ (n : ℕ). n == 1) (mark-is m e₂) ∙ flag_mark found.1.txn.open?);
          }

  -- 'handles are numbers from 1'
  pub seat-zero : (handle : ℕ) → handle ≡ 0 → SeatTold (store_in b) handle None
  seat-zero handle q = ap (λ (n : ℕ). find_txn n s.places) q ∙ lie.none-zero s.places (lie.ok-handles st b s.places (inside.lies b s o here).places)

  -- the places lie in the state
  pub shape-room : (z : Shape) → z ≡ shape_of (store_in b).settings → (z.places + z.count * z.stride ≤ length b) × (8 ≤ z.stride)
  shape-room z e = let S = shape-fits z e in (omega (arith, S.places-wide, sound-enough b h), omega (arith, S.place-wide))

-- ---- the settings of a sound state
module _ (b : Bytes) (h : sound_state b ≡ true) where
  pub settings-there : is_some (settings_in b) ≡ true
  settings-there = ready-some b (store_in b).settings (sound-ready b h)

  module _ (st : Settings) (e : some st ≡ settings_in b) where
    same : st ≡ (store_in b).settings
    same = let f : some st ≡ some (store_in b).settings = e ∙ (sound-ready b h).read in cc

    pub settings-ranged : in_ranges st ≡ true
    settings-ranged = ap in_ranges same ∙ (sound-ready b h).ranges

    pub shape-there : (z : Shape) → z ≡ shape_of st → z ≡ shape_of (store_in b).settings
    shape-there z f = f ∙ ap shape_of same

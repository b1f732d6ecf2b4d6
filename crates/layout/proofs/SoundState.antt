-- The laws of a sound store's state: written, it is read again, and the buffer keeps its length; and what a state is that reads as no sound store.
-- Assumes nothing.
use Prim.Native.Nat.{ℕ, ◌≤◌}
use native.Mathlib.Omega.{arith}
use mathlib.Core.Path.{◌≡◌, refl, sym, ap, ◌∙◌}
use mathlib.Core.Bool.{true, false}
use mathlib.Core.Option.{Option, none, some}
use lib.ListN.{length}
use Rattle.paper.specs.Keys.{Bytes, octets}
use Rattle.paper.specs.Lists.{all, hold_all}
use Rattle.paper.specs.Settings.{state_length, ranges, in_ranges}
use Rattle.paper.specs.Store.{Store}
use Rattle.paper.specs.Sound.{state_rules, sound}
use Rattle.layout.specs.Layout.{read_store, write_store, no_store, or_no_store, store_in, sound_state}
use Rattle.layout.proofs.StoreLaws.{Held, held, in-read, write_read, fits-length, fits_read}
use Rattle.layout.proofs.SoundFits.{sound-fits}

-- ---- a sound store, written over bytes that are long enough
module _ (s : Store) (b : Bytes) (h : sound s ≡ true) (l : state_length s.settings ≤ length b) where
  pub write-length : length (write_store s b) ≡ length b
  write-length = fits-length s b l (sound-fits s h)

  pub read-written : read_store (write_store s b) ≡ some s
  read-written = fits_read s b l (sound-fits s h)

  pub in-written : store_in (write_store s b) ≡ s
  in-written = in-read (write_store s b) s read-written

  pub sound-written : sound_state (write_store s b) ≡ true
  unfolding sound_state
  sound-written = ap sound in-written ∙ h

-- ---- no store
pub no_store-unsound : sound no_store ≡ false
unfolding sound state_rules hold_all in_ranges ranges all
no_store-unsound = refl

-- a state that is sound holds a store
pub sound-read : (b : Bytes) → sound_state b ≡ true → read_store b ≡ some (store_in b)
unfolding sound_state store_in
sound-read b = go (read_store b) refl
  where
    go : (o : Option Store) → read_store b ≡ o → sound (or_no_store o) ≡ true → o ≡ some (or_no_store o)
    go none e h = absurd (let z : false ≡ true = sym no_store-unsound ∙ h in let y : ◌≡◌ {A = ℕ} 0 1 = cc in omega arith)
    go (some s) e h = refl

pub sound-held : (b : Bytes) → sound_state b ≡ true → Held b (store_in b)
sound-held b h = held b (store_in b) (sound-read b h)

pub sound-enough : (b : Bytes) → sound_state b ≡ true → state_length (store_in b).settings ≤ length b
sound-enough b h = (sound-held b h).enough

pub sound-in : (b : Bytes) → sound_state b ≡ true → sound (store_in b) ≡ true
unfolding sound_state
sound-in b h = h

-- and it is what its store is written as
pub sound-again : (b : Bytes) → octets b ≡ true → sound_state b ≡ true → write_store (store_in b) b ≡ b
sound-again b o h = write_read b (store_in b) o (sound-read b h)

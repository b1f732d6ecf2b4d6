-- How a call ends, as a host sees it: each return of a call's code is one of these.
-- Assumes nothing.
use mathlib.Core.Path.{◌≡◌, ap, subst}
use mathlib.Core.Bool.{true, false}
use Rattle.paper.specs.Keys.{Bytes}
use Rattle.paper.specs.Refusals.{Refusal, unsound, stop, go}
use Rattle.paper.specs.Calls.{Reply, refused, Outcome, Call, tried, of_bytes, value_out, key_out}
use Rattle.paper.specs.Sound.{sound}
use Rattle.paper.proofs.SoundLaws.{After}
use Rattle.paper.proofs.CallSound.{tried-sound}
use Rattle.layout.specs.Layout.{write_store, store_in, sound_state, on_bytes}
use Rattle.layout.specs.Runs.{is_opening}
use Rattle.layout.proofs.LayoutLaws.{Fits}
use Rattle.layout.proofs.SoundFits.{sound-fits}
use Rattle.layout.proofs.CallBytes.{on_bytes-refused, on_bytes-done, on_bytes-unsound}
use Rattle.reply.specs.Told.{told, why}
use Rattle.reply.specs.OnBytes.{heard, told_on, value_on, key_on}

module _ (c : Call) (b : Bytes) where
  heard-as : (r : Reply) (a : Bytes) → on_bytes c b ≡ (r, a) → told_on c b ≡ (told r, a)
  unfolding told_on
  heard-as r a e = ap heard e

  out-as : (r : Reply) (a : Bytes) → on_bytes c b ≡ (r, a) → (out : Bytes) → value_on c b out ≡ value_out r out
  unfolding value_on
  out-as r a e out = ap (λ (p : Reply × Bytes). value_out p.0 out) e

  key-as : (r : Reply) (a : Bytes) → on_bytes c b ≡ (r, a) → (out : Bytes) → key_on c b out ≡ key_out r out
  unfolding key_on
  key-as r a e out = ap (λ (p : Reply × Bytes). key_out p.0 out) e

  -- refused: no byte changes
  module _ (r : Refusal) (e : tried (store_in b) c ≡ stop r) where
    pub refused-told : told_on c b ≡ (why r, b)
    unfolding told
    refused-told = heard-as (refused r) b (on_bytes-refused c b r e)

    pub refused-value : (out : Bytes) → value_on c b out ≡ out
    unfolding value_out
    refused-value = out-as (refused r) b (on_bytes-refused c b r e)

    pub refused-key : (out : Bytes) → key_on c b out ≡ out
    unfolding key_out
    refused-key = key-as (refused r) b (on_bytes-refused c b r e)

  -- done: the store after the call is written, and the answer's bytes
  module _ (o : Outcome) (e : tried (store_in b) c ≡ go o) where
    pub done-told : told_on c b ≡ (told o.reply, write_store o.store b)
    done-told = heard-as o.reply (write_store o.store b) (on_bytes-done c b o e)

    pub done-value : (out : Bytes) → value_on c b out ≡ value_out o.reply out
    done-value = out-as o.reply (write_store o.store b) (on_bytes-done c b o e)

    -- that store is sound, and so it fits its layout
    pub done-fits : of_bytes c ≡ true → Fits o.store
    unfolding After
    done-fits k = sound-fits o.store (subst (After (λ x. sound x ≡ true)) e (tried-sound (store_in b) c k))

    pub done-key : (out : Bytes) → key_on c b out ≡ key_out o.reply out
    done-key = key-as o.reply (write_store o.store b) (on_bytes-done c b o e)

  -- 9
  module _ (h : sound_state b ≡ false) (i : is_opening c ≡ false) where
    pub unsound-told : told_on c b ≡ (why unsound, b)
    unfolding told
    unsound-told = heard-as (refused unsound) b (on_bytes-unsound c b h i)

    pub unsound-value : (out : Bytes) → value_on c b out ≡ out
    unfolding value_out
    unsound-value = out-as (refused unsound) b (on_bytes-unsound c b h i)

    pub unsound-key : (out : Bytes) → key_on c b out ≡ out
    unfolding key_out
    unsound-key = key-as (refused unsound) b (on_bytes-unsound c b h i)

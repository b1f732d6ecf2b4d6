-- A call on the bytes of a state: what it answers, what it leaves, and that sound stays sound.
-- Assumes nothing.
use Prim.Native.Nat.{ℕ}
use native.Mathlib.Omega.{arith}
use mathlib.Core.Path.{◌≡◌, refl, ap, ◌∙◌}
use mathlib.Core.Bool.{true, false}
use mathlib.Core.List.{List}
use lib.ListN.{length}
use borrow.Author.Tests.{eq-eqb}
use Rattle.paper.specs.Keys.{Bytes, octets}
use Rattle.paper.specs.Refusals.{Refusal, unsound, Try, stop, go}
use Rattle.paper.specs.Settings.{Settings}
use Rattle.paper.specs.Sound.{sound}
use Rattle.paper.specs.Calls.{refused, Outcome, settle, Call, opening, begin, get, scan, put, delete, commit, end, freeze, tried, called, of_bytes}
use Rattle.paper.proofs.Bools.{and_left, and_intro}
use Rattle.paper.proofs.SoundLaws.{After}
use Rattle.paper.proofs.CallSound.{called-sound}
use Rattle.layout.specs.Layout.{write_store, store_in, sound_state, settled_on, on_bytes}
use Rattle.layout.specs.Runs.{is_opening, room_is, lent}
use Rattle.layout.proofs.SoundState.{write-length, in-written, sound-enough}
use Rattle.layout.proofs.Outcomes.{tried-unsound, Holdable, tried-holds}

-- ---- how a call ends
module _ (c : Call) (b : Bytes) where
  -- refused: the bytes stay
  pub on_bytes-refused : (r : Refusal) → tried (store_in b) c ≡ stop r → on_bytes c b ≡ (refused r, b)
  unfolding on_bytes
  on_bytes-refused r e = ap (settled_on b) e

  -- else the store after the call is written
  pub on_bytes-done : (o : Outcome) → tried (store_in b) c ≡ go o → on_bytes c b ≡ (o.reply, write_store o.store b)
  unfolding on_bytes
  on_bytes-done o e = ap (settled_on b) e

  -- 9
  pub on_bytes-unsound : sound_state b ≡ false → is_opening c ≡ false → on_bytes c b ≡ (refused unsound, b)
  unfolding sound_state
  on_bytes-unsound h i = on_bytes-refused unsound (tried-unsound (store_in b) c i h)

-- ---- what a call leaves, whatever the bytes were
module _ (b : Bytes) where
  settled-reply : (m : Try Outcome) → (settled_on b m).0 ≡ (settle (store_in b) m).reply
  unfolding settle
  settled-reply (stop r) = refl
  settled-reply (go o) = refl

  settled-store : (m : Try Outcome) → After (Holdable (length b)) m → store_in (settled_on b m).1 ≡ (settle (store_in b) m).store
  unfolding settle After
  settled-store (stop r) h = refl
  settled-store (go o) h = in-written o.store b h.0 h.1

  settled-length : (m : Try Outcome) → After (Holdable (length b)) m → length (settled_on b m).1 ≡ length b
  unfolding After
  settled-length (stop r) h = refl
  settled-length (go o) h = write-length o.store b h.0 h.1

  holds : (c : Call) → lent (length b) c ≡ true → After (Holdable (length b)) (tried (store_in b) c)
  unfolding sound_state
  holds c o = tried-holds (store_in b) (length b) (sound-enough b) c o

  -- the reply is the paper's
  pub on_bytes-reply : (c : Call) → (on_bytes c b).0 ≡ (called (store_in b) c).reply
  unfolding on_bytes called
  on_bytes-reply c = settled-reply (tried (store_in b) c)

  -- and so is the store in the bytes after the call
  pub on_bytes-store : (c : Call) → lent (length b) c ≡ true → store_in (on_bytes c b).1 ≡ (called (store_in b) c).store
  unfolding on_bytes called
  on_bytes-store c o = settled-store (tried (store_in b) c) (holds c o)

  pub on_bytes-length : (c : Call) → lent (length b) c ≡ true → length (on_bytes c b).1 ≡ length b
  unfolding on_bytes
  on_bytes-length c o = settled-length (tried (store_in b) c) (holds c o)

  -- sound stays sound
  pub on_bytes-sound : (c : Call) → lent (length b) c ≡ true → sound_state b ≡ true → sound_state (on_bytes c b).1 ≡ true
  unfolding sound_state lent
  on_bytes-sound c o h = ap sound (on_bytes-store c o) ∙ called-sound (store_in b) c (and_left (of_bytes c) (room_is (length b) c) o) h

  -- ---- an opening has the whole buffer
  pub lent-opening : (st : Settings) (images : Bytes) (lengths : List ℕ) → octets images ≡ true → lent (length b) (opening st images lengths (length b)) ≡ true
  unfolding lent of_bytes room_is
  lent-opening st images lengths o = and_intro o (eq-eqb (length b) (length b) refl)

  -- any other call is as a host makes it where what it hands over are bytes
  pub lent_other : (c : Call) → is_opening c ≡ false → of_bytes c ≡ true → lent (length b) c ≡ true
  unfolding lent room_is is_opening
  lent_other (opening st images lengths room) i o = absurd (let z : ◌≡◌ {A = ℕ} 0 1 = cc in omega arith)
  lent_other begin i o = and_intro o refl
  lent_other (get h k room) i o = and_intro o refl
  lent_other (scan h lo hi x y) i o = and_intro o refl
  lent_other (put h k v) i o = and_intro o refl
  lent_other (delete h k) i o = and_intro o refl
  lent_other (commit h) i o = and_intro o refl
  lent_other (end h) i o = and_intro o refl
  lent_other freeze i o = and_intro o refl

-- What every outcome of a call on a state is: a sound store, for which the buffer is long enough.
-- Assumes nothing.
use Prim.Native.Nat.{ℕ, ◌≤◌}
use native.Mathlib.Omega.{arith}
use mathlib.Core.Path.{◌≡◌, refl, sym, subst}
use mathlib.Core.Bool.{Bool, true, false}
use mathlib.Core.List.{List}
use mathlib.Core.Option.{Option, none, some}
use borrow.Author.Tests.{leb-true, eqb-true}
use Rattle.paper.specs.Keys.{Bytes, Pair, octets}
use Rattle.paper.specs.Bounds.{Bound}
use Rattle.paper.specs.History.{Opponent}
use Rattle.paper.specs.Refusals.{Refusal, unsound, Try, stop, go, must, ◌>>=◌, ◌>>◌}
use Rattle.paper.specs.Settings.{Settings, state_length}
use Rattle.paper.specs.Store.{Txn, Store, with_txn}
use Rattle.paper.specs.Sound.{sound}
use Rattle.paper.specs.Calls.{Outcome, done, outcome, settle, in_txn, in_open_txn, open_runs, opened, open_store, images_in, try_open, begun, try_begin, try_get, hand_out, try_scan, try_put, stored, try_store, judged, try_commit, ended, try_end, frozen_store, freeze_active, try_freeze, Call, opening, begin, get, scan, put, delete, commit, end, freeze, tried, called, of_bytes}
use Rattle.paper.proofs.Bools.{and_left, and_right}
use Rattle.paper.proofs.SoundLaws.{After, after-go, after-must, after_check, after-txn, after_open, after-whether}
use Rattle.paper.proofs.OpenSound.{opened-sound}
use Rattle.paper.proofs.CallSound.{images-octets, called-sound}
use Rattle.layout.specs.Runs.{is_opening, room_is, lent}

-- ---- the settings of a store change by an opening alone
module _ (s : Store) where
  abbrev Same : Store → Type 0
  Same x = x.settings ≡ s.settings

  begin-same : After Same (try_begin s)
  unfolding try_begin begun
  begin-same = after-must Same _ _ _ λ e₀. after-must Same _ _ _ λ e₁. after-must Same _ _ _ λ e₂. after-must Same _ _ _ λ e₃. after-must Same _ _ _ λ e₄. after-go Same _ refl

  get-same : (h : ℕ) (k : Bytes) (room : ℕ) → After Same (try_get s h k room)
  unfolding try_get with_txn
  get-same h k room = after_open Same s h _ λ t e f o. after_check Same _ _ (after-must Same _ _ _ λ e₁. after-must Same _ _ _ λ e₂. after-go Same _ refl)

  hand-same : (t : Txn) (a b : ℕ) (p : Option Pair) → After Same (hand_out s t a b p)
  unfolding hand_out with_txn
  hand-same t a b none = after-go Same _ refl
  hand-same t a b (some p) = after-must Same _ _ _ λ e₁. after-must Same _ _ _ λ e₂. after-go Same _ refl

  scan-same : (h : ℕ) (lo hi : Bound) (a b : ℕ) → After Same (try_scan s h lo hi a b)
  unfolding try_scan
  scan-same h lo hi a b = after_open Same s h _ λ t e f o. hand-same t a b _

  put_same : (h : ℕ) (k b : Bytes) → After Same (try_put s h k b)
  unfolding try_put with_txn
  put_same h k b = after_open Same s h _ λ t e f o. after_check Same _ _ (after-must Same _ _ _ λ e₁. after-must Same _ _ _ λ e₂. after-go Same _ refl)

  judged-same : (t : Txn) (o : Option Opponent) → After Same (judged s t o)
  unfolding judged try_store stored with_txn
  judged-same t none = after-must Same _ _ _ λ e₁. after-must Same _ _ _ λ e₂. after-must Same _ _ _ λ e₃. after-go Same _ refl
  judged-same t (some o) = after-go Same _ refl

  commit-same : (h : ℕ) → After Same (try_commit s h)
  unfolding try_commit with_txn
  commit-same h = after_open Same s h _ λ t e f o. after-whether Same _ _ _ (judged-same t _) (after-go Same _ refl)

  end_same : (h : ℕ) → After Same (try_end s h)
  unfolding try_end ended
  end_same h = after-txn Same s h _ λ t e f. after-go Same _ refl

  freeze-same : After Same (try_freeze s)
  unfolding try_freeze freeze_active frozen_store
  freeze-same = after-must Same _ _ _ λ e. after-whether Same _ _ _ (after-go Same _ refl) (after-must Same _ _ _ λ e₁. after-go Same _ refl)

  pub same-settings : (c : Call) → is_opening c ≡ false → After (λ x. x.settings ≡ s.settings) (tried s c)
  unfolding tried is_opening
  same-settings (opening st images lengths room) o = absurd (let z : ◌≡◌ {A = ℕ} 0 1 = cc in omega arith)
  same-settings begin o = begin-same
  same-settings (get h k room) o = get-same h k room
  same-settings (scan h lo hi a b) o = scan-same h lo hi a b
  same-settings (put h k b) o = put_same h k b
  same-settings (delete h k) o = put_same h k _
  same-settings (commit h) o = commit-same h
  same-settings (end h) o = end_same h
  same-settings freeze o = freeze-same

  -- ---- a store that is not sound is refused by every other call
  txn-refused : (h : ℕ) → sound s ≡ false → in_txn s h ≡ stop unsound
  unfolding in_txn must ◌>>◌
  txn-refused h e = rw e

  open-refused : (h : ℕ) → sound s ≡ false → in_open_txn s h ≡ stop unsound
  unfolding in_open_txn ◌>>=◌
  open-refused h e = rw (txn-refused h e)

  pub tried-unsound : (c : Call) → is_opening c ≡ false → sound s ≡ false → tried s c ≡ stop unsound
  unfolding tried is_opening try_begin try_get try_scan try_put try_commit try_end try_freeze must ◌>>◌ ◌>>=◌
  tried-unsound (opening st images lengths room) o e = absurd (let z : ◌≡◌ {A = ℕ} 0 1 = cc in omega arith)
  tried-unsound begin o e = rw e
  tried-unsound (get h k room) o e = rw (open-refused h e)
  tried-unsound (scan h lo hi a b) o e = rw (open-refused h e)
  tried-unsound (put h k b) o e = rw (open-refused h e)
  tried-unsound (delete h k) o e = rw (open-refused h e)
  tried-unsound (commit h) o e = rw (open-refused h e)
  tried-unsound (end h) o e = rw (txn-refused h e)
  tried-unsound freeze o e = rw e

-- ---- an opening
abbrev Then : {A : Type 0} → (A → Type 0) → Try A → Type 0
Then P (stop r) = Unit {0}
Then P (go a) = P a

then-must : {A : Type 0} (P : A → Type 0) (t : Bool) (r : Refusal) (m : Try A) → (t ≡ true → Then P m) → Then P (must t r >> m)
unfolding must ◌>>◌
then-must P true r m f = f refl
then-must P false r m f = tt

then-bind : {A B : Type 0} (P : B → Type 0) (m : Try A) (f : A → Try B) → ((a : A) → Then P (f a)) → Then P (m >>= f)
unfolding ◌>>=◌
then-bind P (stop r) f g = tt
then-bind P (go a) f g = g a

-- the buffer is long enough for what was opened
open-enough : (st : Settings) (images : List Bytes) (room : ℕ) → Then (λ s. state_length s.settings ≤ room) (open_store st images room)
unfolding open_store opened
open-enough st images room =
    let P : Store → Type 0 = λ s. state_length s.settings ≤ room in
    then-must P _ _ _ λ e. then-bind P (open_runs 1 images) _ λ runs. then-must P _ _ _ λ f. then-must P _ _ _ λ g. leb-true (state_length st) room g

-- a store that the buffer can hold
abbrev pub Holdable : ℕ → Store → Type 0
Holdable n s = (sound s ≡ true) × (state_length s.settings ≤ n)

opened-holds : (n : ℕ) (m : Try Store) → ((s : Store) → m ≡ go s → sound s ≡ true) → Then (λ s. state_length s.settings ≤ n) m → After (Holdable n) (m >>= λ s. outcome done s)
unfolding After ◌>>=◌
opened-holds n (stop r) f g = tt
opened-holds n (go s) f g = (f s refl, g)

open-holds : (st : Settings) (images : Bytes) (lengths : List ℕ) (n : ℕ) → octets images ≡ true → After (Holdable n) (try_open st images lengths n)
unfolding try_open
open-holds st images lengths n o =
    let is : List Bytes = images_in images lengths in
    opened-holds n (open_store st is n) (λ s e. opened-sound st is n s (images-octets images lengths o) e) (open-enough st is n)

-- ---- every call
other-holds : (s : Store) (n : ℕ) → state_length s.settings ≤ n → (m : Try Outcome) → sound (settle s m).store ≡ true → After (λ x. x.settings ≡ s.settings) m → After (Holdable n) m
unfolding settle After
other-holds s n l (stop r) h e = tt
other-holds s n l (go o) h e = (h, subst (λ (x : Settings). state_length x ≤ n) (sym e) l)

nothing-holds : (n : ℕ) (m : Try Outcome) (r : Refusal) → m ≡ stop r → After (Holdable n) m
unfolding After
nothing-holds n (stop q) r e = tt
nothing-holds n (go o) r e = absurd (let z : ◌≡◌ {A = ℕ} 0 1 = cc in omega arith)

pub tried-holds : (s : Store) (n : ℕ) → (sound s ≡ true → state_length s.settings ≤ n) → (c : Call) → lent n c ≡ true → After (Holdable n) (tried s c)
unfolding lent is_opening
tried-holds s n l c o = all c (and_left (of_bytes c) (room_is n c) o) (and_right (of_bytes c) (room_is n c) o)
  where
    here : (c : Call) → of_bytes c ≡ true → is_opening c ≡ false → (t : Bool) → sound s ≡ t → After (Holdable n) (tried s c)
    here c o i true e = unfold called in other-holds s n (l e) (tried s c) (called-sound s c o e) (same-settings s c i)
    here c o i false e = nothing-holds n (tried s c) unsound (tried-unsound s c i e)

    anew : (st : Settings) (images : Bytes) (lengths : List ℕ) (room : ℕ) → octets images ≡ true → room ≡ n → After (Holdable n) (try_open st images lengths room)
    anew st images lengths room o e = subst (λ (m : ℕ). After (Holdable n) (try_open st images lengths m)) (sym e) (open-holds st images lengths n o)

    all : (c : Call) → of_bytes c ≡ true → room_is n c ≡ true → After (Holdable n) (tried s c)
    all (opening st images lengths room) o r = unfold of_bytes room_is tried in anew st images lengths room o (eqb-true room n r)
    all begin o r = here begin o refl (sound s) refl
    all (get h k room) o r = here (get h k room) o refl (sound s) refl
    all (scan h lo hi a b) o r = here (scan h lo hi a b) o refl (sound s) refl
    all (put h k b) o r = here (put h k b) o refl (sound s) refl
    all (delete h k) o r = here (delete h k) o refl (sound s) refl
    all (commit h) o r = here (commit h) o refl (sound s) refl
    all (end h) o r = here (end h) o refl (sound s) refl
    all freeze o r = here freeze o refl (sound s) refl

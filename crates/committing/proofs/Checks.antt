-- The checks of a commit, in their order.
-- Assumes nothing.
use Prim.Native.Nat.{ℕ, ◌+◌, ◌<◌, ◌≤◌}
use native.Mathlib.Omega.{arith}
use mathlib.Core.Path.{◌≡◌, refl}
use mathlib.Core.Bool.{true, false}
use mathlib.Core.Option.{none, some}
use lib.Dec.{ltb}
use borrow.Author.Tests.{lt-ltb, le-ltb}
use Rattle.paper.specs.Lists.{is_empty}
use Rattle.paper.specs.History.{Opponent, opponent, conflict}
use Rattle.paper.specs.Refusals.{Refusal, no_room, counter_full, history, active_run, conflicts, stop, go, must, whether, ◌>>=◌, ◌>>◌}
use Rattle.paper.specs.Room.{history_fits, active_fits}
use Rattle.paper.specs.Settings.{most_number}
use Rattle.paper.specs.Sound.{sound}
use Rattle.paper.specs.Store.{Txn, Store, find_txn, closed, with_txn}
use Rattle.paper.specs.Calls.{committed, refused, in_txn, in_open_txn, history_after, active_after, stored, try_store, judged, try_commit}

-- ---- 3, 4, and whether there are writes
pub commit_unentered : (s : Store) (handle : ℕ) (w : Refusal) → in_open_txn s handle ≡ stop w → try_commit s handle ≡ stop w
unfolding try_commit ◌>>=◌
commit_unentered s handle w e = rw e refl

module _ (s : Store) (h : sound s ≡ true) (handle : ℕ) (t : Txn) (e : find_txn handle s.places ≡ some t) (f : t.open? ≡ true) where
  -- 'commit without writes: accepted, nothing checked or stored; the clock stays'
  pub commit-none : is_empty t.own ≡ true → try_commit s handle ≡ go (record { reply = committed none; store = with_txn (closed t) s })
  unfolding try_commit in_open_txn in_txn must whether ◌>>◌ ◌>>=◌
  commit-none k = rw h (rw e (rw f (rw k refl)))

  -- 'there are writes, and a history entry ..'
  pub commit-some : is_empty t.own ≡ false → try_commit s handle ≡ judged s t (opponent t.read t.reads s.history)
  unfolding try_commit in_open_txn in_txn must whether conflict ◌>>◌ ◌>>=◌
  commit-some k = rw h (rw e (rw f (rw k refl)))

-- ---- 6
module _ (s : Store) (t : Txn) where
  pub judged-by : (r : Opponent) → judged s t (some r) ≡ go (record { reply = refused (conflicts r); store = with_txn (closed t) s })
  unfolding judged
  judged-by r = refl

  pub judged-clear : judged s t none ≡ try_store s t
  unfolding judged
  judged-clear = refl

  -- ---- 7, 5
  -- 'commit with writes, the clock at 2^64-1'
  pub store-clock : s.clock ≡ most_number → try_store s t ≡ stop counter_full
  unfolding try_store must ◌>>◌
  store-clock e = let l : most_number ≤ s.clock = omega (arith, e) in let f : ltb s.clock most_number ≡ false = le-ltb _ _ l in rw f refl

  module _ (l : s.clock < most_number) where
    below : ltb s.clock most_number ≡ true
    below = lt-ltb _ _ l

    pub store-history : history_fits s.settings (history_after s t) ≡ false → try_store s t ≡ stop (no_room history)
    unfolding try_store must ◌>>◌
    store-history e = rw below (rw e refl)

    module _ (e : history_fits s.settings (history_after s t) ≡ true) where
      pub store-active : active_fits s.settings (active_after s t) ≡ false → try_store s t ≡ stop (no_room active_run)
      unfolding try_store must ◌>>◌
      store-active f = rw below (rw e (rw f refl))

      pub store-done : active_fits s.settings (active_after s t) ≡ true → try_store s t ≡ go (record { reply = committed (some (s.clock + 1)); store = stored s t })
      unfolding try_store must ◌>>◌
      store-done f = rw below (rw e (rw f refl))

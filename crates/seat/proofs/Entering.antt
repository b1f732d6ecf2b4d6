-- How a call enters its transaction: 3, 4, or the transaction.
-- Assumes nothing.
use Prim.Native.Nat.{ℕ}
use mathlib.Core.Path.{◌≡◌, ap, ap₂, ◌∙◌}
use mathlib.Core.Bool.{Bool, true, false}
use mathlib.Core.Option.{Option, none, some}
use Rattle.paper.specs.Refusals.{no_handle, is_closed, unsound, stop, go, must, ◌>>=◌, ◌>>◌}
use Rattle.paper.specs.Store.{Txn, Store, find_txn}
use Rattle.paper.specs.Sound.{sound}
use Rattle.paper.specs.Calls.{known, in_txn, in_open_txn}

module _ (s : Store) (h : ℕ) (e : sound s ≡ true) where
  -- 'handle not of a transaction begun and not ended'
  pub enter-missing : find_txn h s.places ≡ none → in_open_txn s h ≡ stop no_handle
  unfolding in_open_txn in_txn must ◌>>◌ ◌>>=◌
  enter-missing f = ap₂ (λ (b : Bool) (o : Option Txn). (must b unsound >> known o) >>= (λ t. must t.open? is_closed >> go t)) e f

  module _ (t : Txn) (f : find_txn h s.places ≡ some t) where
    entered : in_open_txn s h ≡ (must t.open? is_closed >> go t)
    unfolding in_open_txn in_txn must ◌>>◌ ◌>>=◌
    entered = ap₂ (λ (b : Bool) (o : Option Txn). (must b unsound >> known o) >>= (λ t. must t.open? is_closed >> go t)) e f

    -- 'transaction closed by an accepted commit or a conflict'
    pub enter-closed : t.open? ≡ false → in_open_txn s h ≡ stop is_closed
    unfolding must ◌>>◌
    enter-closed m = entered ∙ ap (λ (b : Bool). must b is_closed >> go t) m

    pub enter-open : t.open? ≡ true → in_open_txn s h ≡ go t
    unfolding must ◌>>◌
    enter-open m = entered ∙ ap (λ (b : Bool). must b is_closed >> go t) m

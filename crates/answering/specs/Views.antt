-- What a transaction of a sound state reads.
-- Assumes nothing.
use Rattle.std.specs.Prelude.{ℕ, ◌≡◌}
use Rattle.paper.specs.Keys.{Bytes}
use Rattle.paper.specs.Store.{versions_of}
use Rattle.layout.specs.Layout.{store_in}
use Rattle.settings.specs.declared.Shape.{Shape}
use Rattle.lsm.specs.declared.view.View.{View}
use Rattle.lsm.specs.Views.{versions_in, writes_in, Readable}
use Rattle.answering.specs.Places.{txn_at}

-- the runs of the state, the own writes of the transaction whose place begins there, and its read number
pub record Shows (z : Shape) (b : Bytes) (at read : ℕ) (v : View) : Type 0 where
  pub readable : Readable b v
  pub versions : versions_in b v ≡ versions_of (store_in b)
  pub own : writes_in b v ≡ (txn_at z b at).own
  pub number : v.read ≡ read

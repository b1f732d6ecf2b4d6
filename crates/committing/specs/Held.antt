-- A transaction in a sound state, by the place where it lies.
-- Assumes nothing.
use Rattle.std.specs.Prelude.{ℕ, ◌<◌, ◌≡◌, true, get_or}
use Rattle.std.proofs.Math.Option.{none, some}
use Rattle.paper.specs.Keys.{Bytes}
use Rattle.paper.specs.Store.{Txn}
use Rattle.raw.specs.Bytes.{part}
use Rattle.layout.specs.Offsets.{place_at, stride}
use Rattle.layout.specs.Layout.{store_in, sound_state}
use Rattle.settings.specs.Shapes.{shape_of}
use Rattle.settings.specs.declared.Shape.{Shape}
use Rattle.txn.specs.Place.{rooms_of, txn_in}

-- the place of a transaction in a sound state begins at `place`
pub record Placed (b : Bytes) (z : Shape) (place : ℕ) : Type 0 where
  pub sound : sound_state b ≡ true
  pub shape : z ≡ shape_of (store_in b).settings
  pub index : ℕ
  pub txn : Txn
  pub inside : index < (store_in b).settings.transactions
  pub start : place ≡ place_at (store_in b).settings index
  pub here : get_or (store_in b).places index none ≡ some txn

-- that transaction, from the bytes of its place
unfoldable pub held_at : Bytes → ℕ → Txn
held_at b place = txn_in (rooms_of (store_in b).settings) (part b place (stride (store_in b).settings))

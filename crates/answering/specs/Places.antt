-- A transaction's place in a state, as its shape lays it out, and the place with a hash more in the read set.
-- Assumes nothing.
use Rattle.std.specs.Prelude.{ℕ, ◌+◌, ◌≤◌, ◌≡◌, Bool, true, List, length}
use Rattle.std.proofs.Math.Option.{some}
use Rattle.paper.specs.Keys.{Bytes}
use Rattle.paper.specs.Store.{Txn, set_add, with_reads}
use Rattle.paper.specs.Room.{set_fits}
use Rattle.raw.specs.Bytes.{part, over}
use Rattle.settings.specs.declared.Shape.{Shape}
use Rattle.txn.specs.Place.{rooms_in, place_of, stride_of, txn_in, orderly}

-- the bytes of the place that begins at an offset
abbrev pub place_in : Shape → Bytes → ℕ → Bytes
place_in z b at = part b at z.stride

-- a transaction's place begins there: it is as long as its rooms take, ends within the bytes, and its overlay and its sets are in order
pub record TakenAt (z : Shape) (b : Bytes) (at : ℕ) : Type 0 where
  pub long : z.stride ≡ stride_of (rooms_in z)
  pub inside : at + z.stride ≤ length b
  pub steady : orderly (rooms_in z) (place_in z b at) ≡ true

-- the transaction in it
abbrev pub txn_at : Shape → Bytes → ℕ → Txn
txn_at z b at = txn_in (rooms_in z) (place_in z b at)

-- its read set with a hash more: 'in the other mode no set .. is kept'
abbrev pub reads_with : Shape → Bytes → ℕ → ℕ → List ℕ
reads_with z b at hash = set_add z.serializable hash (txn_at z b at).reads

-- 'hash new and set full' is no room
abbrev pub read_fits : Shape → Bytes → ℕ → ℕ → Bool
read_fits z b at hash = set_fits z.reads (reads_with z b at hash)

-- the bytes with the hash in that read set
unfoldable pub noted : Shape → Bytes → ℕ → ℕ → Bytes
noted z b at hash = over b at ((place_of (rooms_in z)).write (some (with_reads (reads_with z b at hash) (txn_at z b at))) (place_in z b at))

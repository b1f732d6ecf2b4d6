-- A write in a transaction's place: its checks for room, and the place after it.
-- Assumes nothing.
use Rattle.std.specs.Prelude.{ℕ, Bool, false}
use Rattle.std.proofs.Math.Option.{some}
use Rattle.paper.specs.Lists.{insert}
use Rattle.paper.specs.Keys.{Bytes, cmp_pair}
use Rattle.paper.specs.Hash.{hash_of}
use Rattle.paper.specs.Refusals.{no_room, overlay, write_set, Try, stop, go, must, ◌>>◌}
use Rattle.paper.specs.Store.{Txn, set_add, with_writes}
use Rattle.paper.specs.Room.{overlay_fits, set_fits}
use Rattle.overlay.specs.Overlay.{pair}
use Rattle.txn.specs.declared.Rooms.{Rooms}
use Rattle.txn.specs.Place.{settings_of, place_of, txn_in}

-- the transaction after a write of v at k: 'put and delete add to the write set'
abbrev pub written : Bool → Bytes → Bytes → ℕ → Txn → Txn
written serializable k v hash t = with_writes (insert cmp_pair (pair k v) t.own) (set_add serializable hash t.writes) t

-- 5, asked of the transaction after the write: 'overlay after the write above its limit', then 'hash new and set full'
unfoldable pub room_for : Rooms → Txn → Try (Unit {0})
room_for r t = must (overlay_fits (settings_of false r) t.own) (no_room overlay) >> must (set_fits r.writes t.writes) (no_room write_set)

-- a refusal leaves the place as it was
abbrev pub leaves : Try (Unit {0}) → Bytes → Bytes → Bytes
leaves (stop w) old new = old
leaves (go u) old new = new

-- what a write of v at k in a place answers, and the place after it
unfoldable pub write_on : Rooms → Bytes → Bytes → Bytes → Try (Unit {0}) × Bytes
write_on r q k v =
    let t = written r.serializable k v (hash_of k) (txn_in r q) in
    (room_for r t, leaves (room_for r t) q ((place_of r).write (some t) q))

-- A write in a transaction's place, return by return, and what its answer says.
-- Assumes nothing.
use Prim.Native.Nat.{ℕ, ◌≤◌, ◌<◌}
use native.Mathlib.Omega.{arith}
use mathlib.Core.Path.{◌≡◌, sym, ap, ◌∙◌}
use mathlib.Core.Bool.{Bool, true, false}
use mathlib.Core.List.{List}
use mathlib.Core.Option.{some}
use lib.ListN.{length}
use Rattle.paper.specs.Lists.{insert}
use Rattle.paper.specs.Keys.{Bytes, Pair, octets, cmp_pair}
use Rattle.paper.specs.Hash.{hash_of}
use Rattle.paper.specs.Refusals.{Refusal, no_room, overlay, write_set, Try, stop, go}
use Rattle.paper.specs.Store.{Txn, set_add, with_writes}
use Rattle.paper.specs.Room.{overlay_fits, set_fits}
use Rattle.paper.proofs.HashLaws.{hash-below}
use Rattle.overlay.specs.Overlay.{pair}
use Rattle.txn.specs.declared.Rooms.{Rooms}
use Rattle.txn.specs.Place.{settings_of, place_of, stride_of, txn_in, orderly, own_start, own_of, own_held}
use Rattle.txn.proofs.Holding.{held, own_is, own_held_lem}
use Rattle.writing.specs.Writes.{written, room_for, leaves, write_on}
use Rattle.writing.proofs.Checks.{overlay-full, writes-full, room-there, room-held}

-- ---- what a write in a place answers
module _ (r : Rooms) (q k v : Bytes) where
  -- the answer and the place after it, for the transaction in the place
  abbrev pub written_as : Txn → Try (Unit {0}) × Bytes
  written_as t = let u = written r.serializable k v (hash_of k) t in (room_for r u, leaves (room_for r u) q ((place_of r).write (some u) q))

  module _ (t : Txn) (x : Bytes) where
    pub room-is : (m : Try (Unit {0})) → ◌≡◌ {A = Try (Unit {0}) × Bytes} (m, x) (written_as t) → room_for r (written r.serializable k v (hash_of k) t) ≡ m
    room-is m e = sym (ap (λ (p : Try (Unit {0}) × Bytes). p.0) e)

    pub left_is : (m : Try (Unit {0})) → ◌≡◌ {A = Try (Unit {0}) × Bytes} (m, x) (written_as t) → x ≡ leaves m q ((place_of r).write (some (written r.serializable k v (hash_of k) t)) q)
    left_is m e = ap (λ (p : Try (Unit {0}) × Bytes). p.1) e ∙ ap (λ (n : Try (Unit {0})). leaves n q ((place_of r).write (some (written r.serializable k v (hash_of k) t)) q)) (room-is m e)

  pub as-txn : (t : Txn) → txn_in r q ≡ t → write_on r q k v ≡ written_as t
  unfolding write_on
  as-txn t e = ap written_as e

-- ---- whether there is room
module _ (r : Rooms) (q : Bytes) (y : octets q ≡ true) (l : length q ≡ stride_of r) (h : orderly r q ≡ true) where
  pub own-ready : (own_start ≤ length q) × (own_held q ≡ true)
  own-ready = (omega arith, own_held_lem r q l (held r q y l h))

  module _ (k v : Bytes) (n : ℕ) (a : Bool) (e : a ≡ overlay_fits (settings_of false r) (insert cmp_pair (pair k v) (own_of q))) where
    overlay-is : overlay_fits (settings_of false r) (written r.serializable k v n (txn_in r q)).own ≡ a
    unfolding with_writes
    overlay-is = sym (e ∙ ap (λ (own : List Pair). overlay_fits (settings_of false r) (insert cmp_pair (pair k v) own)) (own_is r q l (held r q y l h)))

    pub room-overlay : a ≡ false → stop (no_room overlay) ≡ room_for r (written r.serializable k v n (txn_in r q))
    room-overlay f = sym (overlay-full r (written r.serializable k v n (txn_in r q)) (overlay-is ∙ f))

    module _ (c : Bool) (g : c ≡ set_fits r.writes (set_add r.serializable n (txn_in r q).writes)) (f : a ≡ true) where
      writes_are : set_fits r.writes (written r.serializable k v n (txn_in r q)).writes ≡ c
      unfolding with_writes
      writes_are = sym g

      pub room-writes : c ≡ false → stop (no_room write_set) ≡ room_for r (written r.serializable k v n (txn_in r q))
      room-writes j = sym (writes-full r (written r.serializable k v n (txn_in r q)) (overlay-is ∙ f) (writes_are ∙ j))

      pub room-good : c ≡ true → go tt ≡ room_for r (written r.serializable k v n (txn_in r q))
      room-good j = sym (room-there r (written r.serializable k v n (txn_in r q)) (overlay-is ∙ f) (writes_are ∙ j))

-- ---- the write: n is the key's hash
module _ (r : Rooms) (q k v : Bytes) (n : ℕ) (e : n ≡ hash_of k) where
  pub hash-small : n < 4294967296
  hash-small = omega (arith, hash-below k)

  -- the place after it, by what the check for room answers
  write_as : (m : Try (Unit {0})) → m ≡ room_for r (written r.serializable k v n (txn_in r q)) → ◌≡◌ {A = Try (Unit {0}) × Bytes} (m, leaves m q ((place_of r).write (some (written r.serializable k v (hash_of k) (txn_in r q))) q)) (write_on r q k v)
  unfolding write_on
  write_as m f =
      ap {B = Try (Unit {0}) × Bytes} (λ j. (j, leaves j q ((place_of r).write (some (written r.serializable k v (hash_of k) (txn_in r q))) q)))
      (f ∙ ap (λ (j : ℕ). room_for r (written r.serializable k v j (txn_in r q))) e)

  pub write-refused : (w : Refusal) → stop w ≡ room_for r (written r.serializable k v n (txn_in r q)) → ◌≡◌ {A = Try (Unit {0}) × Bytes} (stop w, q) (write_on r q k v)
  write-refused w f = write_as (stop w) f

  module _ (f : go tt ≡ room_for r (written r.serializable k v n (txn_in r q))) where
    pub write-room : (overlay_fits (settings_of false r) (insert cmp_pair (pair k v) (txn_in r q).own) ≡ true) × (set_fits r.writes (set_add r.serializable n (txn_in r q).writes) ≡ true)
    unfolding with_writes
    write-room = room-held r (written r.serializable k v n (txn_in r q)) (sym f)

    pub write_done : (x : Bytes) → x ≡ (place_of r).write (some (written r.serializable k v n (txn_in r q))) q → ◌≡◌ {A = Try (Unit {0}) × Bytes} (go tt, x) (write_on r q k v)
    write_done x g =
        ap {B = Try (Unit {0}) × Bytes} (λ z. (go tt, z)) (g ∙ ap (λ (j : ℕ). (place_of r).write (some (written r.serializable k v j (txn_in r q))) q) e) ∙ write_as (go tt) f

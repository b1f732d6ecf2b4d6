-- The transaction of a handle is closed: its mark alone is written.
-- Assumes nothing.
use Prim.Native.Nat.{ℕ, ◌+◌}
use mathlib.Core.Path.{◌≡◌, sym, ap, ◌∙◌}
use mathlib.Core.Bool.{Bool, true}
use mathlib.Core.List.{List}
use mathlib.Core.Option.{Option, some}
use lib.ListN.{set}
use Rattle.paper.specs.Keys.{Bytes, octets}
use Rattle.paper.specs.Image.{big_endian}
use Rattle.paper.specs.Store.{Txn, Store, put_txn, closed, with_places, with_txn}
use Rattle.raw.specs.Bytes.{over}
use Rattle.layout.specs.Layout.{store_in, sound_state, write_store}
use Rattle.layout.proofs.SoundState.{sound-read}
use Rattle.layout.proofs.Inside as inside
use Rattle.settings.specs.Shapes.{shape_of}
use Rattle.settings.specs.declared.Shape.{Shape}
use Rattle.seat.specs.Seats.{Seated}
use Rattle.committing.specs.Held.{Placed, held_at}
use Rattle.committing.proofs.Held.{held-is}

closed-as : (s : Store) (t : Txn) (ps : List (Option Txn)) → put_txn t.handle (some (closed t)) s.places ≡ ps → with_txn (closed t) s ≡ with_places ps s
unfolding with_txn closed
closed-as s t ps e = ap (λ (q : List (Option Txn)). with_places q s) e

module _ (b : Bytes) (h : sound_state b ≡ true) (z : Shape) (e : z ≡ shape_of (store_in b).settings) (handle place read : ℕ) (mark : Bool) (q : Seated (store_in b) handle place read mark) where
  -- its place
  abbrev pub seat_placed : Placed b z place
  seat_placed = record { sound = h; shape = e; index = q.index; txn = q.txn; inside = q.inside; start = q.start; here = q.here }

  module _ (o : octets b ≡ true) where
    pub seat-held : held_at b place ≡ q.txn
    seat-held = held-is b o z place seat_placed

    pub closing : write_store (with_txn (closed q.txn) (store_in b)) b ≡ over b (place + 16) (big_endian 8 0)
    closing =
        let s : Store = store_in b in
        let t : Txn = q.txn in
        let f : put_txn t.handle (some (closed t)) s.places ≡ set s.places q.index (some (closed t)) = ap (λ (n : ℕ). put_txn n (some (closed t)) s.places) q.handle ∙ q.put (some (closed t)) in
        ap (λ (x : Store). write_store x b) (closed-as s t (set s.places q.index (some (closed t))) f)
        ∙ inside.change-closed b s o (sound-read b h) q.index q.inside t q.here
        ∙ ap (λ (n : ℕ). over b (n + 16) (big_endian 8 0)) (sym q.start)

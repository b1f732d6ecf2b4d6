-- The checks of a write, one after the other: which of them stops it, and what holds where none does.
-- Assumes nothing.
use Prim.Native.Nat.{ℕ, ◌≤◌}
use native.Mathlib.Omega.{arith}
use mathlib.Core.Path.{◌≡◌, refl, ap, ap₂}
use mathlib.Core.Bool.{Bool, true, false, not, ◌&&◌}
use lib.ListN.{length}
use lib.Dec.{leb}
use borrow.Author.Tests.{leb-true}
use Rattle.paper.specs.Lists.{is_empty}
use Rattle.paper.specs.Keys.{Bytes}
use Rattle.paper.specs.Refusals.{Refusal, empty_key, too_long, no_room, overlay, write_set, stop, go, must, ◌>>◌}
use Rattle.paper.specs.Settings.{longest}
use Rattle.paper.specs.Store.{Txn}
use Rattle.paper.specs.Room.{overlay_fits, set_fits}
use Rattle.paper.specs.Calls.{good_key_value}
use Rattle.paper.proofs.Bools.{and_left, and_right}
use Rattle.txn.specs.declared.Rooms.{Rooms}
use Rattle.txn.specs.Place.{settings_of}
use Rattle.writing.specs.Writes.{room_for}

-- ---- two checks
module _ (a c : Bool) (q w : Refusal) where
  pub first-fails : a ≡ false → (must a q >> must c w) ≡ stop q
  unfolding must ◌>>◌
  first-fails e = ap (λ (x : Bool). must x q >> must c w) e

  pub second-fails : a ≡ true → c ≡ false → (must a q >> must c w) ≡ stop w
  unfolding must ◌>>◌
  second-fails e f = ap₂ (λ (x y : Bool). must x q >> must y w) e f

  pub both_hold : a ≡ true → c ≡ true → (must a q >> must c w) ≡ go tt
  unfolding must ◌>>◌
  both_hold e f = ap₂ (λ (x y : Bool). must x q >> must y w) e f

-- and back
pub both-held : (a c : Bool) (q w : Refusal) → (must a q >> must c w) ≡ go tt → (a ≡ true) × (c ≡ true)
unfolding must ◌>>◌
both-held true true q w e = (refl, refl)
both-held true false q w e = absurd (let z : ◌≡◌ {A = ℕ} 0 1 = cc in omega arith)
both-held false c q w e = absurd (let z : ◌≡◌ {A = ℕ} 0 1 = cc in omega arith)

-- ---- 1, 2: what a write may count on
pub lengths-held : (k v : Bytes) → good_key_value k v ≡ go tt → (length k ≤ longest) × (length v ≤ longest)
unfolding good_key_value
lengths-held k v g =
    let h = (both-held (not (is_empty k)) (leb (length k) longest && leb (length v) longest) empty_key too_long g).1 in
    (leb-true (length k) longest (and_left (leb (length k) longest) (leb (length v) longest) h), leb-true (length v) longest (and_right (leb (length k) longest) (leb (length v) longest) h))

-- ---- 5
module _ (r : Rooms) (t : Txn) where
  abbrev overlay-fits : Bool
  overlay-fits = overlay_fits (settings_of false r) t.own

  abbrev writes-fit : Bool
  writes-fit = set_fits r.writes t.writes

  pub overlay-full : overlay-fits ≡ false → room_for r t ≡ stop (no_room overlay)
  unfolding room_for
  overlay-full e = first-fails overlay-fits writes-fit (no_room overlay) (no_room write_set) e

  pub writes-full : overlay-fits ≡ true → writes-fit ≡ false → room_for r t ≡ stop (no_room write_set)
  unfolding room_for
  writes-full e f = second-fails overlay-fits writes-fit (no_room overlay) (no_room write_set) e f

  pub room-there : overlay-fits ≡ true → writes-fit ≡ true → room_for r t ≡ go tt
  unfolding room_for
  room-there e f = both_hold overlay-fits writes-fit (no_room overlay) (no_room write_set) e f

  pub room-held : room_for r t ≡ go tt → (overlay-fits ≡ true) × (writes-fit ≡ true)
  unfolding room_for
  room-held g = both-held overlay-fits writes-fit (no_room overlay) (no_room write_set) g

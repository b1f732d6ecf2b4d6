-- The view of a transaction: the state's runs by their cursors, and the own writes where they lie in its place.
-- Assumes nothing.
use native.Mathlib.Omega.{arith}
use mathlib.Core.Path.{◌≡◌, refl, sym, ap, ◌∙◌}
use mathlib.Core.Bool.{true}
use Prim.Native.Nat.{ℕ, ◌+◌, ◌-◌, ◌≤◌}
use lib.ListN.{length}
use Rattle.paper.specs.Keys.{Bytes, octets}
use Rattle.paper.specs.Image.{number_from}
use Rattle.paper.specs.Runs.{merge}
use Rattle.raw.specs.Bytes.{part}
use Rattle.raw.proofs.Parts.{length_part, part-part}
use Rattle.raw.proofs.Octets.{octets-part}
use Rattle.layout.specs.Layout.{store_in, sound_state}
use Rattle.settings.specs.Shapes.{shape_of}
use Rattle.settings.specs.declared.Shape.{Shape}
use Rattle.overlay.specs.Overlay.{pairs_in}
use Rattle.txn.specs.Place.{rooms_in, stride_of, used_at, own_start, own_end}
use Rattle.txn.specs.declared.Rooms.{Rooms}
use Rattle.txn.proofs.Holding.{Held, held, own-used, own_is, own_held_lem, own-parts}
use Rattle.area.specs.Spread.{Sited, Spread}
use Rattle.area.specs.declared.cursors.Runs.{Runs}
use Rattle.lsm.specs.Pairs.{own_in, OwnAt, pairs, packed_pairs}
use Rattle.answering.specs.Places.{place_in, TakenAt, txn_at}
use Rattle.answering.specs.Views.{Shows}
use Rattle.answering.proofs.OwnPairs.{own-packed}

-- where the runs begin
pub sited : (b : Bytes) (z : Shape) → sound_state b ≡ true → z ≡ shape_of (store_in b).settings → Sited b z.active z.area
unfolding shape_of
sited b z h e = record { sound = h; active-at = ap (λ (y : Shape). y.active) e; area-at = ap (λ (y : Shape). y.area) e }

-- ---- the own writes, 32 bytes into the place, behind the number of their bytes
module _ (z : Shape) (b : Bytes) (o : octets b ≡ true) (at : ℕ) (t : TakenAt z b at) (n : ℕ) (e : n ≡ number_from 0 (part b (at + 24) 8)) where
  abbrev r : Rooms
  r = rooms_in z

  abbrev q : Bytes
  q = place_in z b at

  y : octets q ≡ true
  y = octets-part b at z.stride o

  l : length q ≡ stride_of r
  l = length_part b at z.stride t.inside ∙ t.long

  H : Held r q
  H = held r q y l t.steady

  used : n ≡ used_at q 24
  used = e ∙ ap (number_from 0) (sym (part-part b at z.stride 24 8 (omega (arith, t.long))))

  pub own-inside : at + 32 + n ≤ at + z.stride
  own-inside = omega (arith, used, own-used r q l H, t.long)

  span : part q own_start (own_end q - own_start) ≡ part b (at + 32) (at + 32 + n - (at + 32))
  span =
      let f : own_end q - own_start ≡ at + 32 + n - (at + 32) = omega (arith, used) in
      ap (part q own_start) f ∙ part-part b at z.stride own_start (at + 32 + n - (at + 32)) (omega (arith, own-inside))

  both : (packed_pairs (part q own_start (own_end q - own_start)) ≡ true) × (pairs (part q own_start (own_end q - own_start)) ≡ pairs_in (part q own_start (own_end q - own_start)))
  both = own-packed (part q own_start (own_end q - own_start)) (octets-part q own_start (own_end q - own_start) y) (own-parts q (own_held_lem r q l H)).1

  own-there : OwnAt b (at + 32) (at + 32 + n)
  own-there = record { order = omega arith; inside = omega (arith, own-inside, t.inside); whole = ap packed_pairs (sym span) ∙ both.0 }

  own_same : own_in b (at + 32) (at + 32 + n) ≡ (txn_at z b at).own
  own_same = ap pairs (sym span) ∙ both.1 ∙ own_is r q l H

  -- ---- the view
  pub shows : (read : ℕ) (runs : Runs) → Spread b runs
      → Shows z b at read (record { cursors = runs.cursors; runs = runs.count; own = at + 32; stop = at + 32 + n; read = read })
  shows read runs s =
      record {
        readable = record { few = s.few; lawfully = s.lawfully; ordered = s.order; own = own-there };
        versions = ap merge s.runs;
        own = own_same;
        number = refl;
      }

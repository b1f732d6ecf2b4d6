-- A transaction's place lent to the functions of places, and what they leave of it in the state.
-- Assumes nothing.
use native.Mathlib.Omega.{arith}
use mathlib.Core.Path.{◌≡◌, sym, ap, ap₂, ◌∙◌}
use mathlib.Core.Bool.{Bool, true}
use mathlib.Core.List.{◌++◌}
use mathlib.Core.Option.{some}
use Prim.Native.Nat.{ℕ, ◌+◌, ◌-◌}
use lib.ListN.{length, take, drop}
use Rattle.paper.specs.Keys.{Bytes}
use Rattle.paper.specs.Store.{set_add, with_reads}
use Rattle.paper.specs.Room.{set_fits}
use Rattle.raw.specs.Bytes.{part, over}
use Rattle.raw.proofs.Parts.{length_part}
use Rattle.raw.proofs.Over.{over-lent}
use Rattle.settings.specs.declared.Shape.{Shape}
use Rattle.txn.specs.declared.Rooms.{Rooms}
use Rattle.txn.specs.Place.{rooms_in, place_of, stride_of, txn_in, orderly}
use Rattle.answering.specs.Places.{place_in, TakenAt, read_fits, noted}

-- ---- lent by its two ends
module _ (z : Shape) (b : Bytes) (at : ℕ) (t : TakenAt z b at) (r : Rooms) (e : r ≡ rooms_in z) where
  abbrev lent : Bytes
  lent = part b at (at + z.stride - at)

  whole : lent ≡ place_in z b at
  whole = let n : at + z.stride - at ≡ z.stride = omega arith in ap (part b at) n

  pub lent-long : length (part b at (at + z.stride - at)) ≡ stride_of r
  lent-long = ap (λ (x : Bytes). length x) whole ∙ length_part b at z.stride t.inside ∙ t.long ∙ ap stride_of (sym e)

  pub lent-steady : orderly r (part b at (at + z.stride - at)) ≡ true
  lent-steady = ap₂ (λ (y : Rooms) (x : Bytes). orderly y x) e whole ∙ t.steady

  module _ (hash : ℕ) where
    -- the room for the hash, as it is asked of the place
    lent_fits : set_fits r.reads (set_add r.serializable hash (txn_in r (part b at (at + z.stride - at))).reads) ≡ read_fits z b at hash
    lent_fits = ap₂ (λ (y : Rooms) (x : Bytes). set_fits y.reads (set_add y.serializable hash (txn_in y x).reads)) e whole

    pub fits_told : (f : Bool) → f ≡ set_fits r.reads (set_add r.serializable hash (txn_in r (part b at (at + z.stride - at))).reads) → f ≡ read_fits z b at hash
    fits_told f g = g ∙ lent_fits

    pub fits-asked : read_fits z b at hash ≡ true → set_fits r.reads (set_add r.serializable hash (txn_in r (part b at (at + z.stride - at))).reads) ≡ true
    fits-asked g = lent_fits ∙ g

    -- the place comes back with the hash in its read set
    pub lent-noted : (x : Bytes) → length x ≡ length (part b at (at + z.stride - at))
        → x ≡ (place_of r).write (some (with_reads (set_add r.serializable hash (txn_in r (part b at (at + z.stride - at))).reads) (txn_in r (part b at (at + z.stride - at))))) (part b at (at + z.stride - at))
        → take at b ++ (x ++ drop (at + z.stride - at) (drop at b)) ≡ noted z b at hash
    unfolding noted
    lent-noted x l f =
        let m : length x ≡ at + z.stride - at = l ∙ length_part b at (at + z.stride - at) (omega (arith, t.inside)) in
        over-lent b x at (at + z.stride - at) m
        ∙ ap (over b at) (f ∙ ap₂ (λ (y : Rooms) (u : Bytes). (place_of y).write (some (with_reads (set_add y.serializable hash (txn_in y u).reads) (txn_in y u))) u) e whole)

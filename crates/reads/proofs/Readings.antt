-- The sheet's bytes can be read: the parts that the program's views name are runs' records and pairs in key order. All of it is computed.
-- Assumes nothing.
use native.Mathlib.Omega.{arith}
use mathlib.Core.Path.{◌≡◌, refl, sym, subst}
use Prim.Native.Nat.{ℕ}
use lib.ListN.{length}
use Rattle.paper.specs.Keys.{Bytes}
use Rattle.paper.specs.Computing.{definitions}
use Rattle.key.specs.Packing.{up_to, read_all, pack_all, packed_by}
use Rattle.merge.specs.Cursors.{lawful, in_order}
use Rattle.lsm.specs.Pairs.{pair_bytes, one_pair, fitting}
use Rattle.lsm.specs.Views.{Readable}
use Rattle.lsm.specs.declared.view.View.{View}
use Rattle.reads.specs.Packed.{sheet_bytes, view_of}

sheet-length : length sheet_bytes ≡ 126
unfolding definitions pack_all pair_bytes sheet_bytes
sheet-length = refl

pub plain-readable : (r : ℕ) → Readable sheet_bytes (view_of 0 31 79 79 79 r)
unfolding definitions up_to read_all pack_all packed_by lawful in_order pair_bytes one_pair fitting sheet_bytes
plain-readable r =
    record {
      few = omega arith;
      lawfully = refl;
      ordered = refl;
      own = record { order = omega arith; inside = omega (arith, sheet-length); whole = refl };
    }

pub own-readable : (r : ℕ) → Readable sheet_bytes (view_of 0 31 79 79 94 r)
unfolding definitions up_to read_all pack_all packed_by lawful in_order pair_bytes one_pair fitting sheet_bytes
own-readable r =
    record {
      few = omega arith;
      lawfully = refl;
      ordered = refl;
      own = record { order = omega arith; inside = omega (arith, sheet-length); whole = refl };
    }

pub other-readable : (r : ℕ) → Readable sheet_bytes (view_of 94 110 126 126 126 r)
unfolding definitions up_to read_all pack_all packed_by lawful in_order pair_bytes one_pair fitting sheet_bytes
other-readable r =
    record {
      few = omega arith;
      lawfully = refl;
      ordered = refl;
      own = record { order = omega arith; inside = omega (arith, sheet-length); whole = refl };
    }

-- the view that was made is one that can be read
pub can-read : (s : Bytes) (v w : View) → s ≡ sheet_bytes → v ≡ w → Readable sheet_bytes w → Readable s v
can-read s v w e f h = subst (λ (b : Bytes). Readable b v) (sym e) (subst (λ (x : View). Readable sheet_bytes x) (sym f) h)

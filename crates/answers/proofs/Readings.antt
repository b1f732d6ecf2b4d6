-- The list's bytes can be read: the parts that the views name are runs' records and pairs in key order. All of it is computed.
-- Assumes nothing.
use native.Mathlib.Omega.{arith}
use mathlib.Core.Path.{◌≡◌, refl, sym, subst}
use Prim.Native.Nat.{ℕ}
use lib.ListN.{length}
use Rattle.paper.specs.Keys.{Bytes}
use Rattle.paper.specs.Computing.{definitions}
use Rattle.key.specs.Packing.{up_to, read_all, pack_all, packed_by}
use Rattle.merge.specs.Cursors.{lawful, in_order}
use Rattle.lsm.specs.Pairs.{pair_bytes, one_pair, fitting}
use Rattle.lsm.specs.Views.{Readable}
use Rattle.lsm.specs.declared.view.View.{View}
use Rattle.answers.specs.Packed.{list_bytes, plain_view, topped_view, turned_view}

list_length : length list_bytes ≡ 336
unfolding list_bytes
list_length = refl

pub plain-readable : (r : ℕ) → Readable list_bytes (plain_view r)
unfolding definitions up_to read_all pack_all packed_by lawful in_order pair_bytes one_pair fitting list_bytes
plain-readable r =
    record {
      few = omega arith;
      lawfully = refl;
      ordered = refl;
      own = record { order = omega arith; inside = omega (arith, list_length); whole = refl };
    }

pub topped-readable : (r : ℕ) → Readable list_bytes (topped_view r)
unfolding definitions up_to read_all pack_all packed_by lawful in_order pair_bytes one_pair fitting list_bytes
topped-readable r =
    record {
      few = omega arith;
      lawfully = refl;
      ordered = refl;
      own = record { order = omega arith; inside = omega (arith, list_length); whole = refl };
    }

pub turned-readable : (r : ℕ) → Readable list_bytes (turned_view r)
unfolding definitions up_to read_all pack_all packed_by lawful in_order pair_bytes one_pair fitting list_bytes
turned-readable r =
    record {
      few = omega arith;
      lawfully = refl;
      ordered = refl;
      own = record { order = omega arith; inside = omega (arith, list_length); whole = refl };
    }

-- the view that was made is one that can be read
pub can-read : (s : Bytes) (v w : View) → s ≡ list_bytes → v ≡ w → Readable list_bytes w → Readable s v
can-read s v w e f h = subst (λ (b : Bytes). Readable b v) (sym e) (subst (λ (x : View). Readable list_bytes x) (sym f) h)

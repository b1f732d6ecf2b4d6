-- What a caller shows of its bytes: a part of them is a run's records, or an overlay's pairs.
-- Assumes nothing.
use mathlib.Core.Path.{◌≡◌, sym, ap, ◌∙◌}
use mathlib.Core.Bool.{true}
use mathlib.Core.List.{List, ◌++◌, append_assoc}
use Prim.Native.Nat.{ℕ, ◌+◌, ◌-◌, ◌≤◌, ◌<◌}
use lib.ListN.{length, drop, length-append}
use lib.Seq.{drop_at}
use Rattle.paper.specs.Lists.{all, rises}
use Rattle.paper.specs.Keys.{Bytes, Pair, cmp_pair}
use Rattle.paper.specs.Runs.{Run, is_run}
use Rattle.paper.specs.Image.{big_endian, mark, records_bytes, image_of, storable}
use Rattle.paper.proofs.ImageLaws.{length-big_endian}
use Rattle.raw.specs.Bytes.{part}
use Rattle.raw.proofs.Parts.{drop-part}
use Rattle.key.specs.Versions.{versions, packed}
use Rattle.merge.specs.Cursors.{lawful, left}
use Rattle.lsm.specs.Pairs.{pairs_bytes, pairs, fitting, packed_pairs, own_in, OwnAt}
use Rattle.merge.specs.declared.heap.Cursor.{Cursor}
use Rattle.key.proofs.Packed.{versions-records, packed-records}
use Rattle.merge.proofs.CursorLaws.{is_lawful}
use Rattle.lsm.proofs.PairLaws.{pairs-back, packed-pairs}

-- ---- a run
module _ (s : Bytes) (c : Cursor) (r : Run) (order : c.at ≤ c.end) (inside : c.end ≤ length s) (is_in : part s c.at (c.end - c.at) ≡ records_bytes r) (fits : all storable r ≡ true) where
  -- a cursor over the records of a run has that run left
  pub run-left : left s c ≡ r
  run-left = ap versions is_in ∙ versions-records r fits

  pub run-lawful : c.run < 17 → is_run r ≡ true → lawful s c ≡ true
  run-lawful n u = is_lawful s c (record { order = order; inside = inside; run = n; whole = ap packed is_in ∙ packed-records r u fits })

headed : (r : Run) → image_of r ≡ (mark ++ (big_endian 2 1 ++ big_endian 4 (length r))) ++ records_bytes r
unfolding image_of
headed r = simp append_assoc

-- an image has nine bytes before its records
pub image-records : (s : Bytes) (at n : ℕ) (r : Run) → part s at n ≡ image_of r → part s (at + 9) (n - 9) ≡ records_bytes r
image-records s at n r e =
    sym (drop-part s at n 9) ∙ ap (drop 9) (e ∙ headed r)
    ∙ drop_at (mark ++ (big_endian 2 1 ++ big_endian 4 (length r))) (records_bytes r) 9 (nine r)
  where
    nine : (r : Run) → length (mark ++ (big_endian 2 1 ++ big_endian 4 (length r))) ≡ 9
    nine r = simp (length-append, length-big_endian)

-- ---- own writes
module _ (s : Bytes) (at end : ℕ) (ps : List Pair) (order : at ≤ end) (inside : end ≤ length s) (is_in : part s at (end - at) ≡ pairs_bytes ps) (fits : all fitting ps ≡ true) where
  pub own_is : own_in s at end ≡ ps
  own_is = ap pairs is_in ∙ pairs-back ps fits

  pub own_at : rises cmp_pair ps ≡ true → OwnAt s at end
  own_at r = record { order = order; inside = inside; whole = ap packed_pairs is_in ∙ packed-pairs ps r fits }

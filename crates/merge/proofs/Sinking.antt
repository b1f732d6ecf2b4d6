-- The laws of a heap's place and its two children, in the order of cursors.
-- Assumes nothing.
use native.Mathlib.Omega.{arith}
use mathlib.Core.Path.{◌≡◌}
use mathlib.Core.Bool.{true, false}
use mathlib.Core.List.{List}
use Prim.Native.Nat.{ℕ, ◌+◌, ◌*◌, ◌≤◌, ◌<◌}
use lib.ListN.{get_or}
use Rattle.paper.specs.Keys.{Bytes}
use Rattle.merge.specs.Shape.{Smaller, Next}
use Rattle.merge.specs.Cursors.{bef, nowhere}
use Rattle.merge.specs.declared.heap.Cursor.{Cursor}
use Rattle.merge.proofs.HeapLaws as law
use Rattle.merge.proofs.Rank.{le_refl, le_trans, bef-le}

module _ (s : Bytes) (l : List Cursor) (n at : ℕ) where
  abbrev left : ℕ
  left = 2 * at + 1

  abbrev right : ℕ
  right = 2 * at + 1 + 1

  -- the child that comes first
  pub right_first : right < n → bef s (get_or l right nowhere) (get_or l left nowhere) ≡ true → Smaller (bef s) nowhere l n at right
  right_first = law.right-first (bef s) nowhere (le_refl s) (bef-le s) (le_trans s) l n at left right (omega arith) (omega arith)

  pub left_first : right < n → bef s (get_or l right nowhere) (get_or l left nowhere) ≡ false → Smaller (bef s) nowhere l n at left
  left_first = law.left-first (bef s) nowhere (le_refl s) (bef-le s) (le_trans s) l n at left right (omega arith) (omega arith)

  pub left_only : left < n → n ≤ right → Smaller (bef s) nowhere l n at left
  left_only = law.left-only (bef s) nowhere (le_refl s) (bef-le s) (le_trans s) l n at left right (omega arith) (omega arith)

  -- `at` and both children, by which of them come before it
  pub both_rise : right < n → (r : ℕ) → Smaller (bef s) nowhere l n at r → bef s (get_or l left nowhere) (get_or l at nowhere) ≡ true → Next (bef s) nowhere l n at r
  both_rise = law.both-rise (bef s) nowhere (le_refl s) (bef-le s) (le_trans s) l n at left right (omega arith) (omega arith)

  pub left_rises : right < n → bef s (get_or l left nowhere) (get_or l at nowhere) ≡ true → bef s (get_or l right nowhere) (get_or l at nowhere) ≡ false → Next (bef s) nowhere l n at left
  left_rises = law.left_alone (bef s) nowhere (le_refl s) (bef-le s) (le_trans s) l n at left right (omega arith) (omega arith)

  pub right_rises : right < n → bef s (get_or l left nowhere) (get_or l at nowhere) ≡ false → bef s (get_or l right nowhere) (get_or l at nowhere) ≡ true → Next (bef s) nowhere l n at right
  right_rises = law.right-alone (bef s) nowhere (le_refl s) (bef-le s) (le_trans s) l n at left right (omega arith) (omega arith)

  pub none_rises : right < n → bef s (get_or l left nowhere) (get_or l at nowhere) ≡ false → bef s (get_or l right nowhere) (get_or l at nowhere) ≡ false → Next (bef s) nowhere l n at at
  none_rises = law.neither (bef s) nowhere (le_refl s) (bef-le s) (le_trans s) l n at left right (omega arith) (omega arith)

  -- `at` with one child, or with none
  pub childless : n ≤ left → Next (bef s) nowhere l n at at
  childless h = law.no-child (bef s) nowhere (le_refl s) (bef-le s) (le_trans s) l n at (omega arith)

  pub only_rises : left < n → n ≤ right → bef s (get_or l left nowhere) (get_or l at nowhere) ≡ true → Next (bef s) nowhere l n at left
  only_rises a b = law.go-down (bef s) nowhere (le_refl s) (bef-le s) (le_trans s) l n at left (left_only a b)

  pub only_stays : left < n → n ≤ right → bef s (get_or l left nowhere) (get_or l at nowhere) ≡ false → Next (bef s) nowhere l n at at
  only_stays a b = law.stay (bef s) nowhere (le_refl s) (bef-le s) (le_trans s) l n at left (left_only a b)

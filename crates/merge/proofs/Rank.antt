-- The order of cursors: no cursor comes before itself, of two at most one comes before the other, and "not before" is transitive.
-- Assumes nothing.
use mathlib.Core.Path.{◌≡◌, refl, sym, ap, ◌∙◌}
use mathlib.Core.Bool.{true, false, true≢false}
use Prim.Native.Nat.{compare, Ordering}
use Rattle.paper.specs.Lists.{then_by, is_lt}
use Rattle.paper.specs.Keys.{Bytes, cmp_version}
use Rattle.paper.proofs.Bools.{is_lt-lt}
use Rattle.paper.proofs.Order.{turned, IsOrder, compare-order, through-order, then_by-order}
use Rattle.paper.proofs.KeyOrder.{version-order}
use Rattle.key.specs.Versions.{version_at}
use Rattle.merge.specs.Cursors.{bef, nowhere}
use Rattle.merge.specs.Shape.{Le}
use Rattle.merge.specs.declared.heap.Cursor.{Cursor}

module _ {A : Type 0} (cmp : A → A → Ordering) (ord : IsOrder cmp) where
  pub not_itself : (a : A) → is_lt (cmp a a) ≡ false
  not_itself a = ap is_lt (ord.same a)

  pub one_way : (a b : A) → is_lt (cmp a b) ≡ true → is_lt (cmp b a) ≡ false
  unfolding turned
  one_way a b h = ap is_lt (ord.turn a b ∙ ap turned (is_lt-lt (cmp a b) h))

  pub not-before-trans : (a b c : A) → is_lt (cmp b a) ≡ false → is_lt (cmp c b) ≡ false → is_lt (cmp c a) ≡ false
  unfolding turned
  not-before-trans a b c p q = go (cmp c a) (cmp c b) refl refl
    where
      go : (o r : Ordering) → cmp c a ≡ o → cmp c b ≡ r → is_lt (cmp c a) ≡ false
      go Ordering.eq r e f = ap is_lt e
      go Ordering.gt r e f = ap is_lt e
      go Ordering.lt Ordering.lt e f = absurd (true≢false (sym (ap is_lt f) ∙ q))
      go Ordering.lt Ordering.eq e f = ap is_lt (ord.like c b a f) ∙ p
      go Ordering.lt Ordering.gt e f =
          let l : cmp b c ≡ Ordering.lt = ord.turn c b ∙ ap turned f in
          absurd (true≢false (sym (ap is_lt (ord.trans b c a l e)) ∙ p))

module _ (s : Bytes) where
  abbrev pub cmp_cursor : Cursor → Cursor → Ordering
  cmp_cursor a b = then_by (cmp_version (version_at s a.at) (version_at s b.at)) (compare a.run b.run)

  pub cursor-order : IsOrder cmp_cursor
  cursor-order =
      then_by-order (λ a b. cmp_version (version_at s a.at) (version_at s b.at)) (λ a b. compare a.run b.run)
      (through-order cmp_version version-order (λ c. version_at s c.at)) (through-order compare compare-order (λ c. c.run))

  pub le_refl : (a : Cursor) → Le (bef s) nowhere a a
  unfolding bef
  le_refl a = not_itself cmp_cursor cursor-order a

  pub bef-le : (a b : Cursor) → bef s a b ≡ true → Le (bef s) nowhere a b
  unfolding bef
  bef-le a b h = one_way cmp_cursor cursor-order a b h

  pub le_trans : (a b c : Cursor) → Le (bef s) nowhere a b → Le (bef s) nowhere b c → Le (bef s) nowhere a c
  unfolding bef
  le_trans a b c p q = not-before-trans cmp_cursor cursor-order a b c p q

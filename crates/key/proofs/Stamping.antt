-- What the two ends of a key's range mean: every version of the key lies between them, and no version of another key does.
-- Assumes nothing.
use native.Mathlib.Omega.{arith}
use mathlib.Core.Path.{◌≡◌, refl, sym, ap, ◌∙◌}
use mathlib.Core.Bool.{false, false≢true}
use Prim.Native.Nat.{ℕ, ◌≤◌, compare, Ordering}
use borrow.Author.Tests.{le-ltb}
use Rattle.paper.specs.Lists.{then_by, is_lt}
use Rattle.paper.specs.Keys.{Bytes, Version, cmp_key, cmp_version}
use Rattle.paper.specs.Settings.{most_number}
use Rattle.paper.proofs.Order.{turned}
use Rattle.paper.proofs.KeyOrder.{key-order, key-eq}
use Rattle.raw.proofs.Comparing.{less-than, compare-numbers}
use Rattle.key.specs.Stamps.{range_begin, range_end, stamped, cmp_stamp}
use Rattle.key.specs.declared.KeyStamp.{KeyStamp}
use Rattle.std.specs.Ordering.{nat_cmp, on, flip_args}
use Rattle.raw.specs.Orders.{ordering}

-- a number is not below one that is at most it
not-less : (m n : ℕ) → n ≤ m → is_lt (compare m n) ≡ false
not-less m n h = sym (less-than m n) ∙ le-ltb m n h

module _ (v : Version) (t : KeyStamp) where
  -- of one key, the timestamps decide
  v-first : cmp_version v (stamped v.key t) ≡ compare t.time v.time
  unfolding cmp_version
  v-first = ap (λ o. then_by o (compare t.time v.time)) (key-order.same v.key)

  t-first : cmp_version (stamped v.key t) v ≡ compare v.time t.time
  unfolding cmp_version
  t-first = ap (λ o. then_by o (compare v.time t.time)) (key-order.same v.key)

  -- no version of the key comes before the key at the beginning of the range
  pub range-begin : t.time ≡ range_begin → v.time ≤ most_number → is_lt (cmp_version v (stamped v.key t)) ≡ false
  range-begin e h = ap is_lt v-first ∙ not-less t.time v.time (omega arith)

  -- and none after the key at its end
  pub range-end : t.time ≡ range_end → is_lt (cmp_version (stamped v.key t) v) ≡ false
  range-end e = ap is_lt t-first ∙ not-less v.time t.time (omega arith)

-- a version that lies between the ends of a key's range is one of that key
pub range-only : (v : Version) (k : Bytes) (b e : KeyStamp) → is_lt (cmp_version v (stamped k b)) ≡ false → is_lt (cmp_version (stamped k e) v) ≡ false → v.key ≡ k
unfolding cmp_version turned
range-only v k b e p q = go (cmp_key v.key k) refl
  where
    go : (o : Ordering) → cmp_key v.key k ≡ o → v.key ≡ k
    go Ordering.lt f = absurd (false≢true (sym p ∙ ap (λ o. is_lt (then_by o (compare b.time v.time))) f))
    go Ordering.eq f = key-eq v.key k f
    go Ordering.gt f =
        let g : cmp_key k v.key ≡ Ordering.lt = key-order.turn v.key k ∙ ap turned f in
        absurd (false≢true (sym q ∙ ap (λ o. is_lt (then_by o (compare v.time e.time))) g))

-- stamps compare by `cmp` as the paper's order of timestamps does
pub stamps-compare : (a b : KeyStamp) → ordering (flip_args (on (λ (k : KeyStamp). k.time) nat_cmp) a b) ≡ cmp_stamp a b
stamps-compare a b = compare-numbers b.time a.time

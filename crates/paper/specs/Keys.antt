-- Keys and values are byte strings, and versions are key, timestamp and value.
-- Assumes nothing.
use Prim.Native.Nat.{ℕ, compare, Ordering}
use Rattle.std.specs.Prelude.{Bool, List, [], ◌∷◌, ltb}
use Rattle.paper.specs.Lists.{then_by, is_same, all}

abbrev pub Bytes : Type 0
Bytes = List ℕ

-- the numbers are bytes: each is below 256
unfoldable pub octets : Bytes → Bool
octets s = all (λ b. ltb b 256) s

-- 'key bytes ascending (a prefix first)'
unfoldable pub cmp_key : Bytes → Bytes → Ordering
cmp_key [] [] = Ordering.eq
cmp_key [] (y ∷ ys) = Ordering.lt
cmp_key (x ∷ xs) [] = Ordering.gt
cmp_key (x ∷ xs) (y ∷ ys) = then_by (compare x y) (cmp_key xs ys)

abbrev pub same_key : Bytes → Bytes → Bool
same_key a b = is_same (cmp_key a b)

-- 'a version is key, 64-bit timestamp, value'; 'an empty value is a deletion'
pub record Version : Type 0 where
  pub key : Bytes
  pub time : ℕ
  pub value : Bytes

-- 'key bytes ascending, then timestamp descending'
unfoldable pub cmp_version : Version → Version → Ordering
cmp_version v w = then_by (cmp_key v.key w.key) (compare w.time v.time)

-- a key with its value: an entry of an overlay, or a pair that a scan hands out
pub record Pair : Type 0 where
  pub key : Bytes
  pub value : Bytes

unfoldable pub cmp_pair : Pair → Pair → Ordering
cmp_pair p q = cmp_key p.key q.key

-- Comparing numbers and byte strings: std's comparisons answer as the paper's, and a comparison's contract determines its answer.
-- Assumes nothing.
use native.Mathlib.Omega.{arith}
use native.Mathlib.Nat.{le_antisymm}
use mathlib.Core.Path.{◌≡◌, refl, sym, ap, ap₂, ◌∙◌}
use mathlib.Core.Bool.{Bool, true, false, not}
use mathlib.Core.List.{[], ◌∷◌}
use Prim.Native.Nat as nat
use Prim.Native.Nat.{ℕ, ◌+◌, ◌≤◌, ◌<◌, compare}
use lib.Dec.{ltb}
use borrow.Author.Tests.{ltb-true, ltb-false}
use Rattle.std.specs.Ordering as test
use Rattle.std.specs.Ordering.{nat_cmp, ordering_then, MatchOrdering}
use Rattle.std.specs.Cmp.{ranks}
use Rattle.std.specs.Cmp.Lexicographic.{slice_cmp}
use Rattle.std.specs.declared.cmp.Ordering.{Ordering}
use Rattle.std.specs.declared.cmp.Ordering.TheVariants.{Less, Equal, Greater}
use Rattle.paper.specs.Lists.{then_by, is_lt}
use Rattle.paper.specs.Keys.{Bytes, cmp_key}
use Rattle.paper.proofs.Order.{turned, compare_same, compare-turn, lt-compare, compare-lt}
use Rattle.paper.proofs.KeyOrder.{key-order}
use Rattle.raw.specs.Orders.{ordering}

-- answers that say the same are the same
pub ordering-same : (a b : Ordering) → ordering a ≡ ordering b → a ≡ b
ordering-same Less Less e = refl
ordering-same Less Equal e = cc
ordering-same Less Greater e = cc
ordering-same Equal Less e = cc
ordering-same Equal Equal e = refl
ordering-same Equal Greater e = cc
ordering-same Greater Less e = cc
ordering-same Greater Equal e = cc
ordering-same Greater Greater e = refl

-- ---- numbers

pub compare-less : (m n : ℕ) → m < n → nat.Ordering.lt ≡ compare m n
compare-less m n h = sym (lt-compare m n h)

pub compare-more : (m n : ℕ) → n < m → nat.Ordering.gt ≡ compare m n
unfolding turned
compare-more m n h = sym (compare-turn n m ∙ ap turned (lt-compare n m h))

pub compare-like : (m n : ℕ) → m ≤ n → n ≤ m → nat.Ordering.eq ≡ compare m n
compare-like m n h k = sym (ap (λ (i : ℕ). compare i n) (le_antisymm h k) ∙ compare_same n)

-- the test on two numbers
pub less-than : (m n : ℕ) → ltb m n ≡ is_lt (compare m n)
less-than m n = go (ltb m n) refl
  where
    go : (b : Bool) → ltb m n ≡ b → ltb m n ≡ is_lt (compare m n)
    go true e = e ∙ ap is_lt (compare-less m n (ltb-true m n e))
    go false e = e ∙ sym (not-less (ltb-false m n e))
      where
        not-less : n ≤ m → is_lt (compare m n) ≡ false
        not-less h = at_least (compare m n) refl
          where
            at_least : (o : nat.Ordering) → compare m n ≡ o → is_lt (compare m n) ≡ false
            at_least nat.Ordering.lt f = absurd (omega (arith, compare-lt m n f))
            at_least nat.Ordering.eq f = ap is_lt f
            at_least nat.Ordering.gt f = ap is_lt f

-- std's answer is the paper's
pub compare-numbers : (m n : ℕ) → ordering (nat_cmp m n) ≡ compare m n
compare-numbers m n = go (nat_cmp m n) (ranks m n)
  where
    go : (o : Ordering) → MatchOrdering o (m < n) (m ≡ n) (n < m) → ordering o ≡ compare m n
    go Less h = compare-less m n h
    go Equal h = compare-like m n (omega (arith, h)) (omega (arith, h))
    go Greater h = compare-more m n h

-- ---- byte strings, and one comparison after another

pub ordering-then : (o p : Ordering) → ordering (ordering_then o p) ≡ then_by (ordering o) (ordering p)
ordering-then Less p = refl
ordering-then Equal p = refl
ordering-then Greater p = refl

-- std's answer is the paper's
pub compare-keys : (a b : Bytes) → ordering (slice_cmp nat_cmp a b) ≡ cmp_key a b
unfolding cmp_key
compare-keys [] [] = refl
compare-keys [] (y ∷ ys) = refl
compare-keys (x ∷ xs) [] = refl
compare-keys (x ∷ xs) (y ∷ ys) =
    ordering-then (nat_cmp x y) (slice_cmp nat_cmp xs ys) ∙ ap₂ then_by (compare-numbers x y) (compare-keys xs ys)

-- the tests of an answer: whether it says 'before', and 'not behind'
pub says-before : (a b : Bytes) (o : Ordering) → ordering o ≡ cmp_key a b → test.is_lt o ≡ is_lt (cmp_key a b)
says-before a b Less e = ap is_lt e
says-before a b Equal e = ap is_lt e
says-before a b Greater e = ap is_lt e

pub says-at_most : (a b : Bytes) (o : Ordering) → ordering o ≡ cmp_key a b → test.is_le o ≡ not (is_lt (cmp_key b a))
unfolding turned
says-at_most a b o e = tested o e ∙ ap (λ p. not (is_lt p)) (sym (key-order.turn a b))
  where
    tested : (o : Ordering) → ordering o ≡ cmp_key a b → test.is_le o ≡ not (is_lt (turned (cmp_key a b)))
    tested Less e = ap (λ p. not (is_lt (turned p))) e
    tested Equal e = ap (λ p. not (is_lt (turned p))) e
    tested Greater e = ap (λ p. not (is_lt (turned p))) e

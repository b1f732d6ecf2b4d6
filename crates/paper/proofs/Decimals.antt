-- Decimal digits: the last one, and how many there are.
-- Assumes nothing.
use native.Mathlib.Omega.{arith}
use native.Mathlib.Nat.{pow-suc}
use mathlib.Core.Path.{◌≡◌, refl}
use mathlib.Core.Bool.{Bool, true, false}
use mathlib.Core.List.{[], ◌∷◌}
use Prim.Native.Nat.{ℕ, zero, suc, ◌+◌, ◌*◌, ◌/◌, ◌%◌, ◌^◌, ◌≤◌, ◌<◌}
use borrow.Author.Tests.{lt-ltb, le-ltb, ltb-true, ltb-false}
use lib.Dec.{ltb}
use lib.ListN.{length}
use Rattle.paper.specs.Keys.{Bytes}
use Rattle.paper.specs.Replay.{decimal, decimal_of}

-- ---- one digit

pub decimal-last : (f n : ℕ) (tail : Bytes) → n < 10 → decimal (suc f) n tail ≡ (48 + n) ∷ tail
unfolding decimal
decimal-last f n tail h = simp (lt-ltb n 10 h)

pub decimal-turn : (f n : ℕ) (tail : Bytes) → 10 ≤ n → decimal (suc f) n tail ≡ decimal f (n / 10) ((48 + n % 10) ∷ tail)
unfolding decimal
decimal-turn f n tail h = simp (le-ltb n 10 h)

-- ---- how many digits

pub fewer_digits : (n k : ℕ) → n < 10 ^ suc k → n / 10 < 10 ^ k
fewer_digits n k h = let e : 10 ^ suc k ≡ 10 ^ k * 10 = pow-suc 10 k in omega arith

-- one digit more than those of the quotient
length-turn : (f n k : ℕ) (tail : Bytes) → 1 ≤ k → (10 ≤ n → length (decimal f (n / 10) ((48 + n % 10) ∷ tail)) ≤ k + length tail) → length (decimal (suc f) n tail) ≤ k + length tail
length-turn f n k tail l more = go (ltb n 10) refl
  where
    go : (b : Bool) → ltb n 10 ≡ b → length (decimal (suc f) n tail) ≤ k + length tail
    go true e = rw (decimal-last f n tail (ltb-true n 10 e)) (omega arith)
    go false e = rw (decimal-turn f n tail (ltb-false n 10 e)) (more (ltb-false n 10 e))

length-at-most : (f n : ℕ) (tail : Bytes) → length (decimal f n tail) ≤ f + length tail
unfolding decimal
length-at-most zero n tail = omega arith
length-at-most (suc f) n tail =
    length-turn f n (suc f) tail (omega arith) (λ l. omega (arith, length-at-most f (n / 10) ((48 + n % 10) ∷ tail)))

length-below : (f k n : ℕ) (tail : Bytes) → n < 10 ^ suc k → length (decimal f n tail) ≤ suc k + length tail
unfolding decimal
length-below zero k n tail h = omega arith
length-below (suc f) zero n tail h = length-turn f n 1 tail (omega arith) (λ l. omega arith)
length-below (suc f) (suc k) n tail h =
    length-turn f n (suc (suc k)) tail (omega arith) (λ l. omega (arith, length-below f k (n / 10) ((48 + n % 10) ∷ tail) (fewer_digits n (suc k) h)))

pub decimal-length : (n : ℕ) → length (decimal_of n) ≤ 20
decimal-length n = omega (arith, length-at-most 20 n [])

-- a number below 10^k has at most k digits
pub decimal-digits : (n k : ℕ) → n < 10 ^ k → 1 ≤ k → length (decimal_of n) ≤ k
decimal-digits n zero h l = omega arith
decimal-digits n (suc k) h l = omega (arith, length-below 20 k n [] h)

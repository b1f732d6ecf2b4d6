-- Big-endian numbers at any width: a number of two parts, read and written, and a number that is read back.
-- Assumes nothing.
use native.Mathlib.Omega.{arith}
use native.Mathlib.Nat.{pow-suc, pow-le-pow_right, div-one, div-div-eq-div-mul, suc-add, zero-add, mod-eq_of_lt}
use native.Mathlib.Numerals.{add-one}
use mathlib.Core.Path.{◌≡◌, refl, sym, ap, ap₂, ◌∙◌, subst}
use mathlib.Core.Bool.{true}
use mathlib.Core.List.{[], ◌∷◌, ◌++◌}
use Prim.Native.Nat.{ℕ, zero, suc, ◌+◌, ◌*◌, ◌/◌, ◌%◌, ◌^◌, ◌-◌, ◌≤◌, ◌<◌}
use lib.ListN.{length, take, drop, get_or}
use lib.Dec.{lit<}
use lib.Seq.{take-suc, take-length}
use Rattle.std.specs.Int.{w64, to_be_bytes, bytes_high_first}
use Rattle.paper.specs.Keys.{Bytes, octets}
use Rattle.paper.specs.Image.{big_endian, number_from}
use Rattle.paper.proofs.ImageLaws.{length-big_endian, number-big_endian}
use Rattle.paper.proofs.ImageBack.{number-below, bytes-again}
use Rattle.raw.specs.Bytes.{part, over}
use Rattle.raw.proofs.Parts.{length_part, get_d_part, part-append}
use Rattle.raw.proofs.Over.{over-after, part-over}
use Rattle.raw.proofs.Octets.{octets-part}

-- ---- a number of two parts, read

pub number_append : (a b : Bytes) (m : ℕ) → number_from m (a ++ b) ≡ number_from (number_from m a) b
unfolding number_from
number_append [] b m = refl
number_append (x ∷ a) b m = number_append a b (m * 256 + x)

shifted : (m y P a b c : ℕ) → a ≡ (m * 256 + y) * P + c → b ≡ (0 * 256 + y) * P + c → a ≡ m * (P * 256) + b
shifted m y P a b c e f = omega arith

pub number-shift : (b : Bytes) (m : ℕ) → number_from m b ≡ m * 256 ^ length b + number_from 0 b
unfolding number_from
number-shift [] m = omega arith
number-shift (y ∷ b) m =
    shifted m y (256 ^ length b) (number_from (m * 256 + y) b) (number_from (0 * 256 + y) b) (number_from 0 b) (number-shift b (m * 256 + y)) (number-shift b (0 * 256 + y))
    ∙ ap (λ (q : ℕ). m * q + number_from (0 * 256 + y) b) (sym (pow-suc 256 (length b)))

-- the number in n + m bytes, from those in the first n and in the last m
pub number-parts : (l : Bytes) (at n m : ℕ) → at + (n + m) ≤ length l → number_from 0 (part l at (n + m)) ≡ number_from 0 (part l at n) * 256 ^ m + number_from 0 (part l (at + n) m)
number-parts l at n m h =
    ap (number_from 0) (part-append l at n m)
    ∙ number_append (part l at n) (part l (at + n) m) 0
    ∙ number-shift (part l (at + n) m) (number_from 0 (part l at n))
    ∙ ap (λ (k : ℕ). number_from 0 (part l at n) * 256 ^ k + number_from 0 (part l (at + n) m)) (length_part l (at + n) m (omega arith))

-- an index into the n bytes from `at`, and the byte there
pub within : (l : Bytes) (at n i : ℕ) → at + n ≤ length l → i < length (part l at (at + n - at)) → i < n
within l at n i h k =
    let e : at + n - at ≡ n = omega arith in
    subst (λ (w : ℕ). i < w) (length_part l at n h) (subst (λ (w : ℕ). i < length (part l at w)) e k)

pub byte-within : (l : Bytes) (at n i : ℕ) → i < n → get_or (part l at (at + n - at)) i 0 ≡ get_or l (at + i) 0
byte-within l at n i h =
    let e : at + n - at ≡ n = omega arith in
    ap (λ (w : ℕ). get_or (part l at w) i 0) e ∙ get_d_part l at n i h

-- one byte more
pub number-snoc : (b : Bytes) (i n : ℕ) → i < length b → n ≡ number_from 0 (take i b) → n * 256 + get_or b i 0 ≡ number_from 0 (take (i + 1) b)
unfolding number_from
number-snoc b i n h e =
    ap (λ (m : ℕ). m * 256 + get_or b i 0) e
    ∙ sym (number_append (take i b) (get_or b i 0 ∷ []) 0)
    ∙ ap (number_from 0) (sym (take-suc b i 0 h) ∙ ap (λ (j : ℕ). take j b) (sym (add-one i)))

-- the number with one byte more fits one byte more, and 64 bits where those are at most 8
pub byte-more : (n i b : ℕ) → n < 256 ^ i → b < 256 → n * 256 + b < 256 ^ (i + 1)
byte-more n i b h k =
    let e : 256 ^ (i + 1) ≡ 256 ^ i * 256 = ap (λ (j : ℕ). 256 ^ j) (add-one i) ∙ pow-suc 256 i in
    omega (arith, e)

pub room-for-byte : (n i m : ℕ) → n < 256 ^ i → i < m → m ≤ 8 → n * 256 + 255 < 256 ^ 8
room-for-byte n i m h k w =
    let p : 256 ^ (i + 1) ≤ 256 ^ 8 = pow-le-pow_right (lit< tt) {i = i + 1} {j = 8} (omega arith) in
    omega (arith, p, byte-more n i 255 h (lit< tt))

-- the number in w bytes fits w bytes
pub number_fits : (l : Bytes) (at w : ℕ) → octets l ≡ true → at + w ≤ length l → number_from 0 (part l at w) < 256 ^ w
number_fits l at w o h =
    subst (λ (k : ℕ). number_from 0 (part l at w) < 256 ^ k) (length_part l at w h) (number-below (part l at w) (octets-part l at w o))

-- ---- a number of two parts, written

pow-sum : (n m : ℕ) → 256 ^ (n + m) ≡ 256 ^ m * 256 ^ n
pow-sum zero m = ap (λ (k : ℕ). 256 ^ k) (zero-add m) ∙ omega arith
pow-sum (suc n) m =
    ap (λ (k : ℕ). 256 ^ k) (suc-add n m) ∙ pow-suc 256 (n + m) ∙ ap (λ (k : ℕ). k * 256) (pow-sum n m)
    ∙ times (256 ^ m) (256 ^ n) ∙ ap (λ (k : ℕ). 256 ^ m * k) (sym (pow-suc 256 n))
  where
    times : (a b : ℕ) → a * b * 256 ≡ a * (b * 256)
    times a b = omega arith

-- n's high bytes are those of the quotient
pub big_endian-parts : (n m v : ℕ) → big_endian (n + m) v ≡ big_endian n (v / 256 ^ m) ++ big_endian m v
unfolding big_endian
big_endian-parts zero m v = ap (λ (k : ℕ). big_endian k v) (zero-add m)
big_endian-parts (suc n) m v =
    let d : v / 256 ^ (n + m) ≡ v / 256 ^ m / 256 ^ n = ap (λ (k : ℕ). v / k) (pow-sum n m) ∙ sym (div-div-eq-div-mul v (256 ^ m) (256 ^ n)) in
    ap (λ (k : ℕ). big_endian k v) (suc-add n m)
    ∙ ap₂ {C = Bytes} (λ q r. q % 256 ∷ r) d (big_endian-parts n m v)

-- the quotient in n bytes and then the number in m are the number in n + m bytes
pub put-parts : (l : Bytes) (at n m v : ℕ) → at ≤ length l → over (over l at (big_endian n (v / 256 ^ m))) (at + n) (big_endian m v) ≡ over l at (big_endian (n + m) v)
put-parts l at n m v h =
    over-after l at (big_endian n (v / 256 ^ m)) h (at + n) (big_endian m v) (ap (λ (k : ℕ). at + k) (sym (length-big_endian n (v / 256 ^ m))))
    ∙ ap (over l at) (sym (big_endian-parts n m v))

-- the low n of std's 8 bytes
high-first : (k v : ℕ) → bytes_high_first k v ≡ big_endian k v
unfolding big_endian
high-first zero v = refl
high-first (suc zero) v = ap {B = Bytes} (λ q. q % 256 ∷ []) (sym (div-one v))
high-first (suc (suc k)) v = ap {B = Bytes} (λ r. v / 256 ^ suc k % 256 ∷ r) (high-first (suc k) v)

low-part : (k n v : ℕ) → drop k (big_endian (k + n) v) ≡ big_endian n v
unfolding big_endian
low-part zero n v = ap (λ (m : ℕ). big_endian m v) (zero-add n)
low-part (suc k) n v = ap (λ (m : ℕ). drop (suc k) (big_endian m v)) (suc-add k n) ∙ low-part k n v

pub low-bytes : (n v : ℕ) → n ≤ 8 → take (8 - (8 - n)) (drop (8 - n) (to_be_bytes w64 v)) ≡ big_endian n v
low-bytes n v h =
    let e : 8 ≡ 8 - n + n = omega arith in
    let w : 8 - (8 - n) ≡ length (big_endian n v) = omega (arith, length-big_endian n v) in
    ap (λ (b : Bytes). take (8 - (8 - n)) (drop (8 - n) b)) (high-first 8 v ∙ ap (λ (k : ℕ). big_endian k v) e)
    ∙ ap (take (8 - (8 - n))) (low-part (8 - n) n v)
    ∙ ap (λ (k : ℕ). take k (big_endian n v)) w
    ∙ take-length (big_endian n v)

-- ---- read back

-- what was written is read
pub number-over : (l : Bytes) (at w v : ℕ) → at ≤ length l → v < 256 ^ w → number_from 0 (part (over l at (big_endian w v)) at w) ≡ v
number-over l at w v h k =
    ap (λ (n : ℕ). number_from 0 (part (over l at (big_endian w v)) at n)) (sym (length-big_endian w v))
    ∙ ap (number_from 0) (part-over l at (big_endian w v) h)
    ∙ number-big_endian w 0 v
    ∙ omega (arith, mod-eq_of_lt k)

-- what was read is written as it stood
pub big_endian-again : (l : Bytes) (at w : ℕ) → octets l ≡ true → at + w ≤ length l → big_endian w (number_from 0 (part l at w)) ≡ part l at w
big_endian-again l at w o h =
    ap (λ (k : ℕ). big_endian k (number_from 0 (part l at w))) (sym (length_part l at w h)) ∙ bytes-again (part l at w) (octets-part l at w o)

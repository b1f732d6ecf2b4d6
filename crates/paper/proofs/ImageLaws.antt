-- Reading an image finds the run that it was made of.
-- Assumes nothing.
use Prim.Native.Nat.{ℕ, zero, suc, ◌+◌, ◌*◌, ◌/◌, ◌%◌, ◌^◌, ◌<◌, ◌≤◌}
use native.Mathlib.Nat.{mod-one, mod-eq_of_lt, pow-succ'}
use native.Mathlib.Omega.{arith}
use mathlib.Core.Path.{◌≡◌, refl, ap, ◌∙◌}
use mathlib.Core.Bool.{true, ◌&&◌}
use mathlib.Core.List.{[], ◌∷◌, ◌++◌, append_assoc, append-nil}
use mathlib.Core.Option.{Option, some}
use lib.ListN.{length, length-append}
use lib.Seq.{take_at, drop_at}
use lib.Arith.{mod-mul}
use lib.Dec.{leb, lit<}
use borrow.Author.Tests.{le-leb, leb-true}
use Rattle.paper.specs.Lists.{all}
use Rattle.paper.specs.Keys.{Bytes, Version, cmp_key}
use Rattle.paper.specs.Runs.{Run}
use Rattle.paper.specs.Settings.{longest, most_number}
use Rattle.paper.specs.Image.{big_endian, mark, record_bytes, records_bytes, image_of, bytes, number_from, number, one_record, records, body, good, is_whole, verdict, storable}
use Rattle.paper.proofs.Bools.{and_left, and_right}

pub pow256-pos : (w : ℕ) → zero < 256 ^ w
pow256-pos zero = lit< tt
pow256-pos (suc w) = let h = pow256-pos w in rw pow-succ' (omega arith)

pub length-big_endian : (w n : ℕ) → length (big_endian w n) ≡ w
unfolding big_endian
length-big_endian zero n = refl
length-big_endian (suc w) n = ap suc (length-big_endian w n)

pub number-big_endian : (w a n : ℕ) → number_from a (big_endian w n) ≡ a * 256 ^ w + n % 256 ^ w
unfolding big_endian number_from
number-big_endian zero a n = rw mod-one (omega arith)
number-big_endian (suc w) a n =
    number-big_endian w (a * 256 + n / 256 ^ w % 256) n
    ∙ rw (pow-succ', mod-mul n {m = 256} {c = 256 ^ w} (lit< tt) (pow256-pos w)) (omega arith)

pub bytes-at : (a s : Bytes) (n : ℕ) → length a ≡ n → bytes n (a ++ s) ≡ some (a, s)
unfolding bytes
bytes-at a s n e = simp (le-leb n (length (a ++ s)) fits, take_at a s n e, drop_at a s n e)
  where
    fits : n ≤ length (a ++ s)
    fits = rw length-append (omega arith)

pub number_at : (w n : ℕ) (s : Bytes) → n < 256 ^ w → number w (big_endian w n ++ s) ≡ some (n, s)
unfolding number
number_at w n s h =
    rw (bytes-at (big_endian w n) s w (length-big_endian w n))
    (ap {B = Option (ℕ × Bytes)} (λ m. some (m, s)) (number-big_endian w 0 n ∙ rw mod-eq_of_lt (omega arith)))

pub record-at : (v : Version) (s : Bytes) → storable v ≡ true → one_record (record_bytes v ++ s) ≡ some (v, s)
unfolding one_record record_bytes storable
record-at v s h =
    simp
    (append_assoc, number_at 2 (length v.key) r1 k, bytes-at v.key r2 (length v.key) refl, number_at 8 v.time r3 t, number_at 2 (length v.value) r4 b, bytes-at v.value s (length v.value) refl)
  where
    r4 : Bytes
    r4 = v.value ++ s

    r3 : Bytes
    r3 = big_endian 2 (length v.value) ++ r4

    r2 : Bytes
    r2 = big_endian 8 v.time ++ r3

    r1 : Bytes
    r1 = v.key ++ r2

    lengths : leb (length v.key) longest && leb (length v.value) longest ≡ true
    lengths = and_left (leb (length v.key) longest && leb (length v.value) longest) (leb v.time most_number) h

    k : length v.key < 256 ^ 2
    k = omega (arith, leb-true (length v.key) longest (and_left (leb (length v.key) longest) (leb (length v.value) longest) lengths))

    b : length v.value < 256 ^ 2
    b = omega (arith, leb-true (length v.value) longest (and_right (leb (length v.key) longest) (leb (length v.value) longest) lengths))

    t : v.time < 256 ^ 8
    t = omega (arith, leb-true v.time most_number (and_right (leb (length v.key) longest && leb (length v.value) longest) (leb v.time most_number) h))

pub records-at : (vs : Run) (s : Bytes) → all storable vs ≡ true → records (length vs) (records_bytes vs ++ s) ≡ some (vs, s)
unfolding records records_bytes all
records-at [] s h = refl
records-at (v ∷ vs) s h =
    simp (append_assoc, record-at v (records_bytes vs ++ s) (and_left (storable v) (all storable vs) h), records-at vs s (and_right (storable v) (all storable vs) h))

records-end : (vs : Run) → all storable vs ≡ true → records (length vs) (records_bytes vs) ≡ some (vs, [])
records-end vs h = rw append-nil at (records-at vs [] h)

pub verdict-image : (r : Run) → is_whole r ≡ true → all storable r ≡ true → length r < 2 ^ 32 → verdict (image_of r) ≡ good r
unfolding verdict image_of body cmp_key
verdict-image r w h n =
    simp
    (bytes-at mark (big_endian 2 1 ++ (big_endian 4 (length r) ++ records_bytes r)) 3 refl, number_at 2 1 (big_endian 4 (length r) ++ records_bytes r) (lit< tt), number_at 4 (length r) (records_bytes r) (omega arith), records-end r h, w)

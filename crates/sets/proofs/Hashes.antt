-- The hashes that lie in some bytes: each in its four bytes, how many there are, parts of them, the bytes that they are, and what layout reads.
-- Assumes nothing.
use Prim.Native.Nat.{ℕ, zero, suc, ◌+◌, ◌*◌, ◌-◌, ◌/◌, ◌%◌, ◌^◌, ◌≤◌, ◌<◌, compare}
use native.Mathlib.Omega.{arith}
use native.Mathlib.Nat.{not-suc-le-zero, sub-zero, mod-eq_of_lt}
use mathlib.Core.Path.{◌≡◌, refl, sym, ap, ap₂, ◌∙◌}
use mathlib.Core.Bool.{Bool, true, false, ◌&&◌}
use mathlib.Core.List.{List, [], ◌∷◌, ◌++◌, map, append_assoc}
use mathlib.Core.Option.{none, some}
use lib.ListN.{length, take, drop, get_or, length-append, length-drop}
use lib.Seq.{drop-drop, take-add, take_at, drop_at, take-take}
use lib.Dec.{leb}
use borrow.Author.Tests.{le-leb, lt-leb, leb-true, leb-false, lt-ltb, ltb-true}
use Rattle.paper.specs.Lists.{all, rises}
use Rattle.paper.specs.Keys.{Bytes, octets}
use Rattle.paper.specs.Image.{big_endian, number_from, bytes, number}
use Rattle.paper.specs.Sound.{is_hash, is_set}
use Rattle.paper.proofs.Bools.{and_intro, and_left, and_right}
use Rattle.paper.proofs.ImageLaws.{length-big_endian, number-big_endian}
use Rattle.raw.specs.Bytes.{part, over}
use Rattle.raw.proofs.Parts.{length_part, drop-take}
use Rattle.raw.proofs.Over.{drop-over-in}
use Rattle.raw.proofs.Octets.{octets-drop}
use Rattle.raw.proofs.Numbers.{number_fits, big_endian-again}
use Rattle.layout.specs.Codec.{num, many, put_all, get_all, further, cons_of}
use Rattle.layout.specs.Layout.{hashes}
use Rattle.std.specs.Simd.{first_chunks}
use Rattle.sets.specs.Sets.{hashes_of, set_hashes, hashes_in}

-- ---- each in its four bytes

pub four_bytes : (b : Bytes) → length b ≡ 4 → get_or b 0 0 * 16777216 + get_or b 1 0 * 65536 + get_or b 2 0 * 256 + get_or b 3 0 ≡ number_from 0 b
unfolding number_from
four_bytes [] e = absurd (omega arith)
four_bytes (x ∷ []) e = absurd (omega arith)
four_bytes (x ∷ y ∷ []) e = absurd (omega arith)
four_bytes (x ∷ y ∷ z ∷ []) e = absurd (omega arith)
four_bytes (x ∷ y ∷ z ∷ w ∷ []) e = omega arith
four_bytes (x ∷ y ∷ z ∷ w ∷ v ∷ b) e = absurd (omega arith)

pub chunks-hashes : (n : ℕ) (b : Bytes) → map (λ x. number_from 0 x) (first_chunks 4 n b) ≡ hashes_of n b
unfolding hashes_of
chunks-hashes zero b = refl
chunks-hashes (suc n) b = ap (λ (t : List ℕ). number_from 0 (take 4 b) ∷ t) (chunks-hashes n (drop 4 b))

-- ---- how many, and parts of them

pub length-hashes : (n : ℕ) (b : Bytes) → length (hashes_of n b) ≡ n
unfolding hashes_of
length-hashes zero b = refl
length-hashes (suc n) b = ap suc (length-hashes n (drop 4 b))

-- four bytes further on
further-on : (i : ℕ) (b : Bytes) → drop (4 * i) (drop 4 b) ≡ drop (4 * suc i) b
further-on i b =
    let e : 4 + 4 * i ≡ 4 * suc i = omega arith in
    drop-drop (4 * i) 4 b ∙ ap (λ (k : ℕ). drop k b) e

pub drop-hashes : (n i : ℕ) (b : Bytes) → i ≤ n → drop i (hashes_of n b) ≡ hashes_of (n - i) (drop (4 * i) b)
unfolding hashes_of
drop-hashes n zero b h = ap (λ (k : ℕ). hashes_of k b) (sym (sub-zero n))
drop-hashes zero (suc i) b h = absurd (not-suc-le-zero h)
drop-hashes (suc n) (suc i) b h =
    let e : n - i ≡ suc n - suc i = omega arith in
    drop-hashes n i (drop 4 b) (omega arith) ∙ ap₂ hashes_of e (further-on i b)

pub take-hashes : (n i : ℕ) (b : Bytes) → i ≤ n → take i (hashes_of n b) ≡ hashes_of i b
unfolding hashes_of
take-hashes n zero b h = refl
take-hashes zero (suc i) b h = absurd (not-suc-le-zero h)
take-hashes (suc n) (suc i) b h = ap (λ (t : List ℕ). number_from 0 (take 4 b) ∷ t) (take-hashes n i (drop 4 b) (omega arith))

-- the hashes of the front alone
pub front-hashes : (n : ℕ) (b : Bytes) (m : ℕ) → 4 * n ≤ m → hashes_of n (take m b) ≡ hashes_of n b
unfolding hashes_of
front-hashes zero b m h = refl
front-hashes (suc n) b m h =
    ap₂ {C = List ℕ} (λ x t. number_from 0 x ∷ t) (take-take 4 m b (omega arith))
    (ap (hashes_of n) (drop-take 4 m b) ∙ front-hashes n (drop 4 b) (m - 4) (omega arith))

-- a part of some bytes that is n hashes
pub set-part : (s : Bytes) (at m n : ℕ) → m ≡ 4 * n → at + m ≤ length s → set_hashes (part s at m) ≡ hashes_in s at n
set-part s at m n e l =
    let k : length (part s at m) ≡ m = length_part s at m l in
    let i : length (part s at m) / 4 ≡ n = omega arith in
    ap (λ (j : ℕ). hashes_of j (part s at m)) i ∙ front-hashes n (drop at s) m (omega arith)

-- and the front of some bytes
pub set-front : (b : Bytes) (n : ℕ) → 4 * n ≤ length b → set_hashes (take (4 * n) b) ≡ hashes_of n b
set-front b n l = set-part b 0 (4 * n) n refl (omega arith)

-- ---- hashes have 32 bits

pub all-hashes : (n : ℕ) (b : Bytes) → octets b ≡ true → 4 * n ≤ length b → all is_hash (hashes_of n b) ≡ true
unfolding hashes_of all
all-hashes zero b o h = refl
all-hashes (suc n) b o h =
    and_intro (lt-ltb (number_from 0 (take 4 b)) 4294967296 (number_fits b 0 4 o (omega arith)))
    (all-hashes n (drop 4 b) (octets-drop 4 b o) (rw length-drop (omega arith)))

-- so a set in bytes is what rises
pub set-of : (n : ℕ) (b : Bytes) → octets b ≡ true → 4 * n ≤ length b → is_set (hashes_of n b) ≡ rises compare (hashes_of n b)
unfolding is_set
set-of n b o h =
    ap (λ (t : Bool). rises compare (hashes_of n b) && t) (all-hashes n b o h) ∙ and-true (rises compare (hashes_of n b))
  where
    and-true : (b : Bool) → b && true ≡ b
    and-true true = refl
    and-true false = refl

pub set-in : (s : Bytes) (at n : ℕ) → octets s ≡ true → at + 4 * n ≤ length s → is_set (hashes_in s at n) ≡ rises compare (hashes_in s at n)
set-in s at n o h =
    let d : length (drop at s) ≡ length s - at = length-drop at s in set-of n (drop at s) (octets-drop at s o) (omega arith)

-- ---- the bytes of hashes

-- one after the other
pub form-append : (xs ys : List ℕ) → hashes.form (xs ++ ys) ≡ hashes.form xs ++ hashes.form ys
unfolding many put_all
form-append [] ys = refl
form-append (x ∷ xs) ys =
    ap (λ (t : Bytes). (num 4).put x ++ t) (form-append xs ys) ∙ sym (append_assoc ((num 4).put x) (put_all (num 4) xs) (put_all (num 4) ys))

pub form-cons : (x : ℕ) (xs : List ℕ) → hashes.form (x ∷ xs) ≡ big_endian 4 x ++ hashes.form xs
unfolding many put_all num
form-cons x xs = refl

pub length-form : (hs : List ℕ) → length (hashes.form hs) ≡ 4 * length hs
unfolding many put_all
length-form [] = refl
length-form (x ∷ hs) = ap length (form-cons x hs) ∙ simp (length-append, length-big_endian) (omega (arith, length-form hs))

-- the hashes that were read are written as they stood
pub form-hashes : (n : ℕ) (b : Bytes) → octets b ≡ true → 4 * n ≤ length b → hashes.form (hashes_of n b) ≡ take (4 * n) b
unfolding hashes_of many put_all
form-hashes zero b o h = refl
form-hashes (suc n) b o h =
    let e : 4 + 4 * n ≡ 4 * suc n = omega arith in
    form-cons (number_from 0 (take 4 b)) (hashes_of n (drop 4 b))
    ∙ ap₂ (λ (t u : Bytes). t ++ u) (big_endian-again b 0 4 o (omega arith)) (form-hashes n (drop 4 b) (octets-drop 4 b o) (rw length-drop (omega arith)))
    ∙ sym (take-add 4 (4 * n) b) ∙ ap (λ (k : ℕ). take k b) e

-- and the hashes that were written are read
pub hashes-form : (hs : List ℕ) (r : Bytes) → all is_hash hs ≡ true → hashes_of (length hs) (hashes.form hs ++ r) ≡ hs
unfolding hashes_of all many put_all
hashes-form [] r a = refl
hashes-form (x ∷ hs) r a =
    let b : Bytes = hashes.form (x ∷ hs) ++ r in
    let e : b ≡ big_endian 4 x ++ (hashes.form hs ++ r) =
    ap (λ (t : Bytes). t ++ r) (form-cons x hs) ∙ append_assoc (big_endian 4 x) (hashes.form hs) r in
    let l : x < 256 ^ 4 = ltb-true x 4294967296 (and_left (is_hash x) (all is_hash hs) a) in
    let v : number_from 0 (big_endian 4 x) ≡ x = number-big_endian 4 0 x ∙ omega (arith, mod-eq_of_lt l) in
    ap₂ {C = List ℕ} (λ y t. y ∷ t)
    (ap (number_from 0) (ap (take 4) e ∙ take_at (big_endian 4 x) (hashes.form hs ++ r) 4 (length-big_endian 4 x)) ∙ v)
    (ap (hashes_of (length hs)) (ap (drop 4) e ∙ drop_at (big_endian 4 x) (hashes.form hs ++ r) 4 (length-big_endian 4 x)) ∙ hashes-form hs r (and_right (is_hash x) (all is_hash hs) a))

pub hashes-over : (s : Bytes) (at : ℕ) (hs : List ℕ) → at ≤ length s → all is_hash hs ≡ true → hashes_in (over s at (hashes.form hs)) at (length hs) ≡ hs
hashes-over s at hs h a =
    let i : at ≡ at + 0 = omega arith in
    let e : drop (at + 0) (over s at (hashes.form hs)) ≡ hashes.form hs ++ drop (at + length (hashes.form hs)) s = drop-over-in s at (hashes.form hs) h 0 (omega arith) in
    ap (λ (k : ℕ). hashes_in (over s at (hashes.form hs)) k (length hs)) i ∙ ap (hashes_of (length hs)) e ∙ hashes-form hs (drop (at + length (hashes.form hs)) s) a

-- ---- what layout reads

pub number-there : (w : ℕ) (b : Bytes) → w ≤ length b → number w b ≡ some (number_from 0 (take w b), drop w b)
unfolding number bytes
number-there w b h = simp (le-leb w (length b) h)

pub number_cut : (w : ℕ) (b : Bytes) → length b < w → number w b ≡ none
unfolding number bytes
number_cut w b h = simp (lt-leb w (length b) h)

nothing_left : (m : ℕ) → get_all (num 4) m [] ≡ some []
unfolding get_all
nothing_left zero = refl
nothing_left (suc m) = refl

get-hashes : (m n : ℕ) (b : Bytes) → length b ≡ 4 * n → n ≤ m → get_all (num 4) m b ≡ some (hashes_of n b)
unfolding get_all hashes_of num
get-hashes m zero [] e h = nothing_left m
get-hashes m zero (x ∷ b) e h = absurd (omega arith)
get-hashes zero (suc n) b e h = absurd (not-suc-le-zero h)
get-hashes (suc m) (suc n) [] e h = absurd (omega arith)
get-hashes (suc m) (suc n) (x ∷ b) e h =
    let l : 4 ≤ length (x ∷ b) = omega arith in
    let k : length (drop 4 (x ∷ b)) ≡ 4 * n = length-drop 4 (x ∷ b) ∙ omega arith in
    ap (further (λ r. get_all (num 4) m r)) (number-there 4 (x ∷ b) l)
    ∙ ap (cons_of (some (number_from 0 (take 4 (x ∷ b))))) (get-hashes m n (drop 4 (x ∷ b)) k (omega arith))

-- bytes that are n hashes
pub parse-hashes : (n : ℕ) (b : Bytes) → length b ≡ 4 * n → hashes.parse b ≡ some (hashes_of n b)
unfolding many
parse-hashes n b e = get-hashes (length b) n b e (omega arith)

pub parse-in : (s : Bytes) (at n : ℕ) → at + 4 * n ≤ length s → hashes.parse (part s at (4 * n)) ≡ some (hashes_in s at n)
parse-in s at n h =
    parse-hashes n (part s at (4 * n)) (length_part s at (4 * n) h) ∙ ap some (front-hashes n (drop at s) (4 * n) (omega arith))

-- bytes that are no whole hashes
get-odd : (m : ℕ) (b : Bytes) → (length b % 4 ≡ 0 → ⊥) → get_all (num 4) m b ≡ none
unfolding get_all num
get-odd zero [] h = absurd (h refl)
get-odd zero (x ∷ b) h = refl
get-odd (suc m) [] h = absurd (h refl)
get-odd (suc m) (x ∷ b) h = go (leb 4 (length (x ∷ b))) refl (λ r. get-odd m r)
  where
    go : (t : Bool) → leb 4 (length (x ∷ b)) ≡ t → ((r : Bytes) → (length r % 4 ≡ 0 → ⊥) → get_all (num 4) m r ≡ none) → get_all (num 4) (suc m) (x ∷ b) ≡ none
    go true e ih =
        let l : 4 ≤ length (x ∷ b) = leb-true 4 (length (x ∷ b)) e in
        ap (further (λ r. get_all (num 4) m r)) (number-there 4 (x ∷ b) l)
        ∙ ap (cons_of (some (number_from 0 (take 4 (x ∷ b))))) (ih (drop 4 (x ∷ b)) (λ z. h (omega (arith, length-drop 4 (x ∷ b)))))
    go false e ih = ap (further (λ r. get_all (num 4) m r)) (number_cut 4 (x ∷ b) (leb-false 4 (length (x ∷ b)) e))

pub parse-odd : (b : Bytes) → (length b % 4 ≡ 0 → ⊥) → hashes.parse b ≡ none
unfolding many
parse-odd b h = get-odd (length b) b h

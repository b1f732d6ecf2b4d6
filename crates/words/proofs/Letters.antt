-- Letters, digits and words, and a field that is one byte.
-- Assumes nothing.
use Rattle.std.proofs.Common.{arith}
use mathlib.Core.Path.{◌≡◌, refl, sym, ap, ◌∙◌}
use mathlib.Core.Bool.{Bool, true, false, ◌&&◌, ◌||◌}
use mathlib.Core.List.{[], ◌∷◌}
use Prim.Native.Nat.{ℕ, ◌≤◌, ◌<◌, compare, Ordering}
use lib.ListN.{length}
use lib.Dec.{leb, eqb, compare_is_eq}
use borrow.Author.Tests.{le-leb, lt-leb}
use Rattle.std.specs.Char.{is_ascii_alphanumeric}
use Rattle.std.specs.List.{list_all}
use Rattle.std.specs.Cmp.Lexicographic.{pointwise}
use Rattle.paper.specs.Lists.{then_by, is_same, all}
use Rattle.paper.specs.Keys.{Bytes, cmp_key}
use Rattle.paper.specs.Replay.{is_letter_or_digit, is_word, is}

pub and-false : (a : Bool) → a && false ≡ false
and-false true = refl
and-false false = refl

pub and-true : (a : Bool) → a && true ≡ a
and-true true = refl
and-true false = refl

-- ---- words
regroup : (a b c : Bool) → (a || b) || c ≡ a || (b || c)
regroup true b c = refl
regroup false b c = refl

-- the library's letters and digits are the paper's
pub letter-is : (b : ℕ) → is_ascii_alphanumeric b ≡ is_letter_or_digit b
letter-is b = regroup (leb 48 b && leb b 57) (leb 65 b && leb b 90) (leb 97 b && leb b 122)

-- and so is the library's test of all elements
pub letters-are : (s : Bytes) → list_all is_ascii_alphanumeric s ≡ all is_letter_or_digit s
unfolding all
letters-are [] = refl
letters-are (b ∷ bs) = rw (letter-is b, letters-are bs)

pub word-empty : (s : Bytes) → length s ≡ 0 → is_word s ≡ false
unfolding is_word
word-empty [] e = refl
word-empty (b ∷ bs) e = absurd (omega arith)

pub word-long : (s : Bytes) → 16 < length s → is_word s ≡ false
unfolding is_word
word-long [] h = refl
word-long (b ∷ bs) h = ap (λ t. t && all is_letter_or_digit (b ∷ bs)) (lt-leb (length (b ∷ bs)) 16 h)

pub word-is : (s : Bytes) → 0 < length s → length s ≤ 16 → is_word s ≡ list_all is_ascii_alphanumeric s
unfolding is_word
word-is [] e h = absurd (omega arith)
word-is (b ∷ bs) e h = ap (λ t. t && all is_letter_or_digit (b ∷ bs)) (le-leb (length (b ∷ bs)) 16 h) ∙ sym (letters-are (b ∷ bs))

-- ---- a field that is one byte
same_then : (o : Ordering) → is_same (then_by o Ordering.eq) ≡ compare_is_eq o
same_then Ordering.lt = refl
same_then Ordering.eq = refl
same_then Ordering.gt = refl

never-same : (o : Ordering) → is_same (then_by o Ordering.gt) ≡ false
never-same Ordering.lt = refl
never-same Ordering.eq = refl
never-same Ordering.gt = refl

pub is_one : (f b : ℕ) → is (f ∷ []) b ≡ eqb f b
unfolding cmp_key
is_one f b = same_then (compare f b)

pub is-not-one : (f : Bytes) (b : ℕ) → (length f ≡ 1 → ⊥) → is f b ≡ false
unfolding cmp_key
is-not-one [] b h = refl
is-not-one (x ∷ []) b h = absurd (h refl)
is-not-one (x ∷ (y ∷ ys)) b h = never-same (compare x b)

-- the library's test of slices says the same
pub is_byte : (f : Bytes) (b : ℕ) → pointwise eqb f (b ∷ []) ≡ is f b
is_byte [] b = sym (is-not-one [] b (λ e. omega arith))
is_byte (x ∷ []) b = and-true (eqb x b) ∙ sym (is_one x b)
is_byte (x ∷ (y ∷ ys)) b = and-false (eqb x b) ∙ sym (is-not-one (x ∷ (y ∷ ys)) b (λ e. omega arith))

-- Reading a handle: its digits from the first on, and its first digit.
-- Assumes nothing.
use Rattle.std.proofs.Common.{arith}
use native.Mathlib.Numerals.{add-one}
use mathlib.Core.Path.{◌≡◌, refl, sym, ap, ◌∙◌}
use mathlib.Core.Bool.{Bool, true, false, cond, not, ◌&&◌}
use mathlib.Core.List.{[], ◌∷◌}
use Prim.Native.Nat.{ℕ, ◌+◌, ◌*◌, ◌-◌, ◌≤◌, ◌<◌}
use lib.ListN.{length, drop, get_or, drop_of_length-le}
use lib.Seq.{drop-cons}
use lib.Dec.{leb}
use borrow.Author.Tests.{le-leb, lt-leb, eq-eqb, ne_eqb}
use Rattle.std.specs.Prelude.{Option, Some, None}
use Rattle.paper.specs.Lists.{all}
use Rattle.paper.specs.Keys.{Bytes}
use Rattle.paper.specs.Settings.{most_number}
use Rattle.paper.specs.Replay.{is_digit, decimal_from, no_leading_zero, is_handle}
use Rattle.words.specs.Fields.{digits_from, handle_in}

-- ---- digits
-- more digits make no less
decimal-more : (n : ℕ) (s : Bytes) → n ≤ decimal_from n s
unfolding decimal_from
decimal-more n [] = omega arith
decimal-more n (b ∷ bs) = omega (arith, decimal-more (n * 10 + (b - 48)) bs)

no_more : (t : Bool) (x : Option ℕ) → cond (t && false) x None ≡ None
no_more true x = refl
no_more false x = refl

not_digit : (n b : ℕ) (bs : Bytes) → is_digit b ≡ false → digits_from n (b ∷ bs) ≡ None
unfolding digits_from all
not_digit n b bs e = ap (λ t. cond ((t && all is_digit bs) && leb (decimal_from n (b ∷ bs)) most_number) (Some (decimal_from n (b ∷ bs))) None) e

digit : (n b : ℕ) (bs : Bytes) → is_digit b ≡ true → digits_from n (b ∷ bs) ≡ digits_from (n * 10 + (b - 48)) bs
unfolding digits_from all decimal_from
digit n b bs e = ap (λ t. cond ((t && all is_digit bs) && leb (decimal_from (n * 10 + (b - 48)) bs) most_number) (Some (decimal_from (n * 10 + (b - 48)) bs)) None) e

too_much : (n : ℕ) (s : Bytes) → most_number < n → digits_from n s ≡ None
unfolding digits_from
too_much n s h =
    ap (λ t. cond (all is_digit s && t) (Some (decimal_from n s)) None) (lt-leb (decimal_from n s) most_number (omega (arith, decimal-more n s)))
    ∙ no_more (all is_digit s) (Some (decimal_from n s))

-- the walk over the digits, at index i
module _ (n : ℕ) (s : Bytes) (i : ℕ) (h : i < length s) where
  here : drop i s ≡ get_or s i 0 ∷ drop (i + 1) s
  here = rw (drop-cons s i 0 h, add-one)

  pub digits-stop : is_digit (get_or s i 0) ≡ false → digits_from n (drop i s) ≡ None
  digits-stop e = ap (digits_from n) here ∙ not_digit n (get_or s i 0) (drop (i + 1) s) e

  pub digits-on : is_digit (get_or s i 0) ≡ true → digits_from n (drop i s) ≡ digits_from (n * 10 + (get_or s i 0 - 48)) (drop (i + 1) s)
  digits-on e = ap (digits_from n) here ∙ digit n (get_or s i 0) (drop (i + 1) s) e

  pub digits-many : is_digit (get_or s i 0) ≡ true → most_number < n * 10 + (get_or s i 0 - 48) → digits_from n (drop i s) ≡ None
  digits-many e m = digits-on e ∙ too_much (n * 10 + (get_or s i 0 - 48)) (drop (i + 1) s) m

pub digits-end : (n : ℕ) (s : Bytes) (i : ℕ) → n ≤ most_number → length s ≤ i → digits_from n (drop i s) ≡ Some n
unfolding digits_from all decimal_from
digits-end n s i h k = rw (drop_of_length-le s k, le-leb n most_number h)

-- ---- the first digit
pub led : (s : Bytes) → 0 < length s → (1 < length s → get_or s 0 0 ≡ 48 → ⊥) → no_leading_zero s ≡ true
led [] h k = absurd (omega arith)
led (b ∷ []) h k = refl
led (b ∷ (c ∷ cs)) h k = ap not (ne_eqb b 48 (k (omega arith)))

pub not-led : (s : Bytes) → 1 < length s → get_or s 0 0 ≡ 48 → no_leading_zero s ≡ false
not-led [] h e = absurd (omega arith)
not-led (b ∷ []) h e = absurd (omega arith)
not-led (b ∷ (c ∷ cs)) h e = ap not (eq-eqb b 48 e)

-- ---- the handle
led-case : (a c : Bool) (x : Option ℕ) → cond (a && c) x None ≡ cond ((a && true) && c) x None
led-case true c x = refl
led-case false c x = refl

not-led-case : (a c : Bool) (x : Option ℕ) → cond ((a && false) && c) x None ≡ None
not-led-case true c x = refl
not-led-case false c x = refl

pub handle-led : (s : Bytes) → no_leading_zero s ≡ true → digits_from 0 s ≡ handle_in s
unfolding digits_from handle_in is_handle
handle-led s e =
    led-case (all is_digit s) (leb (decimal_from 0 s) most_number) (Some (decimal_from 0 s))
    ∙ ap (λ t. cond ((all is_digit s && t) && leb (decimal_from 0 s) most_number) (Some (decimal_from 0 s)) None) (sym e)

pub handle-not-led : (s : Bytes) → no_leading_zero s ≡ false → handle_in s ≡ None
unfolding handle_in is_handle
handle-not-led s e =
    ap (λ t. cond ((all is_digit s && t) && leb (decimal_from 0 s) most_number) (Some (decimal_from 0 s)) None) e
    ∙ not-led-case (all is_digit s) (leb (decimal_from 0 s) most_number) (Some (decimal_from 0 s))

pub empty-no-handle : (s : Bytes) → length s ≡ 0 → handle_in s ≡ None
unfolding handle_in is_handle all
empty-no-handle [] e = refl
empty-no-handle (b ∷ bs) e = absurd (omega arith)

-- what the number says of the field
pub handle-is : (s : Bytes) (n : ℕ) → handle_in s ≡ Some n → (is_handle s ≡ true) × (decimal_from 0 s ≡ n)
unfolding handle_in
handle-is s n e = go (is_handle s) e
  where
    go : (t : Bool) → cond t (Some (decimal_from 0 s)) None ≡ Some n → (t ≡ true) × (decimal_from 0 s ≡ n)
    go true e = (refl, cc)
    go false e = (cc, cc)

pub handle-not : (s : Bytes) → handle_in s ≡ None → is_handle s ≡ false
unfolding handle_in
handle-not s e = go (is_handle s) e
  where
    go : (t : Bool) → cond t (Some (decimal_from 0 s)) None ≡ None → t ≡ false
    go true e = cc
    go false e = refl

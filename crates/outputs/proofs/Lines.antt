-- The lines of the input: their bytes, and what the calls that they ask for bring.
-- Assumes nothing.
use Prim.Native.Nat.{ℕ, suc, ◌≤◌}
use native.Mathlib.Omega.{arith}
use mathlib.Core.Path.{◌≡◌, refl}
use mathlib.Core.Bool.{Bool, true, false, cond, not, ◌&&◌, ◌||◌}
use mathlib.Core.List.{List, [], ◌∷◌}
use mathlib.Core.Option.{Option, none, some}
use lib.ListN.{length}
use lib.Dec.{eqb}
use Rattle.paper.specs.Lists.{all, total, is_empty}
use Rattle.paper.specs.Keys.{Bytes}
use Rattle.paper.specs.Bounds.{unbounded}
use Rattle.paper.specs.Settings.{longest}
use Rattle.paper.specs.Calls.{Call, begin, get, scan, put, delete, commit, end, freeze}
use Rattle.paper.specs.Replay.{prepended, pieces, lines_of, is_letter_or_digit, decimal_from, is_handle, is_word, given, is, either, from_of, line_call}
use Rattle.paper.proofs.Bools.{and_left, and_right, and_intro}
use Rattle.outputs.proofs.Short.{short, Passes}
use Rattle.outputs.proofs.Kept.{brings}

-- ---- the bytes of lines
-- with its LF, or of a field with the space before it
abbrev pub line_size : Bytes → ℕ
line_size l = suc (length l)

prepended-size : (b n : ℕ) (ls : List Bytes) → total line_size ls ≡ suc n → total line_size (prepended b ls) ≡ suc (suc n)
unfolding total
prepended-size b n [] e = omega arith
prepended-size b n (l ∷ ls) e = omega arith

-- the pieces and the separators between them are the bytes
pieces-size : (sep : ℕ) (bs : Bytes) → total line_size (pieces sep bs) ≡ suc (length bs)
unfolding pieces total
pieces-size sep [] = refl
pieces-size sep (b ∷ bs) = go (pieces-size sep bs) (eqb b sep)
  where
    go : total line_size (pieces sep bs) ≡ suc (length bs) → (z : Bool) → total line_size (cond z ([] ∷ pieces sep bs) (prepended b (pieces sep bs))) ≡ suc (suc (length bs))
    go ih true = omega arith
    go ih false = prepended-size b (length bs) (pieces sep bs) ih

lines_of-size : (ps : List Bytes) → total line_size (lines_of ps) ≤ total line_size ps
unfolding lines_of total
lines_of-size [] = omega arith
lines_of-size ([] ∷ []) = omega arith
lines_of-size ((b ∷ bs) ∷ []) = omega arith
lines_of-size (l ∷ (m ∷ ms)) = omega (arith, lines_of-size (m ∷ ms))

pub lines-size : (input : Bytes) → total line_size (lines_of (pieces 10 input)) ≤ suc (length input)
lines-size input = omega (arith, lines_of-size (pieces 10 input), pieces-size 10 input)

-- no more lines than bytes
pub lines-count : (ls : List Bytes) → length ls ≤ total line_size ls
unfolding total
lines-count [] = omega arith
lines-count (l ∷ ls) = omega (arith, lines-count ls)

-- ---- the call of a line
word-short : (b : Bytes) → is_word b ≡ true → short b ≡ true
unfolding is_word
word-short b h = and_right (not (is_empty b)) (short b) (and_left (not (is_empty b) && short b) (all is_letter_or_digit b) h)

given-brings : (z : Bool) (c : Call) → (z ≡ true → brings c ≡ true) → Passes brings (given z c)
given-brings true c h = h refl
given-brings false c h = tt

either-brings : (o d : Option Call) → Passes brings o → Passes brings d → Passes brings (either o d)
either-brings none d h k = k
either-brings (some c) d h k = h

pub line-brings : (fs : List Bytes) → Passes brings (line_call fs)
unfolding line_call
line-brings [] = tt
line-brings (f ∷ []) = either-brings (given (is f 98) begin) (given (is f 122) freeze) (given-brings (is f 98) begin (λ _. refl)) (given-brings (is f 122) freeze (λ _. refl))
line-brings (f ∷ (h ∷ [])) =
    let n = decimal_from 0 h in
    either-brings (given (is f 99 && is_handle h) (commit n)) (given (is f 101 && is_handle h) (end n))
    (given-brings (is f 99 && is_handle h) (commit n) (λ _. refl)) (given-brings (is f 101 && is_handle h) (end n) (λ _. refl))
line-brings (f ∷ (h ∷ (k ∷ []))) =
    let n = decimal_from 0 h in
    let w = is_handle h && is_word k in
    let c = scan n (from_of k) unbounded longest longest in
    let v = is f 102 && (is_handle h && (is_word k || is k 45)) in
    either-brings (given (is f 103 && w) (get n k longest)) (either (given (is f 100 && w) (delete n k)) (given v c))
    (given-brings (is f 103 && w) (get n k longest) (λ _. refl))
    (either-brings (given (is f 100 && w) (delete n k)) (given v c)
    (given-brings (is f 100 && w) (delete n k) (λ e. word-short k (and_right (is_handle h) (is_word k) (and_right (is f 100) w e))))
    (given-brings v c (λ _. refl)))
line-brings (f ∷ (h ∷ (k ∷ (b ∷ [])))) =
    let w = is_handle h && is_word k in
    given-brings (is f 112 && (w && is_word b)) (put (decimal_from 0 h) k b)
    (λ e.
    let m = and_right (is f 112) (w && is_word b) e in
    and_intro (word-short k (and_right (is_handle h) (is_word k) (and_left w (is_word b) m))) (word-short b (and_right w (is_word b) m)))
line-brings (f ∷ (h ∷ (k ∷ (b ∷ (x ∷ xs))))) = tt

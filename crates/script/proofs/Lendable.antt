-- Each call of a script's line is one that a host may make: it is no opening, and what it hands over are bytes.
-- Assumes nothing.
use native.Mathlib.Omega.{arith}
use mathlib.Core.Path.{◌≡◌, refl}
use mathlib.Core.Bool.{Bool, true, false, not, ◌&&◌, ◌||◌}
use mathlib.Core.List.{List, [], ◌∷◌}
use mathlib.Core.Option.{Option, none, some}
use Prim.Native.Nat.{ℕ, ◌≤◌, ◌<◌}
use lib.ListN.{length}
use lib.Dec.{leb, ltb}
use borrow.Author.Tests.{leb-true, lt-ltb}
use Rattle.paper.specs.Lists.{all, is_empty}
use Rattle.paper.specs.Keys.{Bytes, octets}
use Rattle.paper.specs.Settings.{longest}
use Rattle.paper.specs.Bounds.{unbounded}
use Rattle.paper.specs.Calls.{Call, begin, get, scan, put, delete, commit, end, freeze, of_bytes}
use Rattle.paper.specs.Replay.{is_digit, is_letter_or_digit, decimal_from, is_handle, is_word, given, is, either, from_of, line_call}
use Rattle.paper.proofs.Bools.{and_left, and_right, and_intro}
use Rattle.paper.proofs.Alls.{all-mono}
use Rattle.layout.specs.Runs.{is_opening}

-- ---- keys and values are bytes

-- below a range's end
below : (x low high : ℕ) → high < 256 → leb low x && leb x high ≡ true → ltb x 256 ≡ true
below x low high h e =
    let k : x ≤ high = leb-true x high (and_right (leb low x) (leb x high) e) in
    lt-ltb x 256 (omega arith)

or-either : {t : Bool} (a b : Bool) → (a ≡ true → t ≡ true) → (b ≡ true → t ≡ true) → a || b ≡ true → t ≡ true
or-either true b f g e = f refl
or-either false b f g e = g e

letter-octet : (x : ℕ) → is_letter_or_digit x ≡ true → ltb x 256 ≡ true
letter-octet x =
    or-either (is_digit x) ((leb 65 x && leb x 90) || (leb 97 x && leb x 122))
    (below x 48 57 (omega arith))
    (or-either (leb 65 x && leb x 90) (leb 97 x && leb x 122) (below x 65 90 (omega arith)) (below x 97 122 (omega arith)))

word-octets : (s : Bytes) → is_word s ≡ true → octets s ≡ true
unfolding is_word octets
word-octets s h = all-mono is_letter_or_digit (λ b. ltb b 256) letter-octet s (and_right (not (is_empty s) && leb (length s) 16) (all is_letter_or_digit s) h)

-- ---- calls

abbrev pub Lendable : Option Call → Type 0
Lendable none = Unit
Lendable (some c) = (is_opening c ≡ false) × (of_bytes c ≡ true)

given-lendable : (b : Bool) (c : Call) → (b ≡ true → Lendable (some c)) → Lendable (given b c)
given-lendable true c f = f refl
given-lendable false c f = tt

either-lendable : (o p : Option Call) → Lendable o → Lendable p → Lendable (either o p)
either-lendable none p f g = g
either-lendable (some c) p f g = f

pub line-lendable : (fs : List Bytes) → Lendable (line_call fs)
unfolding line_call is_opening of_bytes
line-lendable [] = tt
line-lendable (f ∷ []) =
    either-lendable (given (is f 98) begin) (given (is f 122) freeze)
    (given-lendable (is f 98) begin (λ e. (refl, refl)))
    (given-lendable (is f 122) freeze (λ e. (refl, refl)))
line-lendable (f ∷ (h ∷ [])) =
    let n : ℕ = decimal_from 0 h in
    either-lendable (given (is f 99 && is_handle h) (commit n)) (given (is f 101 && is_handle h) (end n))
    (given-lendable (is f 99 && is_handle h) (commit n) (λ e. (refl, refl)))
    (given-lendable (is f 101 && is_handle h) (end n) (λ e. (refl, refl)))
line-lendable (f ∷ (h ∷ (k ∷ []))) =
    let n : ℕ = decimal_from 0 h in
    let deleted : Bool = is f 100 && (is_handle h && is_word k) in
    let scanned : Bool = is f 102 && (is_handle h && (is_word k || is k 45)) in
    let first : Call = scan n (from_of k) unbounded longest longest in
    either-lendable (given (is f 103 && (is_handle h && is_word k)) (get n k longest)) (either (given deleted (delete n k)) (given scanned first))
    (given-lendable (is f 103 && (is_handle h && is_word k)) (get n k longest) (λ e. (refl, refl)))
    (either-lendable (given deleted (delete n k)) (given scanned first)
    (given-lendable deleted (delete n k) (λ e. (refl, word-octets k (and_right (is_handle h) (is_word k) (and_right (is f 100) (is_handle h && is_word k) e)))))
    (given-lendable scanned first (λ e. (refl, refl))))
line-lendable (f ∷ (h ∷ (k ∷ (b ∷ [])))) =
    let n : ℕ = decimal_from 0 h in
    let words : Bool = (is_handle h && is_word k) && is_word b in
    given-lendable (is f 112 && words) (put n k b)
    (λ e.
    let w : words ≡ true = and_right (is f 112) words e in
    (refl, and_intro (word-octets k (and_right (is_handle h) (is_word k) (and_left (is_handle h && is_word k) (is_word b) w))) (word-octets b (and_right (is_handle h && is_word k) (is_word b) w))))
line-lendable (f ∷ (h ∷ (k ∷ (b ∷ (x ∷ xs))))) = tt

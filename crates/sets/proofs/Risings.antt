-- Rising sets of numbers by place, and what tells whether numbers rise.
-- Assumes nothing.
use Prim.Native.Nat.{ℕ, zero, suc, ◌+◌, ◌<◌, compare}
use native.Mathlib.Omega.{arith}
use native.Mathlib.Nat.{not-suc-le-zero}
use mathlib.Core.Path.{◌≡◌, refl, sym, ap, ◌∙◌}
use mathlib.Core.Bool.{Bool, true, false, ◌&&◌}
use mathlib.Core.List.{List, [], ◌∷◌, map}
use lib.ListN.{length, drop, get_or}
use lib.Dec.{ltb}
use borrow.Author.Tests.{ne_eqb}
use Rattle.paper.specs.Lists.{is_lt, rises_from, rises, among}
use Rattle.paper.specs.Keys.{Bytes}
use Rattle.paper.proofs.Bools.{and_left, and_right, and_intro, is_lt-lt}
use Rattle.paper.proofs.Order.{compare-lt, compare-order}
use Rattle.paper.proofs.Rising.{rises-of}
use Rattle.raw.proofs.Comparing.{less-than}
use Rattle.std.specs.List.{AllAdjacentBelow, IsAllAdjacentAnswer}
use Rattle.sets.specs.Sets.{hashes_of, hashes_in}

-- ---- what a rising list says

pub rises-head : (x y : ℕ) (ys : List ℕ) → rises_from compare x (y ∷ ys) ≡ true → x < y
unfolding rises_from
rises-head x y ys h = compare-lt x y (is_lt-lt (compare x y) (and_left (is_lt (compare x y)) (rises_from compare y ys) h))

pub rises-tail : (x y : ℕ) (ys : List ℕ) → rises_from compare x (y ∷ ys) ≡ true → rises_from compare y ys ≡ true
unfolding rises_from
rises-tail x y ys h = and_right (is_lt (compare x y)) (rises_from compare y ys) h

-- all that follow x are above it
above-first : (x : ℕ) (ys : List ℕ) → rises_from compare x ys ≡ true → (j : ℕ) → j < length ys → x < get_or ys j 0
above-first x [] h j l = absurd (not-suc-le-zero l)
above-first x (y ∷ ys) h zero l = rises-head x y ys h
above-first x (y ∷ ys) h (suc j) l =
    omega (arith, rises-head x y ys h, above-first y ys (rises-tail x y ys h) j (omega arith))

pub rises-at : (hs : List ℕ) → rises compare hs ≡ true → (i j : ℕ) → i < j → j < length hs → get_or hs i 0 < get_or hs j 0
unfolding rises
rises-at [] h i j k l = absurd (not-suc-le-zero l)
rises-at (x ∷ xs) h i zero k l = absurd (not-suc-le-zero k)
rises-at (x ∷ xs) h zero (suc j) k l = above-first x xs h j (omega arith)
rises-at (x ∷ xs) h (suc i) (suc j) k l = rises-at xs (rises-of compare compare-order x xs h) i j (omega arith) (omega arith)

pub rises-drop : (i : ℕ) (hs : List ℕ) → rises compare hs ≡ true → rises compare (drop i hs) ≡ true
unfolding rises
rises-drop zero hs h = h
rises-drop (suc i) [] h = h
rises-drop (suc i) (x ∷ xs) h = rises-drop i xs (rises-of compare compare-order x xs h)

-- what is below the first is not among them
pub none_below : (h y : ℕ) (ys : List ℕ) → h < y → rises_from compare y ys ≡ true → among h (y ∷ ys) ≡ false
unfolding among
none_below h y [] l r = simp (ne_eqb h y (λ e. omega arith))
none_below h y (z ∷ zs) l r =
    let k = rises-head y z zs r in
    simp (ne_eqb h y (λ e. omega arith)) (none_below h z zs (omega arith) (rises-tail y z zs r))

-- ---- whether numbers rise

pub pos : (n : ℕ) → (n ≡ 0 → ⊥) → 0 < n
pos zero h = absurd (h refl)
pos (suc n) h = omega arith

-- a set without hashes
pub none-rise : (s : Bytes) (at n : ℕ) → n ≡ 0 → true ≡ rises compare (hashes_in s at n)
unfolding rises hashes_of
none-rise s at n e = ap (λ (k : ℕ). rises compare (hashes_in s at k)) (sym e)

-- what is asked of each number and the next
one_on : (k : ℕ) → suc k + 1 ≡ suc (k + 1)
one_on k = omega arith

module _ {X : Type 0} (f : X → ℕ) where
  turn : (x y : X) (ys : List X) → rises_from compare (f x) (map f (y ∷ ys)) ≡ ltb (f x) (f y) && rises_from compare (f y) (map f ys)
  unfolding rises_from
  turn x y ys = ap (λ (b : Bool). b && rises_from compare (f y) (map f ys)) (sym (less-than (f x) (f y)))

  all-rise : (x : X) (xs : List X) → AllAdjacentBelow (λ y z. true ≡ ltb (f y) (f z)) (x ∷ xs) (length (x ∷ xs)) → rises_from compare (f x) (map f xs) ≡ true
  unfolding rises_from
  all-rise x [] h = refl
  all-rise x (y ∷ ys) h =
      turn x y ys ∙ and_intro (sym (h 0 x (omega arith))) (all-rise y ys (λ k d l. rw (one_on k) at (h (suc k) d (omega arith))))

  one_falls : (x : X) (xs : List X) (k : ℕ) → k < length xs → ((d : X) → false ≡ ltb (f (get_or (x ∷ xs) k d)) (f (get_or (x ∷ xs) (k + 1) d))) → rises_from compare (f x) (map f xs) ≡ false
  one_falls x [] k l h = absurd (not-suc-le-zero l)
  one_falls x (y ∷ ys) zero l h = turn x y ys ∙ ap (λ (b : Bool). b && rises_from compare (f y) (map f ys)) (sym (h x))
  one_falls x (y ∷ ys) (suc k) l h = turn x y ys ∙ and_no (ltb (f x) (f y)) _ (one_falls y ys k (omega arith) (λ d. rw (one_on k) at (h d)))
    where
      and_no : (a b : Bool) → b ≡ false → a && b ≡ false
      and_no true b e = e
      and_no false b e = refl

  pub neighbours-rise : (xs : List X) (r : Bool) → IsAllAdjacentAnswer (λ x y b. b ≡ ltb (f x) (f y)) xs r → r ≡ rises compare (map f xs)
  unfolding rises
  neighbours-rise [] true h = refl
  neighbours-rise [] false h = let l = h.1 in absurd (omega arith)
  neighbours-rise (x ∷ xs) true h = sym (all-rise x xs h)
  neighbours-rise (x ∷ xs) false h = let l = h.1 in sym (one_falls x xs h.0 (omega arith) h.2)

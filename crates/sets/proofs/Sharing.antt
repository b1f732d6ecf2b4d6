-- The smallest hash in both of two rising sets.
-- Assumes nothing.
use Prim.Native.Nat.{ℕ, zero, suc, ◌+◌, ◌≤◌, ◌<◌, compare}
use native.Mathlib.Omega.{arith}
use native.Mathlib.Nat.{le_antisymm}
use mathlib.Core.Path.{◌≡◌, refl, sym, ap, ◌∙◌}
use mathlib.Core.Bool.{Bool, true, false, cond}
use mathlib.Core.List.{List, [], ◌∷◌}
use mathlib.Core.Option.{Option, none, some}
use lib.ListN.{length}
use lib.Dec.{ltb}
use borrow.Author.Tests.{ltb-true, ltb-false, eq-eqb, ne_eqb}
use Rattle.paper.specs.Lists.{keep, first, rises_from, rises, among}
use Rattle.std.specs.Prelude.{Option as Answer, Some, None, option_map}
use Rattle.std.specs.List.{find}
use Rattle.raw.specs.Options.{said}
use Rattle.sets.proofs.Risings.{rises-head, rises-tail, rises-drop, none_below}

pub same-answer : (a : Answer ℕ) → option_map (λ h. h) a ≡ a
same-answer (Some h) = refl
same-answer None = refl

-- the first that passes a test is the first of those that do
pub first-kept : (p : ℕ → Bool) (hs : List ℕ) → said (find p hs) ≡ first (keep p hs)
unfolding keep
first-kept p [] = refl
first-kept p (h ∷ hs) = go (p h) (first-kept p hs)
  where
    go : (b : Bool) → said (find p hs) ≡ first (keep p hs) → said (cond b (Some h) (find p hs)) ≡ first (cond b (h ∷ keep p hs) (keep p hs))
    go true e = refl
    go false e = e

-- the first element of the first list that is in the second too
abbrev pub in_both : List ℕ → List ℕ → Option ℕ
in_both xs ys = first (keep (λ h. among h ys) xs)

-- ---- at the front of two rising lists

both-same : (x y : ℕ) (xs ys : List ℕ) → x ≡ y → in_both (x ∷ xs) (y ∷ ys) ≡ some x
unfolding keep among
both-same x y xs ys e = simp (eq-eqb x y e)

both_left : (x y : ℕ) (xs ys : List ℕ) → x < y → rises_from compare y ys ≡ true → in_both (x ∷ xs) (y ∷ ys) ≡ in_both xs (y ∷ ys)
unfolding keep
both_left x y xs ys l r = simp (none_below x y ys l r)

keep-past : (y x : ℕ) (xs ys : List ℕ) → y < x → rises_from compare x xs ≡ true → keep (λ h. among h (y ∷ ys)) (x ∷ xs) ≡ keep (λ h. among h ys) (x ∷ xs)
unfolding keep among
keep-past y x [] ys l r = simp (ne_eqb x y (λ e. omega arith))
keep-past y x (z ∷ zs) ys l r =
    let k = rises-head x z zs r in
    let ih = keep-past y z zs ys (omega arith) (rises-tail x z zs r) in
    simp (ne_eqb x y (λ e. omega arith)) (ap (λ (t : List ℕ). cond (among x ys) (x ∷ t) t) ih)

both_right : (x y : ℕ) (xs ys : List ℕ) → y < x → rises_from compare x xs ≡ true → in_both (x ∷ xs) (y ∷ ys) ≡ in_both (x ∷ xs) ys
both_right x y xs ys l r = ap first (keep-past y x xs ys l r)

both-none : (xs : List ℕ) → in_both xs [] ≡ none
unfolding keep among
both-none [] = refl
both-none (x ∷ xs) = both-none xs

-- two rising sets share the same smallest hash, whichever is passed through
module _ (x y : ℕ) (xs ys : List ℕ) (ra : rises_from compare x xs ≡ true) (rb : rises_from compare y ys ≡ true) where
  swap-front : in_both xs (y ∷ ys) ≡ in_both (y ∷ ys) xs → in_both (x ∷ xs) ys ≡ in_both ys (x ∷ xs) → (b c : Bool) → ltb x y ≡ b → ltb y x ≡ c
      → in_both (x ∷ xs) (y ∷ ys) ≡ in_both (y ∷ ys) (x ∷ xs)
  swap-front left right true c e f = let h = ltb-true x y e in both_left x y xs ys h rb ∙ left ∙ sym (both_right y x ys xs h rb)
  swap-front left right false true e f = let h = ltb-true y x f in both_right x y xs ys h ra ∙ right ∙ sym (both_left y x ys xs h ra)
  swap-front left right false false e f =
      let h : x ≡ y = le_antisymm (ltb-false y x f) (ltb-false x y e) in
      both-same x y xs ys h ∙ ap some h ∙ sym (both-same y x ys xs (sym h))

swapped : (n : ℕ) (xs ys : List ℕ) → length xs + length ys ≤ n → rises compare xs ≡ true → rises compare ys ≡ true → in_both xs ys ≡ in_both ys xs
unfolding rises keep
swapped n [] ys l ra rb = sym (both-none ys)
swapped n (x ∷ xs) [] l ra rb = both-none (x ∷ xs)
swapped zero (x ∷ xs) (y ∷ ys) l ra rb = absurd (omega arith)
swapped (suc n) (x ∷ xs) (y ∷ ys) l ra rb =
    let left = swapped n xs (y ∷ ys) (omega arith) (rises-drop 1 (x ∷ xs) ra) rb in
    let right = swapped n (x ∷ xs) ys (omega arith) ra (rises-drop 1 (y ∷ ys) rb) in
    swap-front x y xs ys ra rb left right (ltb x y) (ltb y x) refl refl

pub both-swap : (xs ys : List ℕ) → rises compare xs ≡ true → rises compare ys ≡ true → in_both xs ys ≡ in_both ys xs
both-swap xs ys = swapped (length xs + length ys) xs ys (omega arith)

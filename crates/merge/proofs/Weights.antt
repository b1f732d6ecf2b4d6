-- Tests at every element of a list, and weights.
-- Assumes nothing.
use native.Mathlib.Omega.{arith}
use mathlib.Core.Path.{◌≡◌, refl, sym, ap, ◌∙◌}
use mathlib.Core.Bool.{Bool, true, false, cond}
use mathlib.Core.List.{List, [], ◌∷◌, ◌++◌}
use Prim.Native.Nat.{ℕ, zero, suc, ◌+◌, ◌-◌, ◌≤◌, ◌<◌}
use native.Mathlib.Nat.{not-suc-le-zero}
use lib.ListN.{length, take, get_or, set}
use lib.Seq.{take-suc}
use Rattle.paper.specs.Lists.{all}
use Rattle.paper.proofs.Bools.{and_left, and_right, and_intro}
use Rattle.merge.specs.Bag.{weight, SameBag}

module _ {A : Type 0} where
  module _ (p : A → Bool) where
    pub bad : A → ℕ
    bad a = cond (p a) 0 1

    pub weightless : (l : List A) → all p l ≡ true → weight bad l ≡ 0
    unfolding weight all bad
    weightless [] h = refl
    weightless (a ∷ l) h = let e = and_left (p a) (all p l) h in let i = weightless l (and_right (p a) (all p l) h) in simp (e, i)

    pub all-weightless : (l : List A) → weight bad l ≡ 0 → all p l ≡ true
    unfolding weight all bad
    all-weightless [] h = refl
    all-weightless (a ∷ l) h = go (all-weightless l) (p a) refl
      where
        go : (weight bad l ≡ 0 → all p l ≡ true) → (b : Bool) → p a ≡ b → all p (a ∷ l) ≡ true
        go ih true e = let z : 0 + weight bad l ≡ 0 = simp e at h in and_intro e (ih (omega arith))
        go ih false e = let z : 1 + weight bad l ≡ 0 = simp e at h in absurd (omega arith)

    pub not-bad : (a : A) → p a ≡ true → bad a ≡ 0
    unfolding bad
    not-bad a e = simp e

    pub all-bag : {l m : List A} → SameBag l m → all p l ≡ true → all p m ≡ true
    all-bag {l} {m} b h = all-weightless m (sym (b.weighs bad) ∙ weightless l h)

    pub all_get_d : (l : List A) (j : ℕ) (d : A) → j < length l → all p l ≡ true → p (get_or l j d) ≡ true
    unfolding all
    all_get_d [] j d h a = absurd (not-suc-le-zero h)
    all_get_d (x ∷ l) zero d h a = and_left (p x) (all p l) a
    all_get_d (x ∷ l) (suc j) d h a = all_get_d l j d (omega arith) (and_right (p x) (all p l) a)

    -- at an index below n
    pub all-at : (l : List A) (n j : ℕ) (d : A) → j < n → n ≤ length l → all p (take n l) ≡ true → p (get_or l j d) ≡ true
    unfolding all
    all-at [] n j d h k a = absurd (omega arith)
    all-at (x ∷ l) zero j d h k a = absurd (not-suc-le-zero h)
    all-at (x ∷ l) (suc n) zero d h k a = and_left (p x) (all p (take n l)) a
    all-at (x ∷ l) (suc n) (suc j) d h k a = all-at l n j d (omega arith) (omega arith) (and_right (p x) (all p (take n l)) a)

  pub weight-append : (f : A → ℕ) (l m : List A) → weight f (l ++ m) ≡ weight f l + weight f m
  unfolding weight
  weight-append f [] m = omega arith
  weight-append f (a ∷ l) m = let i = weight-append f l m in omega arith

  -- the first of n elements is replaced
  pub weight-first : (f : A → ℕ) (l : List A) (n : ℕ) (x d : A) → 0 < n → n ≤ length l → weight f (take n (set l 0 x)) + f (get_or l 0 d) ≡ weight f (take n l) + f x
  unfolding weight
  weight-first f [] n x d h k = absurd (omega arith)
  weight-first f (a ∷ l) zero x d h k = absurd (not-suc-le-zero h)
  weight-first f (a ∷ l) (suc n) x d h k = omega arith

  -- the last of n elements takes the place of the first
  pub weight-last : (f : A → ℕ) (l : List A) (n : ℕ) (d : A) → 0 < n → n ≤ length l → weight f (take (n - 1) (set l 0 (get_or l (n - 1) d))) + f (get_or l 0 d) ≡ weight f (take n l)
  unfolding weight
  weight-last f [] n d h k = absurd (omega arith)
  weight-last f (a ∷ l) zero d h k = absurd (not-suc-le-zero h)
  weight-last f (a ∷ l) (suc zero) d h k = omega arith
  weight-last f (a ∷ l) (suc (suc n)) d h k =
      let e : take (suc n) l ≡ take n l ++ (get_or l n d ∷ []) = take-suc l n d (omega arith) in
      let g : weight f (take (suc n) l) ≡ weight f (take n l) + weight f (get_or l n d ∷ []) = ap (weight f) e ∙ weight-append f (take n l) (get_or l n d ∷ []) in
      let q : suc (suc n) - 1 ≡ suc n = omega arith in
      rw q (omega arith)

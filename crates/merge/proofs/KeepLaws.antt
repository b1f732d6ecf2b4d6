-- Keeping some elements of rising lists: of an insertion, and of a merge.
-- Assumes nothing.
use mathlib.Core.Path.{◌≡◌, refl, sym, ap, ap₂, ◌∙◌}
use mathlib.Core.Bool.{Bool, true, false, ◌&&◌, cond}
use mathlib.Core.List.{◌++◌, List, [], ◌∷◌, map}
use Prim.Native.Nat.{Ordering}
use Rattle.paper.specs.Lists.{is_lt, all, keep, place, rises_from, rises, insert, insert_all}
use Rattle.paper.specs.Keys.{Version, cmp_version}
use Rattle.paper.specs.Runs.{Run, merge}
use Rattle.paper.proofs.Bools.{and_left, and_right, and_intro, is_lt-lt}
use Rattle.paper.proofs.Order.{IsOrder}
use Rattle.paper.proofs.KeyOrder.{version-order}
use Rattle.paper.proofs.Rising.{rises-of, keep-rises_from, insert_all-rises, merge-is_run}

module _ {A : Type 0} (q : A → Bool) where
  pub keep_all : (xs : List A) → all q xs ≡ true → keep q xs ≡ xs
  unfolding keep all
  keep_all [] a = refl
  keep_all (x ∷ xs) a = let e = and_left (q x) (all q xs) a in let i = keep_all xs (and_right (q x) (all q xs) a) in simp (e, i)

  pub keep-yes : (x : A) (xs : List A) → q x ≡ true → keep q (x ∷ xs) ≡ x ∷ keep q xs
  unfolding keep
  keep-yes x xs e = simp e

  pub keep-no : (x : A) (xs : List A) → q x ≡ false → keep q (x ∷ xs) ≡ keep q xs
  unfolding keep
  keep-no x xs e = simp e

  pub all-kept : (xs : List A) → all q (keep q xs) ≡ true
  unfolding keep all
  all-kept [] = refl
  all-kept (x ∷ xs) = go (all-kept xs) (q x) refl
    where
      go : all q (keep q xs) ≡ true → (b : Bool) → q x ≡ b → all q (cond b (x ∷ keep q xs) (keep q xs)) ≡ true
      go ih true e = and_intro e ih
      go ih false e = ih

pub keep-none : {A : Type 0} (q : A → Bool) (xs : List A) → all (λ x. cond (q x) false true) xs ≡ true → keep q xs ≡ []
unfolding keep all
keep-none q [] a = refl
keep-none q (x ∷ xs) a = go (keep-none q xs (and_right (cond (q x) false true) (all (λ x. cond (q x) false true) xs) a)) (q x) refl
  where
    go : keep q xs ≡ [] → (b : Bool) → q x ≡ b → cond b (x ∷ keep q xs) (keep q xs) ≡ []
    go ih true e = let z : false ≡ true = ap (λ b. cond b false true) (sym e) ∙ and_left (cond (q x) false true) (all (λ x. cond (q x) false true) xs) a in cc
    go ih false e = ih

pub all-always : {A : Type 0} (q : A → Bool) → ((x : A) → q x ≡ true) → (xs : List A) → all q xs ≡ true
unfolding all
all-always q f [] = refl
all-always q f (x ∷ xs) = and_intro (f x) (all-always q f xs)

-- two tests that agree at every element of which something holds
pub keep-alike : {A : Type 0} (ok p q : A → Bool) → ((x : A) → ok x ≡ true → p x ≡ q x) → (xs : List A) → all ok xs ≡ true → keep p xs ≡ keep q xs
unfolding keep all
keep-alike ok p q f [] a = refl
keep-alike ok p q f (x ∷ xs) a =
    ap₂ (λ b l. cond b (x ∷ l) l) (f x (and_left (ok x) (all ok xs) a)) (keep-alike ok p q f xs (and_right (ok x) (all ok xs) a))

-- one more at the end
pub keep_snoc : {A : Type 0} (p : A → Bool) (xs : List A) (x : A) → keep p (xs ++ (x ∷ [])) ≡ keep p xs ++ cond (p x) (x ∷ []) []
unfolding keep
keep_snoc p [] x = refl
keep_snoc p (y ∷ ys) x = go (p y) (keep_snoc p ys x)
  where
    go : (b : Bool) → keep p (ys ++ (x ∷ [])) ≡ keep p ys ++ cond (p x) (x ∷ []) []
        → cond b (y ∷ keep p (ys ++ (x ∷ []))) (keep p (ys ++ (x ∷ []))) ≡ cond b (y ∷ keep p ys) (keep p ys) ++ cond (p x) (x ∷ []) []
    go true ih = ap (λ l. y ∷ l) ih
    go false ih = ih

-- two tests, one after the other
pub keep-both : {A : Type 0} (p q : A → Bool) (xs : List A) → keep (λ x. p x && q x) xs ≡ keep q (keep p xs)
unfolding keep
keep-both p q [] = refl
keep-both p q (x ∷ xs) = go (p x) refl (keep-both p q xs)
  where
    go : (b : Bool) → p x ≡ b → keep (λ x. p x && q x) xs ≡ keep q (keep p xs)
        → cond (b && q x) (x ∷ keep (λ x. p x && q x) xs) (keep (λ x. p x && q x) xs) ≡ keep q (cond b (x ∷ keep p xs) (keep p xs))
    go true e ih = ap (λ l. cond (q x) (x ∷ l) l) ih
    go false e ih = ih

module _ {A : Type 0} (cmp : A → A → Ordering) (ord : IsOrder cmp) where
  pub insert-least : (x : A) (ys : List A) → rises_from cmp x ys ≡ true → insert cmp x ys ≡ x ∷ ys
  unfolding insert rises_from
  insert-least x [] r = refl
  insert-least x (y ∷ ys) r = ap (λ o. place o x y ys (insert cmp x ys)) (is_lt-lt (cmp x y) (and_left (is_lt (cmp x y)) (rises_from cmp y ys) r))

  -- a test that goes by the order
  module _ (q : A → Bool) (alike : (a b : A) → cmp a b ≡ Ordering.eq → q a ≡ q b) where
    pub keep-insert : (x : A) (ys : List A) → rises cmp ys ≡ true → keep q (insert cmp x ys) ≡ cond (q x) (insert cmp x (keep q ys)) (keep q ys)
    unfolding keep insert rises rises_from
    keep-insert x [] r = refl
    keep-insert x (y ∷ ys) r = go (keep-insert x ys (rises-of cmp ord y ys r)) (cmp x y) refl (q x) (q y) refl refl
      where
        go : keep q (insert cmp x ys) ≡ cond (q x) (insert cmp x (keep q ys)) (keep q ys) → (o : Ordering) → cmp x y ≡ o → (b c : Bool) → q x ≡ b → q y ≡ c
            → keep q (place o x y ys (insert cmp x ys)) ≡ cond (q x) (insert cmp x (keep q (y ∷ ys))) (keep q (y ∷ ys))
        go ih Ordering.lt e true c f g = simp f (sym (insert-least x (keep q (y ∷ ys)) (keep-rises_from cmp ord q x (y ∷ ys) (and_intro (ap is_lt e) r))))
        go ih Ordering.lt e false c f g = simp f
        go ih Ordering.eq e true c f g =
            let g' : q y ≡ true = sym (alike x y e) ∙ f in
            simp (f, g', e)
        go ih Ordering.eq e false c f g =
            let g' : q y ≡ false = sym (alike x y e) ∙ f in
            simp (f, g')
        go ih Ordering.gt e true true f g =
            let i : keep q (insert cmp x ys) ≡ insert cmp x (keep q ys) = ih ∙ ap (λ b. cond b (insert cmp x (keep q ys)) (keep q ys)) f in
            simp (f, g, e, i)
        go ih Ordering.gt e true false f g =
            let i : keep q (insert cmp x ys) ≡ insert cmp x (keep q ys) = ih ∙ ap (λ b. cond b (insert cmp x (keep q ys)) (keep q ys)) f in
            simp (f, g, i)
        go ih Ordering.gt e false true f g =
            let i : keep q (insert cmp x ys) ≡ keep q ys = ih ∙ ap (λ b. cond b (insert cmp x (keep q ys)) (keep q ys)) f in
            simp (f, g, i)
        go ih Ordering.gt e false false f g =
            let i : keep q (insert cmp x ys) ≡ keep q ys = ih ∙ ap (λ b. cond b (insert cmp x (keep q ys)) (keep q ys)) f in
            simp (f, g, i)

    pub keep-insert_all : (xs ys : List A) → rises cmp ys ≡ true → keep q (insert_all cmp xs ys) ≡ insert_all cmp (keep q xs) (keep q ys)
    unfolding insert_all keep
    keep-insert_all [] ys r = refl
    keep-insert_all (x ∷ xs) ys r = go (q x) refl (keep-insert_all xs ys r)
      where
        go : (b : Bool) → q x ≡ b → keep q (insert_all cmp xs ys) ≡ insert_all cmp (keep q xs) (keep q ys)
            → keep q (insert cmp x (insert_all cmp xs ys)) ≡ insert_all cmp (cond b (x ∷ keep q xs) (keep q xs)) (keep q ys)
        go true e ih =
            keep-insert x (insert_all cmp xs ys) (insert_all-rises cmp ord xs ys r) ∙ ap (λ b. cond b (insert cmp x (keep q (insert_all cmp xs ys))) (keep q (insert_all cmp xs ys))) e
            ∙ ap (insert cmp x) ih
        go false e ih =
            keep-insert x (insert_all cmp xs ys) (insert_all-rises cmp ord xs ys r) ∙ ap (λ b. cond b (insert cmp x (keep q (insert_all cmp xs ys))) (keep q (insert_all cmp xs ys))) e
            ∙ ih

-- what is kept of each run, merged, is what is kept of the merge
pub merge-keep : (q : Version → Bool) → ((a b : Version) → cmp_version a b ≡ Ordering.eq → q a ≡ q b) → (rs : List Run) → merge (map (keep q) rs) ≡ keep q (merge rs)
unfolding merge keep
merge-keep q alike [] = refl
merge-keep q alike (r ∷ rs) =
    ap (insert_all cmp_version (keep q r)) (merge-keep q alike rs) ∙ sym (keep-insert_all cmp_version version-order q alike r (merge rs) (merge-is_run rs))

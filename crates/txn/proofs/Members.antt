-- Numbers in rising lists: what is in a list after one is put in, where a member stands, and a part of a list that is as long as it.
-- Assumes nothing.
use native.Mathlib.Omega.{arith}
use mathlib.Core.Path.{◌≡◌, refl, sym, ap, ◌∙◌}
use mathlib.Core.Bool.{Bool, true, false, cond, false≢true}
use mathlib.Core.List.{List, [], ◌∷◌}
use Prim.Native.Nat.{ℕ, suc, ◌≤◌, ◌<◌, compare, Ordering}
use borrow.Author.Tests.{eqb-true, eqb-false, eq-eqb, ne_eqb, lt-ltb, le-ltb}
use lib.Dec.{eqb, ltb}
use lib.ListN.{length, get_or}
use Rattle.paper.specs.Lists.{is_same, keep, place, rises, rises_from, insert, among}
use Rattle.paper.specs.Keys.{cmp_key}
use Rattle.paper.specs.Sound.{same_numbers}
use Rattle.paper.proofs.Bools.{is_same-eq}
use Rattle.paper.proofs.Order.{compare-order, compare-lt, compare-eq, compare-turn, turned}
use Rattle.paper.proofs.KeyOrder.{key-eq, key-order}
use Rattle.paper.proofs.Rising.{rises-of}
use Rattle.std.specs.Prelude.{Ok}
use Rattle.sets.specs.Sets.{rank, found, found_in}
use Rattle.sets.proofs.Risings.{rises-head, rises-tail, none_below}

-- ---- the same numbers
pub numbers-eq : (a b : List ℕ) → same_numbers a b ≡ true → a ≡ b
unfolding same_numbers
numbers-eq a b h = key-eq a b (is_same-eq (cmp_key a b) h)

pub numbers-same : (a b : List ℕ) → a ≡ b → same_numbers a b ≡ true
unfolding same_numbers
numbers-same a b e = ap (λ (l : List ℕ). is_same (cmp_key a l)) (sym e) ∙ ap is_same (key-order.same a)

-- ---- what is in a list
pub among-cons : (x y : ℕ) (ys : List ℕ) → among x (y ∷ ys) ≡ cond (eqb x y) true (among x ys)
unfolding among
among-cons x y ys = refl

among-other : (x y : ℕ) (ys : List ℕ) → (x ≡ y → ⊥) → among x (y ∷ ys) ≡ among x ys
among-other x y ys n = among-cons x y ys ∙ ap (λ (b : Bool). cond b true (among x ys)) (ne_eqb x y n)

among_first : (x : ℕ) (ys : List ℕ) → among x (x ∷ ys) ≡ true
among_first x ys = among-cons x x ys ∙ ap (λ (b : Bool). cond b true (among x ys)) (eq-eqb x x refl)

swapped : (a b c : Bool) → cond a true (cond b true c) ≡ cond b true (cond a true c)
swapped true true c = refl
swapped true false c = refl
swapped false true c = refl
swapped false false c = refl

twice : (a c : Bool) → cond a true c ≡ cond a true (cond a true c)
twice true c = refl
twice false c = refl

-- a number that was put in, and those that were there
pub among-insert : (x h : ℕ) (set : List ℕ) → among x (insert compare h set) ≡ cond (eqb x h) true (among x set)
unfolding among insert
among-insert x h [] = refl
among-insert x h (y ∷ ys) = go (among-insert x h ys) (compare h y) refl
  where
    go : among x (insert compare h ys) ≡ cond (eqb x h) true (among x ys) → (o : Ordering) → compare h y ≡ o
        → among x (place o h y ys (insert compare h ys)) ≡ cond (eqb x h) true (cond (eqb x y) true (among x ys))
    go ih Ordering.lt e = refl
    go ih Ordering.eq e = twice (eqb x h) (among x ys) ∙ ap (λ (n : ℕ). cond (eqb x h) true (cond (eqb x n) true (among x ys))) (compare-eq h y e)
    go ih Ordering.gt e = ap (λ (b : Bool). cond (eqb x y) true b) ih ∙ swapped (eqb x y) (eqb x h) (among x ys)

-- a member of what rises from x is above x
pub above-first : (x h : ℕ) (xs : List ℕ) → rises_from compare x xs ≡ true → among h xs ≡ true → x < h
unfolding among
above-first x h [] r e = absurd (false≢true e)
above-first x h (y ∷ ys) r e = go (λ f. above-first y h ys (rises-tail x y ys r) f) (eqb h y) refl
  where
    l : x < y
    l = rises-head x y ys r

    go : (among h ys ≡ true → y < h) → (b : Bool) → eqb h y ≡ b → x < h
    go ih true f = omega (arith, l, eqb-true h y f)
    go ih false f = omega (arith, l, ih (sym (ap (λ (b : Bool). cond b true (among h ys)) f) ∙ e))

-- ---- where a member stands
rank-cons : (h y : ℕ) (ys : List ℕ) (b : Bool) → ltb y h ≡ b → rank h (y ∷ ys) ≡ cond b (suc (rank h ys)) (rank h ys)
unfolding rank keep
rank-cons h y ys b e = go b e
  where
    go : (c : Bool) → ltb y h ≡ c → length (cond (ltb y h) (y ∷ keep (λ x. ltb x h) ys) (keep (λ x. ltb x h) ys)) ≡ cond c (suc (length (keep (λ x. ltb x h) ys))) (length (keep (λ x. ltb x h) ys))
    go true f = simp f
    go false f = simp f

rank-none : (h y : ℕ) (ys : List ℕ) → h ≤ y → rises_from compare y ys ≡ true → rank h (y ∷ ys) ≡ 0
unfolding rank keep
rank-none h y [] l r = rank-cons h y [] false (le-ltb y h l)
rank-none h y (z ∷ zs) l r =
    let m = rises-head y z zs r in
    rank-cons h y (z ∷ zs) false (le-ltb y h l) ∙ rank-none h z zs (omega arith) (rises-tail y z zs r)

pub at-rank : (h : ℕ) (set : List ℕ) → rises compare set ≡ true → among h set ≡ true → (rank h set < length set) × (get_or set (rank h set) 0 ≡ h)
unfolding rises among
at-rank h [] r e = absurd (false≢true e)
at-rank h (y ∷ ys) r e = go (λ f. at-rank h ys (rises-of compare compare-order y ys r) f) (eqb h y) refl
  where
    go : (among h ys ≡ true → (rank h ys < length ys) × (get_or ys (rank h ys) 0 ≡ h)) → (b : Bool) → eqb h y ≡ b
        → (rank h (y ∷ ys) < length (y ∷ ys)) × (get_or (y ∷ ys) (rank h (y ∷ ys)) 0 ≡ h)
    go ih true f =
        let q : h ≡ y = eqb-true h y f in
        let z : rank h (y ∷ ys) ≡ 0 = rank-none h y ys (omega arith) r in
        (omega (arith, z), ap (λ (i : ℕ). get_or (y ∷ ys) i 0) z ∙ sym q)
    go ih false f =
        let m : among h ys ≡ true = sym (among-other h y ys (eqb-false h y f)) ∙ e in
        let k = ih m in
        let z : rank h (y ∷ ys) ≡ suc (rank h ys) = rank-cons h y ys true (lt-ltb y h (above-first y h ys r m)) in
        (omega (arith, z, k.0), ap (λ (i : ℕ). get_or (y ∷ ys) i 0) z ∙ k.1)

-- a search that found the number tells its place
pub found-place : (h i : ℕ) (set : List ℕ) → Ok i ≡ found_in h set → (among h set ≡ true) × (i ≡ rank h set)
unfolding found_in
found-place h i set = go (among h set) refl
  where
    go : (b : Bool) → among h set ≡ b → Ok i ≡ found b (rank h set) → (among h set ≡ true) × (i ≡ rank h set)
    go true e f = (e, cc)
    go false e f = absurd (let z : ◌≡◌ {A = ℕ} 0 1 = cc in omega arith)

-- ---- a list whose members are all in another
abbrev pub Inside : List ℕ → List ℕ → Type 0
Inside s w = (h : ℕ) → among h s ≡ true → among h w ≡ true

abbrev Part : List ℕ → Type 0
Part w = (s : List ℕ) → rises compare w ≡ true → rises compare s ≡ true → Inside s w → (length s ≤ length w) × (length w ≤ length s → s ≡ w)

part_none : Part []
unfolding among
part_none [] p q i = (omega arith, λ l. refl)
part_none (x ∷ xs) p q i = absurd (false≢true (i x (among_first x xs)))

part-more : (y : ℕ) (ys : List ℕ) → Part ys → Part (y ∷ ys)
unfolding rises turned
part-more y ys ih [] p q i = (omega arith, λ l. absurd (omega arith))
part-more y ys ih (x ∷ xs) p q i = go (compare x y) refl
  where
    on : rises compare ys ≡ true
    on = rises-of compare compare-order y ys p

    -- where x is y
    same : x ≡ y → (length (x ∷ xs) ≤ length (y ∷ ys)) × (length (y ∷ ys) ≤ length (x ∷ xs) → x ∷ xs ≡ y ∷ ys)
    same e =
        let k = ih xs on (rises-of compare compare-order x xs q) (λ h m. let a = above-first x h xs q m in sym (among-other h y ys (λ z. omega arith)) ∙ i h (among-other h x xs (λ z. omega arith) ∙ m)) in
        (omega (arith, k.0), λ l. let f : xs ≡ ys = k.1 (omega arith) in cc)

    -- where x is further on
    after : y < x → (length (x ∷ xs) ≤ length (y ∷ ys)) × (length (y ∷ ys) ≤ length (x ∷ xs) → x ∷ xs ≡ y ∷ ys)
    after e =
        let k = ih (x ∷ xs) on q (λ h m. sym (among-other h y ys (λ z. omega (arith, least h m))) ∙ i h m) in
        (omega (arith, k.0), λ l. absurd (omega (arith, k.0)))
      where
        least : (h : ℕ) → among h (x ∷ xs) ≡ true → x ≤ h
        least h m = at_least (eqb h x) refl
          where
            at_least : (b : Bool) → eqb h x ≡ b → x ≤ h
            at_least true f = omega (arith, eqb-true h x f)
            at_least false f = omega (arith, above-first x h xs q (sym (among-other h x xs (eqb-false h x f)) ∙ m))

    go : (o : Ordering) → compare x y ≡ o → (length (x ∷ xs) ≤ length (y ∷ ys)) × (length (y ∷ ys) ≤ length (x ∷ xs) → x ∷ xs ≡ y ∷ ys)
    go Ordering.lt e = absurd (false≢true (sym (none_below x y ys (compare-lt x y e) p) ∙ i x (among_first x xs)))
    go Ordering.eq e = same (compare-eq x y e)
    go Ordering.gt e = after (compare-lt y x (compare-turn x y ∙ ap turned e))

pub part_of : (w : List ℕ) → Part w
part_of [] = part_none
part_of (y ∷ ys) = part-more y ys (part_of ys)

-- they are the same exactly if there are as many
pub same_count : (w s : List ℕ) → rises compare w ≡ true → rises compare s ≡ true → Inside s w → eqb (length s) (length w) ≡ same_numbers w s
same_count w s p q i = go (same_numbers w s) refl
  where
    go : (b : Bool) → same_numbers w s ≡ b → eqb (length s) (length w) ≡ same_numbers w s
    go true e = eq-eqb (length s) (length w) (ap length (sym (numbers-eq w s e))) ∙ sym e
    go false e =
        ne_eqb (length s) (length w) (λ l. false≢true (sym e ∙ numbers-same w s (sym ((part_of w s p q i).1 (omega arith))))) ∙ sym e

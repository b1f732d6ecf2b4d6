-- Sound rows, split at a timestamp: those below it, its own if there is one, and those above.
-- Assumes nothing.
use Prim.Native.Nat.{ℕ, suc, ◌+◌, ◌≤◌, ◌<◌, compare, Ordering}
use native.Mathlib.Omega.{arith}
use mathlib.Core.Path.{◌≡◌, refl, ap, ◌∙◌}
use mathlib.Core.Bool.{Bool, true, false, not}
use mathlib.Core.List.{List, [], ◌∷◌, ◌++◌}
use lib.ListN.{length, take, drop}
use lib.Dec.{leb, ltb, eqb}
use borrow.Author.Tests.{ltb-true, lt-ltb, le-ltb, le-leb, lt-leb, eq-eqb, ne_eqb}
use Rattle.paper.specs.Lists.{all, keep, is_lt, insert, rises_from, rises}
use Rattle.paper.specs.Readers.{Row, row, cmp_row, readers_at}
use Rattle.paper.proofs.Bools.{and_left, and_right, and_intro, is_lt-lt}
use Rattle.paper.proofs.Order.{turned, compare-lt, compare-eq, compare-turn}
use Rattle.paper.proofs.Rising.{rises-of}
use Rattle.paper.proofs.ReaderLaws.{row-order}
use Rattle.watermark.specs.Pass.{below, upto}

compare-gt : (m n : ℕ) → compare m n ≡ Ordering.gt → n < m
unfolding turned
compare-gt m n e = compare-lt n m (compare-turn m n ∙ ap turned e)

module _ {A : Type 0} (q p : A → Bool) where
  keep-none : ((x : A) → q x ≡ true → p x ≡ false) → (ys : List A) → all q ys ≡ true → keep p ys ≡ []
  unfolding all keep
  keep-none f [] h = refl
  keep-none f (y ∷ ys) h = simp (f y (and_left (q y) (all q ys) h)) (keep-none f ys (and_right (q y) (all q ys) h))

  keep-every : ((x : A) → q x ≡ true → p x ≡ true) → (ys : List A) → all q ys ≡ true → keep p ys ≡ ys
  unfolding all keep
  keep-every f [] h = refl
  keep-every f (y ∷ ys) h = simp (f y (and_left (q y) (all q ys) h)) (ap (λ (r : List A). y ∷ r) (keep-every f ys (and_right (q y) (all q ys) h)))

abbrev above : ℕ → Row → Bool
above t r = ltb t r.time

-- rows that follow one at t or above it stand above t
all_above : (t : ℕ) (y : Row) (ys : List Row) → rises_from cmp_row y ys ≡ true → t ≤ y.time → all (above t) ys ≡ true
unfolding all rises_from cmp_row
all_above t y [] h l = refl
all_above t y (z ∷ zs) h l =
    let m : y.time < z.time = compare-lt y.time z.time (is_lt-lt (compare y.time z.time) (and_left (is_lt (compare y.time z.time)) (rises_from cmp_row z zs) h)) in
    and_intro (lt-ltb t z.time (omega arith)) (all_above t z zs (and_right (is_lt (compare y.time z.time)) (rises_from cmp_row z zs) h) (omega arith))

module _ (t : ℕ) (y : Row) (ys : List Row) where
  below_more : y.time < t → below t (y ∷ ys) ≡ suc (below t ys)
  unfolding below keep
  below_more l = simp (lt-ltb y.time t l)

  upto-more : y.time ≤ t → upto t (y ∷ ys) ≡ suc (upto t ys)
  unfolding upto keep
  upto-more l = simp (le-leb y.time t l)

  module _ (h : rises_from cmp_row y ys ≡ true) (l : t ≤ y.time) where
    rest : all (above t) ys ≡ true
    rest = all_above t y ys h l

    below_none : below t (y ∷ ys) ≡ 0
    unfolding below keep
    below_none = simp (le-ltb y.time t l) (ap length (keep-none (above t) (λ r. ltb r.time t) (λ x e. let m : t < x.time = ltb-true t x.time e in le-ltb x.time t (omega arith)) ys rest))

    none-upto : upto t ys ≡ 0
    unfolding upto
    none-upto = ap length (keep-none (above t) (λ r. leb r.time t) (λ x e. lt-leb x.time t (ltb-true t x.time e)) ys rest)

    upto-none : t < y.time → upto t (y ∷ ys) ≡ 0
    unfolding upto keep
    upto-none m = simp (lt-leb y.time t m) none-upto

    others : keep (λ r. not (eqb t r.time)) ys ≡ ys
    others = keep-every (above t) (λ r. not (eqb t r.time)) (λ x e. let m : t < x.time = ltb-true t x.time e in ap not (ne_eqb t x.time (λ q. omega arith))) ys rest

pub record Split (t : ℕ) (rows : List Row) : Type 0 where
  pub puts : (n : ℕ) → insert cmp_row (row t n) rows ≡ take (below t rows) rows ++ (row t n ∷ drop (upto t rows) rows)
  pub takes : keep (λ r. not (eqb t r.time)) rows ≡ take (below t rows) rows ++ drop (upto t rows) rows
  pub least : below t rows ≤ upto t rows
  pub most : upto t rows ≤ below t rows + 1
  pub inside : upto t rows ≤ length rows
  pub absent : upto t rows ≤ below t rows → readers_at t rows ≡ 0
  pub present : below t rows < upto t rows → all (λ r. ltb 0 r.count) rows ≡ true → 0 < readers_at t rows

counts : (y : Row) (ys : List Row) → all (λ r. ltb 0 r.count) (y ∷ ys) ≡ true → 0 < y.count
unfolding all
counts y ys a = ltb-true 0 y.count (and_left (ltb 0 y.count) (all (λ r. ltb 0 r.count) ys) a)

further : (y : Row) (ys : List Row) → all (λ r. ltb 0 r.count) (y ∷ ys) ≡ true → all (λ r. ltb 0 r.count) ys ≡ true
unfolding all
further y ys a = and_right (ltb 0 y.count) (all (λ r. ltb 0 r.count) ys) a

split-none : (t : ℕ) → Split t []
unfolding insert keep below upto readers_at
split-none t = record { puts = λ n. refl; takes = refl; least = omega arith; most = omega arith; inside = omega arith; absent = λ _. refl; present = λ l _. omega arith }

split-cons : (t : ℕ) (y : Row) (ys : List Row) → rises_from cmp_row y ys ≡ true → Split t ys → Split t (y ∷ ys)
unfolding insert keep readers_at cmp_row
split-cons t y ys h ih = go (compare t y.time) refl
  where
    go : (o : Ordering) → compare t y.time ≡ o → Split t (y ∷ ys)
    go Ordering.lt e =
        let l : t < y.time = compare-lt t y.time e in
        let b = below_none t y ys h (omega arith) in
        let u = upto-none t y ys h (omega arith) l in
        let n : eqb t y.time ≡ false = ne_eqb t y.time (λ q. omega arith) in
        let none : readers_at t ys ≡ 0 = ih.absent (omega (arith, none-upto t y ys h (omega arith))) in
        record {
          puts = λ n. simp (e, b, u);
          takes = simp (n, b, u) (ap (λ (r : List Row). y ∷ r) (others t y ys h (omega arith)));
          least = omega arith;
          most = omega arith;
          inside = omega arith;
          absent = λ _. simp n none;
          present = λ m _. omega arith;
        }
    go Ordering.eq e =
        let l : t ≡ y.time = compare-eq t y.time e in
        let b = below_none t y ys h (omega arith) in
        let u : upto t (y ∷ ys) ≡ 1 = upto-more t y ys (omega arith) ∙ ap suc (none-upto t y ys h (omega arith)) in
        let n : eqb t y.time ≡ true = eq-eqb t y.time l in
        record {
          puts = λ n. simp (e, b, u);
          takes = simp (n, b, u) (others t y ys h (omega arith));
          least = omega arith;
          most = omega arith;
          inside = omega arith;
          absent = λ m. omega arith;
          present = λ m a. simp n (counts y ys a);
        }
    go Ordering.gt e =
        let l : y.time < t = compare-gt t y.time e in
        let b = below_more t y ys l in
        let u = upto-more t y ys (omega arith) in
        let n : eqb t y.time ≡ false = ne_eqb t y.time (λ q. omega arith) in
        record {
          puts = λ m. simp (e, b, u) (ap (λ (r : List Row). y ∷ r) (ih.puts m));
          takes = simp (n, b, u) (ap (λ (r : List Row). y ∷ r) ih.takes);
          least = omega (arith, ih.least);
          most = omega (arith, ih.most);
          inside = omega (arith, ih.inside);
          absent = λ m. simp n (ih.absent (omega arith));
          present = λ m a. simp n (ih.present (omega arith) (further y ys a));
        }

pub split : (t : ℕ) (rows : List Row) → rises cmp_row rows ≡ true → Split t rows
unfolding rises
split t [] h = split-none t
split t (y ∷ ys) h = split-cons t y ys h (split t ys (rises-of cmp_row row-order y ys h))

-- Where a timestamp is, or would be, among rising rows, and what adding and removing a reader do there.
-- Assumes nothing.
use Prim.Native.Nat.{Ordering}
use Prim.Native.Nat.{ℕ, zero, suc, ◌+◌, ◌-◌, ◌<◌, ◌≤◌, compare}
use native.Mathlib.Omega.{arith}
use native.Mathlib.Nat.{not-suc-le-zero}
use mathlib.Core.Path.{◌≡◌, refl, sym, ap, ◌∙◌, subst}
use mathlib.Core.Bool.{Bool, true, false, not, cond, ◌||◌}
use mathlib.Core.List.{List, [], ◌∷◌, ◌++◌}
use lib.ListN.{length, take, drop, get_or, set}
use lib.Dec.{ltb, eqb}
use borrow.Author.Tests.{ltb-true, ltb-false, eq-eqb, eqb-true, eqb-false, ne_eqb, le-leb, lt-leb}
use Rattle.paper.specs.Lists.{any, keep, insert, is_lt, rises_from, rises}
use Rattle.paper.specs.Readers.{Row, row, cmp_row, readers_at, add_reader, remove_reader, watermark}
use Rattle.paper.proofs.Bools.{and_left, and_right, is_lt-lt}
use Rattle.paper.proofs.Order.{turned, compare_same, compare-turn, compare-lt, lt-compare}
use Rattle.paper.proofs.Rising.{rises-of}
use Rattle.paper.proofs.ReaderLaws.{row-order}
use Rattle.std.specs.Prelude.{Result, Ok, Err}
use Rattle.table.specs.Rows.{rows_before, has_row, here, gap, spot_of}
use Rattle.table.specs.declared.Spot.{Spot}
use Rattle.table.specs.declared.Gap.{Gap}

abbrev pub blank : Row
blank = row 0 0

-- the timestamp and the count at a place
abbrev pub time_at : List Row → ℕ → ℕ
time_at rs k = (get_or rs k blank).time

abbrev pub count_at : List Row → ℕ → ℕ
count_at rs k = (get_or rs k blank).count

gt-compare : (m n : ℕ) → n < m → compare m n ≡ Ordering.gt
unfolding turned
gt-compare m n h = compare-turn n m ∙ ap turned (lt-compare n m h)

-- ---- rising rows
head-below : (x r : Row) (rs : List Row) → rises_from cmp_row x (r ∷ rs) ≡ true → (x.time < r.time) × (rises_from cmp_row r rs ≡ true)
unfolding rises_from cmp_row
head-below x r rs h =
    (compare-lt x.time r.time (is_lt-lt (compare x.time r.time) (and_left (is_lt (compare x.time r.time)) (rises_from cmp_row r rs) h)), and_right (is_lt (compare x.time r.time)) (rises_from cmp_row r rs) h)

rises-from : (x : Row) (rs : List Row) → rises_from cmp_row x rs ≡ true → (k : ℕ) → k < length rs → x.time < time_at rs k
rises-from x [] h k l = absurd (not-suc-le-zero l)
rises-from x (r ∷ rs) h zero l = (head-below x r rs h).0
rises-from x (r ∷ rs) h (suc k) l =
    let a = head-below x r rs h in
    let b = rises-from r rs a.1 k (omega arith) in
    omega arith

rising : (rs : List Row) → rises cmp_row rs ≡ true → (i j : ℕ) → i < j → j < length rs → time_at rs i < time_at rs j
unfolding rises
rising [] h i j l m = absurd (not-suc-le-zero m)
rising (r ∷ rs) h i zero l m = absurd (not-suc-le-zero l)
rising (r ∷ rs) h zero (suc j) l m = rises-from r rs h j (omega arith)
rising (r ∷ rs) h (suc i) (suc j) l m = rising rs (rises-of cmp_row row-order r rs h) i j (omega arith) (omega arith)

-- ---- the watermark: the first row's timestamp, or the clock
pub watermark-none : (clock : ℕ) (rs : List Row) → length rs ≡ 0 → clock ≡ watermark clock rs
unfolding watermark
watermark-none clock [] e = refl
watermark-none clock (r ∷ rs) e = absurd (omega arith)

pub watermark-first : (clock : ℕ) (rs : List Row) → 0 < length rs → time_at rs 0 ≡ watermark clock rs
unfolding watermark
watermark-first clock [] l = absurd (not-suc-le-zero l)
watermark-first clock (r ∷ rs) l = refl

-- ---- rows without the timestamp
abbrev Without : ℕ → List Row → Type 0
Without t rs = (k : ℕ) → k < length rs → time_at rs k ≡ t → ⊥

without-tail : (t : ℕ) (r : Row) (rs : List Row) → Without t (r ∷ rs) → Without t rs
without-tail t r rs w k l e = w (suc k) (omega arith) e

readers-none : (t : ℕ) (rs : List Row) → Without t rs → readers_at t rs ≡ 0
unfolding readers_at
readers-none t [] w = refl
readers-none t (r ∷ rs) w = simp (ne_eqb t r.time (λ e. w 0 (omega arith) (sym e)), readers-none t rs (without-tail t r rs w))

keep_all : (t : ℕ) (rs : List Row) → Without t rs → keep (λ r. not (eqb t r.time)) rs ≡ rs
unfolding keep
keep_all t [] w = refl
keep_all t (r ∷ rs) w = simp (ne_eqb t r.time (λ e. w 0 (omega arith) (sym e)), keep_all t rs (without-tail t r rs w))

no_row : (t : ℕ) (rs : List Row) → Without t rs → has_row t rs ≡ false
unfolding has_row any
no_row t [] w = refl
no_row t (r ∷ rs) w = simp (ne_eqb t r.time (λ e. w 0 (omega arith) (sym e))) (no_row t rs (without-tail t r rs w))

a-row : (t : ℕ) (rs : List Row) (k : ℕ) → k < length rs → time_at rs k ≡ t → has_row t rs ≡ true
unfolding has_row any
a-row t [] k l e = absurd (not-suc-le-zero l)
a-row t (r ∷ rs) zero l e = simp (eq-eqb t r.time (sym e))
a-row t (r ∷ rs) (suc k) l e = go (eqb t r.time) (a-row t rs k (omega arith) e)
  where
    go : (b : Bool) → has_row t rs ≡ true → b || any (λ q. eqb t q.time) rs ≡ true
    go true h = refl
    go false h = h

-- ---- at a place before which all is below t
abbrev pub Below : ℕ → List Row → ℕ → Type 0
Below t rs k = (j : ℕ) → j < k → time_at rs j < t

below-tail : (t : ℕ) (r : Row) (rs : List Row) (k : ℕ) → Below t (r ∷ rs) (suc k) → Below t rs k
below-tail t r rs k b j l = b (suc j) (omega arith)

insert-same : (rs : List Row) (k t c : ℕ) → k < length rs → Below t rs k → time_at rs k ≡ t → insert cmp_row (row t c) rs ≡ set rs k (row t c)
unfolding insert cmp_row
insert-same [] k t c l b e = absurd (not-suc-le-zero l)
insert-same (r ∷ rs) zero t c l b e = simp (e, compare_same t)
insert-same (r ∷ rs) (suc k) t c l b e =
    simp (gt-compare t r.time (b 0 (omega arith)), insert-same rs k t c (omega arith) (below-tail t r rs k b) e)

insert-gap : (rs : List Row) (k t c : ℕ) → k ≤ length rs → Below t rs k → (k < length rs → t < time_at rs k) → insert cmp_row (row t c) rs ≡ take k rs ++ (row t c ∷ drop k rs)
unfolding insert cmp_row
insert-gap [] zero t c l b h = refl
insert-gap [] (suc k) t c l b h = absurd (not-suc-le-zero l)
insert-gap (r ∷ rs) zero t c l b h = simp (lt-compare t r.time (h (omega arith)))
insert-gap (r ∷ rs) (suc k) t c l b h =
    simp (gt-compare t r.time (b 0 (omega arith)), insert-gap rs k t c (omega arith) (below-tail t r rs k b) (λ m. h (omega arith)))

readers-same : (rs : List Row) (k t : ℕ) → k < length rs → Below t rs k → time_at rs k ≡ t → readers_at t rs ≡ count_at rs k
unfolding readers_at
readers-same [] k t l b e = absurd (not-suc-le-zero l)
readers-same (r ∷ rs) zero t l b e = simp (eq-eqb t r.time (sym e))
readers-same (r ∷ rs) (suc k) t l b e =
    simp (ne_eqb t r.time (λ f. omega (arith, b 0 (omega arith))), readers-same rs k t (omega arith) (below-tail t r rs k b) e)

keep_same : (rs : List Row) (k t : ℕ) → k < length rs → Below t rs k → time_at rs k ≡ t → ((j : ℕ) → k < j → j < length rs → t < time_at rs j)
    → keep (λ r. not (eqb t r.time)) rs ≡ take k rs ++ drop (suc k) rs
unfolding keep
keep_same [] k t l b e a = absurd (not-suc-le-zero l)
keep_same (r ∷ rs) zero t l b e a = simp (eq-eqb t r.time (sym e), keep_all t rs (λ j m f. omega (arith, a (suc j) (omega arith) (omega arith))))
keep_same (r ∷ rs) (suc k) t l b e a =
    simp (ne_eqb t r.time (λ f. omega (arith, b 0 (omega arith))), keep_same rs k t (omega arith) (below-tail t r rs k b) e (λ j m n. a (suc j) (omega arith) (omega arith)))

-- ---- the number of rows before t
record Before (t : ℕ) (rs : List Row) (k : ℕ) : Type 0 where
  within : k ≤ length rs
  below : Below t rs k
  from : k < length rs → t ≤ time_at rs k

before-says : (t : ℕ) (rs : List Row) → Before t rs (rows_before t rs)
unfolding rows_before
before-says t [] = record { within = omega arith; below = λ j l. absurd (not-suc-le-zero l); from = λ l. absurd (not-suc-le-zero l) }
before-says t (r ∷ rs) = go (ltb r.time t) refl (before-says t rs)
  where
    go : (p : Bool) → ltb r.time t ≡ p → Before t rs (rows_before t rs) → Before t (r ∷ rs) (cond p (suc (rows_before t rs)) 0)
    go true e i = record { within = omega (arith, i.within); below = under; from = λ l. i.from (omega arith) }
      where
        under : Below t (r ∷ rs) (suc (rows_before t rs))
        under zero l = ltb-true r.time t e
        under (suc j) l = i.below j (omega arith)
    go false e i = record { within = omega arith; below = λ j l. absurd (not-suc-le-zero l); from = λ l. ltb-false r.time t e }

-- ---- a reader more, and one less, where t has a row at place k
pub record Hit (rs : List Row) (t k : ℕ) : Type 0 where
  pub inside : k < length rs
  pub time : time_at rs k ≡ t
  pub readers : readers_at t rs ≡ count_at rs k
  pub added : add_reader t rs ≡ set rs k (row t (count_at rs k + 1))
  pub last : count_at rs k ≤ 1 → remove_reader t rs ≡ take k rs ++ drop (suc k) rs
  pub less : 1 < count_at rs k → remove_reader t rs ≡ set rs k (row t (count_at rs k - 1))

hit : (rs : List Row) (t k : ℕ) → rises cmp_row rs ≡ true → Below t rs k → k < length rs → time_at rs k ≡ t → Hit rs t k
unfolding add_reader remove_reader
hit rs t k up b l e =
    let r = readers-same rs k t l b e in
    record {
      inside = l;
      time = e;
      readers = r;
      added = rw r (insert-same rs k t (count_at rs k + 1) l b e);
      last = λ h. rw r (simp (le-leb (count_at rs k) 1 h) (keep_same rs k t l b e (λ j m n. subst (λ (u : ℕ). u < time_at rs j) e (rising rs up k j m n))));
      less = λ h. rw r (simp (lt-leb (count_at rs k) 1 h) (insert-same rs k t (count_at rs k - 1) l b e));
    }

-- and where it has none, and its row would be at place k
pub record Miss (rs : List Row) (t k : ℕ) : Type 0 where
  pub within : k ≤ length rs
  pub readers : readers_at t rs ≡ 0
  pub added : add_reader t rs ≡ take k rs ++ (row t 1 ∷ drop k rs)
  pub removed : remove_reader t rs ≡ rs

absent : (rs : List Row) (t k : ℕ) → rises cmp_row rs ≡ true → Below t rs k → (k < length rs → t < time_at rs k) → Without t rs
absent rs t k up b h j m e = go (ltb j k) refl (ltb k j) refl
  where
    go : (p : Bool) → ltb j k ≡ p → (q : Bool) → ltb k j ≡ q → ⊥
    go true p q r = omega (arith, b j (ltb-true j k p))
    go false p true r =
        let f : k < j = ltb-true k j r in
        omega (arith, h (omega arith), rising rs up k j f m)
    go false p false r =
        let f : j ≡ k = omega (arith, ltb-false j k p, ltb-false k j r) in
        let g : time_at rs k ≡ t = ap (time_at rs) (sym f) ∙ e in
        omega (arith, h (omega arith))

miss : (rs : List Row) (t k : ℕ) → Below t rs k → k ≤ length rs → (k < length rs → t < time_at rs k) → Without t rs → Miss rs t k
unfolding add_reader remove_reader
miss rs t k b l h w =
    let r = readers-none t rs w in
    record {
      within = l;
      readers = r;
      added = rw r (insert-gap rs k t 1 l b h);
      removed = rw r (keep_all t rs w);
    }

-- ---- the spot of a timestamp
module _ (t : ℕ) (rs : List Row) (up : rises cmp_row rs ≡ true) where
  -- the row at place k is not before t, and is its own
  pub spot-here : (k : ℕ) → k ≡ rows_before t rs → k < length rs → time_at rs k ≡ t → here k (length rs) (count_at rs k) ≡ spot_of t rs
  unfolding spot_of
  spot-here k e l f =
      let b : Below t rs k = subst (Below t rs) (sym e) (before-says t rs).below in
      simp (a-row t rs k l f) (ap (here k (length rs)) (sym (readers-same rs k t l b f)) ∙ ap (λ (j : ℕ). here j (length rs) (readers_at t rs)) e)

  -- and where it is another's, or no row is there, t has none
  past : (k : ℕ) → k ≡ rows_before t rs → (k < length rs → time_at rs k ≡ t → ⊥) → k < length rs → t < time_at rs k
  past k e f l =
      let g : t ≤ time_at rs k = subst (λ (j : ℕ). j < length rs → t ≤ time_at rs j) (sym e) (before-says t rs).from l in
      let d : time_at rs k ≡ t → ⊥ = f l in
      omega arith

  gone : (k : ℕ) → k ≡ rows_before t rs → (k < length rs → time_at rs k ≡ t → ⊥) → Without t rs
  gone k e f = absent rs t k up (subst (Below t rs) (sym e) (before-says t rs).below) (past k e f)

  pub spot-gap : (k : ℕ) → k ≡ rows_before t rs → (k < length rs → time_at rs k ≡ t → ⊥) → gap k (length rs) ≡ spot_of t rs
  unfolding spot_of
  spot-gap k e f = simp (no_row t rs (gone k e f)) (ap (λ (j : ℕ). gap j (length rs)) e)

  -- what a spot says
  abbrev pub Spotted : Result Spot Gap → Type 0
  Spotted (Ok s) = (s.n ≡ length rs) × (s.count ≡ readers_at t rs) × Hit rs t s.k
  Spotted (Err g) = (g.n ≡ length rs) × Miss rs t g.k

  pub spotted : (s : Result Spot Gap) → s ≡ spot_of t rs → Spotted s
  unfolding spot_of
  spotted s e = subst Spotted (sym e) (go (has_row t rs) refl)
    where
      k : ℕ
      k = rows_before t rs

      B : Before t rs k
      B = before-says t rs

      at_k : (p : Bool) → eqb (time_at rs k) t ≡ p → (q : Bool) → ltb k (length rs) ≡ q → has_row t rs ≡ true → (k < length rs) × (time_at rs k ≡ t)
      at_k true p true q h = (ltb-true k (length rs) q, eqb-true (time_at rs k) t p)
      at_k true p false q h = absurd (let z : true ≡ false = sym h ∙ no_row t rs (gone k refl (λ l f. omega (arith, ltb-false k (length rs) q))) in let y : ◌≡◌ {A = ℕ} 0 1 = cc in omega arith)
      at_k false p q w h = absurd (let z : true ≡ false = sym h ∙ no_row t rs (gone k refl (λ l f. eqb-false (time_at rs k) t p f)) in let y : ◌≡◌ {A = ℕ} 0 1 = cc in omega arith)

      none_here : has_row t rs ≡ false → k < length rs → time_at rs k ≡ t → ⊥
      none_here h l f = let z : true ≡ false = sym (a-row t rs k l f) ∙ h in let y : ◌≡◌ {A = ℕ} 0 1 = cc in omega arith

      go : (p : Bool) → has_row t rs ≡ p → Spotted (cond p (here (rows_before t rs) (length rs) (readers_at t rs)) (gap (rows_before t rs) (length rs)))
      go true h =
          let f = at_k (eqb (time_at rs k) t) refl (ltb k (length rs)) refl h in
          (refl, refl, hit rs t k up B.below f.0 f.1)
      go false h = (refl, miss rs t k B.below B.within (past k refl (none_here h)) (gone k refl (none_here h)))

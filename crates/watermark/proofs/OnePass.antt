-- The pass over the rows: at its start, a row more, at its end, and how far its numbers go.
-- Assumes nothing.
use Prim.Native.Nat.{ℕ, zero, suc, ◌+◌, ◌-◌, ◌≤◌, ◌<◌, compare, Ordering}
use native.Mathlib.Omega.{arith}
use native.Mathlib.Numerals.{add-one}
use Rattle.std.proofs.Common.{add-zero}
use mathlib.Core.Path.{◌≡◌, refl, sym, ap, ◌∙◌}
use mathlib.Core.Bool.{Bool, true, false, cond, ◌&&◌}
use mathlib.Core.List.{List, [], ◌∷◌, ◌++◌}
use lib.ListN.{length, length-append}
use lib.Dec.{leb, ltb, eqb}
use borrow.Author.Tests.{ltb-true, ltb-false, eqb-true, eqb-false, eq-eqb, ne_eqb, lt-ltb, le-ltb, le-leb, lt-leb}
use Rattle.paper.specs.Lists.{all, keep, is_lt, rises_from, rises}
use Rattle.paper.specs.Readers.{Row, cmp_row, readers_at}
use Rattle.paper.proofs.Bools.{and_left, and_right, is_lt-lt}
use Rattle.paper.proofs.Order.{compare-lt, lt-compare}
use Rattle.paper.proofs.Rising.{rises-of}
use Rattle.paper.proofs.ReaderLaws.{row-order}
use Rattle.watermark.specs.Table.{as_row, up_to}
use Rattle.std.specs.Prelude.{Some, None, Result, Ok, Err}
use Rattle.watermark.specs.Pass.{pick, unsound_table, last_from, last_of, below, upto, count_at, found, scanned, follows, passed_of, see_of}
use Rattle.watermark.specs.declared.pass.Row as Lent
use Rattle.watermark.specs.declared.pass.Scan.{Scan}
use Rattle.watermark.specs.declared.reply.Unsound.{Unsound}

pub scan-start : (t : ℕ) → ◌≡◌ {A = Scan} (record { time = t; last = None; below = 0; count = None }) (found t [])
unfolding below upto keep count_at
scan-start t = refl

pub start-sound : (t : ℕ) → scanned true t [] ≡ Ok (found t [])
unfolding scanned rises all
start-sound t = refl

-- ---- tests of one row more
and_assoc : (a b c : Bool) → (a && b) && c ≡ a && (b && c)
and_assoc true b c = refl
and_assoc false b c = refl

-- four tests, the second and the last of which come with the new row
and-four : (f a b c d : Bool) → f && ((a && b) && (c && d)) ≡ (f && (a && c)) && (d && b)
and-four false a b c d = refl
and-four true false b c d = refl
and-four true true true true true = refl
and-four true true true true false = refl
and-four true true true false d = refl
and-four true true false true true = refl
and-four true true false true false = refl
and-four true true false false d = refl

all_snoc : {A : Type 0} (p : A → Bool) (l : List A) (x : A) → all p (l ++ (x ∷ [])) ≡ all p l && p x
unfolding all
all_snoc p [] x = go (p x)
  where
    go : (b : Bool) → b && true ≡ b
    go true = refl
    go false = refl
all_snoc p (y ∷ ys) x = ap (λ b. p y && b) (all_snoc p ys x) ∙ sym (and_assoc (p y) (all p ys) (p x))

less : (m n : ℕ) → is_lt (compare m n) ≡ ltb m n
less m n = go (ltb m n) refl
  where
    go : (b : Bool) → ltb m n ≡ b → is_lt (compare m n) ≡ ltb m n
    go true e = ap is_lt (lt-compare m n (ltb-true m n e)) ∙ sym e
    go false e = here (compare m n) refl ∙ sym e
      where
        here : (o : Ordering) → compare m n ≡ o → is_lt o ≡ false
        here Ordering.lt f = absurd (let l : m < n = compare-lt m n f in omega (arith, ltb-false m n e))
        here Ordering.eq f = refl
        here Ordering.gt f = refl

rises_from-snoc : (y : Row) (ys : List Row) (x : Row) → rises_from cmp_row y (ys ++ (x ∷ [])) ≡ rises_from cmp_row y ys && ltb (last_from y.time ys) x.time
unfolding rises_from cmp_row
rises_from-snoc y [] x = go (ltb y.time x.time) refl
  where
    go : (b : Bool) → ltb y.time x.time ≡ b → is_lt (compare y.time x.time) && true ≡ ltb y.time x.time
    go true e = simp (less, e)
    go false e = simp (less, e)
rises_from-snoc y (z ∷ zs) x =
    ap (λ b. is_lt (compare y.time z.time) && b) (rises_from-snoc z zs x)
    ∙ sym (and_assoc (is_lt (compare y.time z.time)) (rises_from cmp_row z zs) (ltb (last_from z.time zs) x.time))

rises-snoc : (l : List Row) (x : Row) → rises cmp_row (l ++ (x ∷ [])) ≡ rises cmp_row l && follows (last_of l) x.time
unfolding rises rises_from
rises-snoc [] x = refl
rises-snoc (y ∷ ys) x = rises_from-snoc y ys x

abbrev counted : Row → Bool
counted r = ltb 0 r.count

next-test : (b : Bool) (l : List Row) (x : Row)
    → b && (rises cmp_row (l ++ (x ∷ [])) && all counted (l ++ (x ∷ []))) ≡ (b && (rises cmp_row l && all counted l)) && (counted x && follows (last_of l) x.time)
next-test b l x =
    ap (λ c. b && (c && all counted (l ++ (x ∷ [])))) (rises-snoc l x) ∙ ap (λ c. b && ((rises cmp_row l && follows (last_of l) x.time) && c)) (all_snoc counted l x)
    ∙ and-four b (rises cmp_row l) (follows (last_of l) x.time) (all counted l) (counted x)

-- ---- what is found of one row more
keep_snoc : {A : Type 0} (p : A → Bool) (l : List A) (x : A) → length (keep p (l ++ (x ∷ []))) ≡ pick (p x) (length (keep p l) + 1) (length (keep p l))
unfolding keep
keep_snoc p [] x = go (p x)
  where
    go : (b : Bool) → length (cond b (x ∷ []) []) ≡ pick b 1 0
    go true = refl
    go false = refl
keep_snoc p (y ∷ ys) x = go (p y) (p x) (keep_snoc p ys x)
  where
    go : (b d : Bool) → length (keep p (ys ++ (x ∷ []))) ≡ pick d (length (keep p ys) + 1) (length (keep p ys))
        → length (cond b (y ∷ keep p (ys ++ (x ∷ []))) (keep p (ys ++ (x ∷ [])))) ≡ pick d (length (cond b (y ∷ keep p ys) (keep p ys)) + 1) (length (cond b (y ∷ keep p ys) (keep p ys)))
    go true true ih = omega arith
    go true false ih = omega arith
    go false d ih = ih

last_from-snoc : (u : ℕ) (l : List Row) (x : Row) → last_from u (l ++ (x ∷ [])) ≡ x.time
last_from-snoc u [] x = refl
last_from-snoc u (y ∷ ys) x = last_from-snoc y.time ys x

last_snoc : (l : List Row) (x : Row) → last_of (l ++ (x ∷ [])) ≡ Some x.time
last_snoc [] x = refl
last_snoc (y ∷ ys) x = ap Some (last_from-snoc y.time ys x)

-- the last row stands above each
below_last : (y : Row) (ys : List Row) (x : Row) → rises_from cmp_row y (ys ++ (x ∷ [])) ≡ true → y.time < x.time
unfolding rises_from cmp_row
below_last y [] x h = compare-lt y.time x.time (is_lt-lt (compare y.time x.time) (and_left (is_lt (compare y.time x.time)) true h))
below_last y (z ∷ zs) x h =
    let l : y.time < z.time = compare-lt y.time z.time (is_lt-lt (compare y.time z.time) (and_left (is_lt (compare y.time z.time)) (rises_from cmp_row z (zs ++ (x ∷ []))) h)) in
    omega (arith, below_last z zs x (and_right (is_lt (compare y.time z.time)) (rises_from cmp_row z (zs ++ (x ∷ []))) h))

at_last : (l : List Row) (x : Row) → rises cmp_row (l ++ (x ∷ [])) ≡ true → readers_at x.time (l ++ (x ∷ [])) ≡ x.count
unfolding readers_at rises
at_last [] x h = simp (eq-eqb x.time x.time refl)
at_last (y ∷ ys) x h =
    let l : y.time < x.time = below_last y ys x h in
    simp (ne_eqb x.time y.time (λ e. omega arith)) (at_last ys x (rises-of cmp_row row-order y (ys ++ (x ∷ [])) h))

not_last : (t : ℕ) (l : List Row) (x : Row) → eqb t x.time ≡ false → readers_at t (l ++ (x ∷ [])) ≡ readers_at t l
unfolding readers_at
not_last t [] x e = simp e
not_last t (y ∷ ys) x e = ap (cond (eqb t y.time) y.count) (not_last t ys x e)

readers-snoc : (t : ℕ) (l : List Row) (x : Row) → rises cmp_row (l ++ (x ∷ [])) ≡ true → readers_at t (l ++ (x ∷ [])) ≡ pick (eqb x.time t) x.count (readers_at t l)
readers-snoc t l x h = go (eqb x.time t) refl
  where
    go : (b : Bool) → eqb x.time t ≡ b → readers_at t (l ++ (x ∷ [])) ≡ pick b x.count (readers_at t l)
    go true e = ap (λ (u : ℕ). readers_at u (l ++ (x ∷ []))) (sym (eqb-true x.time t e)) ∙ at_last l x h
    go false e = not_last t l x (ne_eqb t x.time (λ q. eqb-false x.time t e (sym q)))

-- no more stand below than up to it
pub below-upto : (t : ℕ) (l : List Row) → below t l ≤ upto t l
unfolding below upto keep
below-upto t [] = omega arith
below-upto t (y ∷ ys) = go (ltb y.time t) (leb y.time t) (λ e. le-leb y.time t (let h : y.time < t = ltb-true y.time t e in omega arith)) (below-upto t ys)
  where
    go : (b c : Bool) → (b ≡ true → c ≡ true) → length (keep (λ r. ltb r.time t) ys) ≤ length (keep (λ r. leb r.time t) ys)
        → length (cond b (y ∷ keep (λ r. ltb r.time t) ys) (keep (λ r. ltb r.time t) ys)) ≤ length (cond c (y ∷ keep (λ r. leb r.time t) ys) (keep (λ r. leb r.time t) ys))
    go true true i h = omega arith
    go true false i h = let n : false ≡ true = i refl in cc
    go false true i h = omega arith
    go false false i h = h

below-snoc : (t : ℕ) (l : List Row) (x : Row) → below t (l ++ (x ∷ [])) ≡ pick (ltb x.time t) (below t l + 1) (below t l)
unfolding below
below-snoc t l x = keep_snoc (λ r. ltb r.time t) l x

upto-snoc : (t : ℕ) (l : List Row) (x : Row) → upto t (l ++ (x ∷ [])) ≡ pick (leb x.time t) (upto t l + 1) (upto t l)
unfolding upto
upto-snoc t l x = keep_snoc (λ r. leb r.time t) l x

both-more : (m n : ℕ) → ltb (m + 1) (n + 1) ≡ ltb m n
both-more m n = go (ltb m n) refl
  where
    go : (b : Bool) → ltb m n ≡ b → ltb (m + 1) (n + 1) ≡ b
    go true e = let h : m < n = ltb-true m n e in lt-ltb (m + 1) (n + 1) (omega arith)
    go false e = let h : n ≤ m = ltb-false m n e in le-ltb (m + 1) (n + 1) (omega arith)

count-snoc : (t : ℕ) (l : List Row) (x : Row) → rises cmp_row (l ++ (x ∷ [])) ≡ true → count_at t (l ++ (x ∷ [])) ≡ pick (eqb x.time t) (Some x.count) (count_at t l)
unfolding count_at
count-snoc t l x h = go (eqb x.time t) refl
  where
    go : (e : Bool) → eqb x.time t ≡ e
        → pick (ltb (below t (l ++ (x ∷ []))) (upto t (l ++ (x ∷ [])))) (Some (readers_at t (l ++ (x ∷ [])))) None ≡ pick e (Some x.count) (pick (ltb (below t l) (upto t l)) (Some (readers_at t l)) None)
    go true p =
        let q : x.time ≡ t = eqb-true x.time t p in
        let b : below t (l ++ (x ∷ [])) ≡ below t l = below-snoc t l x ∙ rw (le-ltb x.time t (omega arith)) in
        let u : upto t (l ++ (x ∷ [])) ≡ upto t l + 1 = upto-snoc t l x ∙ rw (le-leb x.time t (omega arith)) in
        rw (lt-ltb (below t (l ++ (x ∷ []))) (upto t (l ++ (x ∷ []))) (omega (arith, below-upto t l))) (ap Some (readers-snoc t l x h ∙ rw p))
    go false p = at (ltb x.time t) refl
      where
        ne : x.time ≡ t → ⊥
        ne = eqb-false x.time t p

        at : (f : Bool) → ltb x.time t ≡ f
            → pick (ltb (below t (l ++ (x ∷ []))) (upto t (l ++ (x ∷ [])))) (Some (readers_at t (l ++ (x ∷ [])))) None ≡ pick (ltb (below t l) (upto t l)) (Some (readers_at t l)) None
        at true q =
            let k : x.time < t = ltb-true x.time t q in
            rw (below-snoc t l x, q, upto-snoc t l x, le-leb x.time t (omega arith), both-more (below t l) (upto t l), readers-snoc t l x h, p)
        at false q =
            let k : t ≤ x.time = ltb-false x.time t q in
            rw (below-snoc t l x, q, upto-snoc t l x, lt-leb x.time t (omega (arith, ne)), readers-snoc t l x h, p)

found-snoc : (t : ℕ) (l : List Row) (r : Lent.Row) → rises cmp_row (l ++ (as_row r ∷ [])) ≡ true → passed_of (found t l) r ≡ found t (l ++ (as_row r ∷ []))
unfolding below
found-snoc t l r h =
    λ i. record {
      time = t;
      last = sym (last_snoc l (as_row r)) i;
      below = sym (keep_snoc (λ x. ltb x.time t) l (as_row r)) i;
      count = sym (count-snoc t l (as_row r) h) i;
    }

-- what a pass that came so far knows of one row more
abbrev pub seen : Result Scan Unsound → Lent.Row → Result Scan Unsound
seen (Ok s) r = see_of s r
seen (Err u) r = Err u

-- a row more
pub scan_step : (b : Bool) (t : ℕ) (l : List Row) (r : Lent.Row) → seen (scanned b t l) r ≡ scanned b t (l ++ (as_row r ∷ []))
unfolding scanned see_of
scan_step b t l r = go (b && (rises cmp_row l && all counted l)) (counted (as_row r) && follows (last_of l) r.time) refl refl
  where
    go : (d e : Bool) → b && (rises cmp_row l && all counted l) ≡ d → counted (as_row r) && follows (last_of l) r.time ≡ e
        → seen (pick d (Ok (found t l)) (Err unsound_table)) r ≡ pick (b && (rises cmp_row (l ++ (as_row r ∷ [])) && all counted (l ++ (as_row r ∷ [])))) (Ok (found t (l ++ (as_row r ∷ [])))) (Err unsound_table)
    go false e p q = rw (next-test b l (as_row r), p)
    go true false p q = rw (q, next-test b l (as_row r), p, q)
    go true true p q =
        let all_hold : b && (rises cmp_row (l ++ (as_row r ∷ [])) && all counted (l ++ (as_row r ∷ []))) ≡ true = next-test b l (as_row r) ∙ rw (p, q) in
        rw (q, all_hold) (ap Ok (found-snoc t l r (rising all_hold)))
      where
        rising : b && (rises cmp_row (l ++ (as_row r ∷ [])) && all counted (l ++ (as_row r ∷ []))) ≡ true → rises cmp_row (l ++ (as_row r ∷ [])) ≡ true
        rising h = and_left (rises cmp_row (l ++ (as_row r ∷ []))) (all counted (l ++ (as_row r ∷ []))) (and_right b (rises cmp_row (l ++ (as_row r ∷ [])) && all counted (l ++ (as_row r ∷ []))) h)

-- ---- the loop that passes the rows f 0, f 1, ..
pub length-up_to : {A : Type 0} (n : ℕ) (f : ℕ → A) → length (up_to n f) ≡ n
unfolding up_to
length-up_to zero f = refl
length-up_to (suc n) f = length-append (up_to n f) (f n ∷ []) ∙ omega (arith, length-up_to n f)

pub up_to-next : {A : Type 0} (n : ℕ) (f : ℕ → A) → up_to (n + 1) f ≡ up_to n f ++ (f n ∷ [])
unfolding up_to
up_to-next n f = rw add-one

-- what is known after n rows, and what is known after the next, in which order f has them
pub next-seen : (t : ℕ) (f : ℕ → Row) (n : ℕ) (s : Scan) (r : Lent.Row) → Ok s ≡ scanned true t (up_to n f) → as_row r ≡ f n → see_of s r ≡ scanned true t (up_to (n + 1) f)
next-seen t f n s r e q =
    ap (λ (x : Result Scan Unsound). seen x r) e ∙ scan_step true t (up_to n f) r ∙ ap (λ (x : Row). scanned true t (up_to n f ++ (x ∷ []))) q ∙ ap (scanned true t) (sym (up_to-next n f))

-- rows that are not sound are not so with more behind them
stays-unsound : (t : ℕ) (f : ℕ → Row) (n m : ℕ) (u : Unsound) → Err u ≡ scanned true t (up_to n f) → Err u ≡ scanned true t (up_to (n + m) f)
stays-unsound t f n zero u e = rw add-zero e
stays-unsound t f n (suc m) u e =
    let r : Lent.Row = record { time = (f (n + m)).time; count = (f (n + m)).count } in
    let k : n + m + 1 ≡ n + suc m = omega arith in
    ap (λ (x : Result Scan Unsound). seen x r) (stays-unsound t f n m u e) ∙ scan_step true t (up_to (n + m) f) r ∙ ap (scanned true t) (sym (up_to-next (n + m) f))
    ∙ ap (λ (i : ℕ). scanned true t (up_to i f)) k

pub still-unsound : (t : ℕ) (f : ℕ → Row) (n m : ℕ) (u : Unsound) → n ≤ m → Err u ≡ scanned true t (up_to n f) → Err u ≡ scanned true t (up_to m f)
still-unsound t f n m u h e = let k : n + (m - n) ≡ m = omega arith in stays-unsound t f n (m - n) u e ∙ ap (λ (i : ℕ). scanned true t (up_to i f)) k

-- no more rows stand below than there are
keep-length : {A : Type 0} (p : A → Bool) (l : List A) → length (keep p l) ≤ length l
unfolding keep
keep-length p [] = omega arith
keep-length p (y ∷ ys) = go (p y) (keep-length p ys)
  where
    go : (b : Bool) → length (keep p ys) ≤ length ys → length (cond b (y ∷ keep p ys) (keep p ys)) ≤ length (y ∷ ys)
    go true h = omega arith
    go false h = omega arith

pub below-within : (t : ℕ) (f : ℕ → Row) (n : ℕ) (s : Scan) → Ok s ≡ scanned true t (up_to n f) → s.below ≤ n
unfolding scanned below
below-within t f n s e = go (true && (rises cmp_row (up_to n f) && all counted (up_to n f))) e
  where
    go : (b : Bool) → Ok s ≡ pick b (Ok (found t (up_to n f))) (Err unsound_table) → s.below ≤ n
    go true q = let h : s ≡ found t (up_to n f) = cc in omega (arith, ap (λ (x : Scan). x.below) h, keep-length (λ r. ltb r.time t) (up_to n f), length-up_to n f)
    go false q = cc

pub upto-within : (t : ℕ) (l : List Row) → upto t l ≤ length l
unfolding upto
upto-within t l = keep-length (λ r. leb r.time t) l

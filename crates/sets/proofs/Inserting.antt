-- A hash put into a rising set: at the place that the search finds, and nowhere where it stands already.
-- Assumes nothing.
use Prim.Native.Nat.{ℕ, suc, ◌+◌, ◌*◌, ◌-◌, ◌≤◌, ◌<◌, compare, Ordering}
use native.Mathlib.Omega.{arith}
use mathlib.Core.Path.{◌≡◌, refl, sym, ap, ap₂, ◌∙◌}
use mathlib.Core.Bool.{Bool, true, false, cond}
use mathlib.Core.List.{List, [], ◌∷◌, ◌++◌}
use lib.ListN.{length, take, drop, length-append, length-drop, take-append-drop}
use lib.Dec.{ltb, eqb}
use borrow.Author.Tests.{lt-ltb, le-ltb, eq-eqb, ne_eqb}
use Rattle.paper.specs.Lists.{keep, rises_from, rises, insert, place, among}
use Rattle.paper.specs.Keys.{Bytes, octets}
use Rattle.paper.specs.Image.{big_endian}
use Rattle.paper.proofs.Order.{compare-lt, compare-eq, compare-turn, turned, compare-order}
use Rattle.paper.proofs.Rising.{rises-of}
use Rattle.paper.proofs.ImageLaws.{length-big_endian}
use Rattle.raw.specs.Bytes.{part, over}
use Rattle.raw.proofs.Parts.{length_part}
use Rattle.raw.proofs.Over.{over-after, over-before, over-part}
use Rattle.raw.proofs.Octets.{octets-drop}
use Rattle.layout.specs.Layout.{hashes}
use Rattle.sets.specs.Sets.{hashes_of, rank, found, found_in}
use Rattle.std.specs.Prelude.{Ok, Err, is_ok}
use Rattle.sets.proofs.Hashes.{length-hashes, take-hashes, drop-hashes, form-append, form-cons, form-hashes}
use Rattle.sets.proofs.Risings.{rises-head, rises-tail, none_below}

-- ---- what a search has found

pub found_gap : (h i : ℕ) (hs : List ℕ) → Err i ≡ found_in h hs → (among h hs ≡ false) × (i ≡ rank h hs)
unfolding found_in
found_gap h i hs = go (among h hs) refl
  where
    go : (b : Bool) → among h hs ≡ b → Err i ≡ found b (rank h hs) → (among h hs ≡ false) × (i ≡ rank h hs)
    go true e f = cc
    go false e f = (e, cc)

pub found-at : (h i : ℕ) (hs : List ℕ) → Ok i ≡ found_in h hs → among h hs ≡ true
unfolding found_in
found-at h i hs = go (among h hs) refl
  where
    go : (b : Bool) → among h hs ≡ b → Ok i ≡ found b (rank h hs) → among h hs ≡ true
    go true e f = e
    go false e f = cc

pub found-among : (h : ℕ) (hs : List ℕ) → is_ok (found_in h hs) ≡ among h hs
unfolding found_in
found-among h hs = go (among h hs)
  where
    go : (b : Bool) → is_ok (found b (rank h hs)) ≡ b
    go true = refl
    go false = refl

-- ---- where h goes

rank_below : (h x : ℕ) (xs : List ℕ) → h ≤ x → rises_from compare x xs ≡ true → rank h (x ∷ xs) ≡ 0
unfolding rank keep
rank_below h x [] l r = simp (le-ltb x h l)
rank_below h x (y ∷ ys) l r = let k = rises-head x y ys r in simp (le-ltb x h l) (rank_below h y ys (omega arith) (rises-tail x y ys r))

above_of : (h x : ℕ) → compare h x ≡ Ordering.gt → x < h
unfolding turned
above_of h x e = compare-lt x h (compare-turn h x ∙ ap turned e)

pub insert-new : (h : ℕ) (hs : List ℕ) → rises compare hs ≡ true → among h hs ≡ false → insert compare h hs ≡ take (rank h hs) hs ++ (h ∷ drop (rank h hs) hs)
unfolding insert rank keep rises among
insert-new h [] r a = refl
insert-new h (x ∷ xs) r a = go (λ b. insert-new h xs (rises-of compare compare-order x xs r) b) (compare h x) refl
  where
    go : (among h xs ≡ false → insert compare h xs ≡ take (rank h xs) xs ++ (h ∷ drop (rank h xs) xs)) → (o : Ordering) → compare h x ≡ o
        → place o h x xs (insert compare h xs) ≡ take (rank h (x ∷ xs)) (x ∷ xs) ++ (h ∷ drop (rank h (x ∷ xs)) (x ∷ xs))
    go ih Ordering.lt e =
        let l = compare-lt h x e in
        sym (ap (λ (k : ℕ). take k (x ∷ xs) ++ (h ∷ drop k (x ∷ xs))) (rank_below h x xs (omega arith) r))
    go ih Ordering.eq e = absurd (let f = eq-eqb h x (compare-eq h x e) in let b : ◌≡◌ {A = Bool} true false = ap (λ (t : Bool). cond t true (among h xs)) (sym f) ∙ a in let z : ◌≡◌ {A = ℕ} 0 1 = cc in omega arith)
    go ih Ordering.gt e =
        let l = above_of h x e in
        let f : eqb h x ≡ false = ne_eqb h x (λ q. omega arith) in
        let b : among h xs ≡ false = ap (λ (t : Bool). cond t true (among h xs)) (sym f) ∙ a in
        let k : rank h (x ∷ xs) ≡ suc (rank h xs) = low l in
        ap (λ (t : List ℕ). x ∷ t) (ih b) ∙ sym (ap (λ (i : ℕ). take i (x ∷ xs) ++ (h ∷ drop i (x ∷ xs))) k)
      where
        low : x < h → rank h (x ∷ xs) ≡ suc (rank h xs)
        low l = simp (lt-ltb x h l)

pub insert-there : (h : ℕ) (hs : List ℕ) → rises compare hs ≡ true → among h hs ≡ true → insert compare h hs ≡ hs
unfolding insert rises among
insert-there h [] r a = absurd (let z : ◌≡◌ {A = ℕ} 0 1 = cc in omega arith)
insert-there h (x ∷ xs) r a = go (λ b. insert-there h xs (rises-of compare compare-order x xs r) b) (compare h x) refl
  where
    go : (among h xs ≡ true → insert compare h xs ≡ xs) → (o : Ordering) → compare h x ≡ o → place o h x xs (insert compare h xs) ≡ x ∷ xs
    go ih Ordering.lt e =
        absurd (let f : among h (x ∷ xs) ≡ false = none_below h x xs (compare-lt h x e) r in let z : ◌≡◌ {A = ℕ} 0 1 = cc in omega arith)
    go ih Ordering.eq e = ap (λ (y : ℕ). y ∷ xs) (compare-eq h x e)
    go ih Ordering.gt e =
        let l = above_of h x e in
        let f : eqb h x ≡ false = ne_eqb h x (λ q. omega arith) in
        let b : among h xs ≡ true = ap (λ (t : Bool). cond t true (among h xs)) (sym f) ∙ a in
        ap (λ (t : List ℕ). x ∷ t) (ih b)

pub rank-inside : (h : ℕ) (hs : List ℕ) → rank h hs ≤ length hs
unfolding rank keep
rank-inside h [] = omega arith
rank-inside h (x ∷ xs) = go (rank-inside h xs) (ltb x h)
  where
    go : rank h xs ≤ length xs → (b : Bool) → length (cond b (x ∷ keep (λ y. ltb y h) xs) (keep (λ y. ltb y h) xs)) ≤ suc (length xs)
    go l true = omega arith
    go l false = omega arith

pub gap-inside : (b : Bytes) (n i h : ℕ) → Err i ≡ found_in h (hashes_of n b) → i ≤ n
gap-inside b n i h g = omega (arith, (found_gap h i (hashes_of n b) g).1, rank-inside h (hashes_of n b), length-hashes n b)

pub length-new : (h : ℕ) (hs : List ℕ) → rises compare hs ≡ true → among h hs ≡ false → length (insert compare h hs) ≡ length hs + 1
length-new h hs r a =
    let i : ℕ = rank h hs in
    let e : length (take i hs) + length (drop i hs) ≡ length hs = sym (length-append (take i hs) (drop i hs)) ∙ ap length (take-append-drop i hs) in
    ap length (insert-new h hs r a) ∙ length-append (take i hs) (h ∷ drop i hs) ∙ omega arith

-- a hash that has come into a gap among n
pub added : (b : Bytes) (n i h : ℕ) → rises compare (hashes_of n b) ≡ true → Err i ≡ found_in h (hashes_of n b) → length (insert compare h (hashes_of n b)) ≡ n + 1
added b n i h r g =
    length-new h (hashes_of n b) r (found_gap h i (hashes_of n b) g).0 ∙ ap (λ (m : ℕ). m + 1) (length-hashes n b)

-- ---- the bytes of the set after it

-- those before place i, the hash, and those from place i on, in n hashes
pub form-new : (b : Bytes) (n i h : ℕ) → octets b ≡ true → 4 * n ≤ length b → i ≤ n
    → hashes.form (take i (hashes_of n b) ++ (h ∷ drop i (hashes_of n b))) ≡ take (4 * i) b ++ (big_endian 4 h ++ part b (4 * i) (4 * (n - i)))
form-new b n i h o l k =
    let p : hashes.form (take i (hashes_of n b)) ≡ take (4 * i) b = ap (λ (t : List ℕ). hashes.form t) (take-hashes n i b k) ∙ form-hashes i b o (omega arith) in
    let q : hashes.form (drop i (hashes_of n b)) ≡ part b (4 * i) (4 * (n - i)) =
    ap (λ (t : List ℕ). hashes.form t) (drop-hashes n i b k)
    ∙ form-hashes (n - i) (drop (4 * i) b) (octets-drop (4 * i) b o) (rw length-drop (omega arith)) in
    form-append (take i (hashes_of n b)) (h ∷ drop i (hashes_of n b))
    ∙ ap₂ (λ (x y : Bytes). x ++ y) p (form-cons h (drop i (hashes_of n b)) ∙ ap (λ (y : Bytes). big_endian 4 h ++ y) q)

-- what is behind moved up, and the hash written in the gap
pub written_new : (b : Bytes) (n i h : ℕ) → octets b ≡ true → 4 * n + 4 ≤ length b → rises compare (hashes_of n b) ≡ true → Err i ≡ found_in h (hashes_of n b)
    → over (over b (4 * i + 4) (part b (4 * i) (4 * (n - i)))) (4 * i) (big_endian 4 h) ≡ over b 0 (hashes.form (insert compare h (hashes_of n b)))
written_new b n i h o l r g =
    let hs : List ℕ = hashes_of n b in
    let f = found_gap h i hs g in
    let k : i ≤ n = gap-inside b n i h g in
    let p : Bytes = take (4 * i) b in
    let q : Bytes = part b (4 * i) (4 * (n - i)) in
    let pl : length p ≡ 4 * i = length_part b 0 (4 * i) (omega arith) in
    let bl : length (big_endian 4 h) ≡ 4 = length-big_endian 4 h in
    let c : 4 * i + length (big_endian 4 h) ≡ 4 * i + 4 = ap (λ (j : ℕ). 4 * i + j) bl in
    let d : 4 * i ≡ 0 + length p = omega arith in
    let e : insert compare h hs ≡ take i hs ++ (h ∷ drop i hs) =
    insert-new h hs r f.0 ∙ ap (λ (j : ℕ). take j hs ++ (h ∷ drop j hs)) (sym f.1) in
    over-before b (4 * i + 4) q (omega arith) (4 * i) (big_endian 4 h) c
    ∙ ap (λ (t : Bytes). over t (4 * i) (big_endian 4 h ++ q)) (sym (over-part b 0 (4 * i) (omega arith)))
    ∙ over-after b 0 p (omega arith) (4 * i) (big_endian 4 h ++ q) d
    ∙ ap (over b 0) (sym (ap (λ (t : List ℕ). hashes.form t) e ∙ form-new b n i h o (omega arith) k))

-- nothing is written where it stands already
pub written-there : (b : Bytes) (n i h : ℕ) → octets b ≡ true → 4 * n ≤ length b → rises compare (hashes_of n b) ≡ true → Ok i ≡ found_in h (hashes_of n b)
    → (n ≡ length (insert compare h (hashes_of n b))) × (b ≡ over b 0 (hashes.form (insert compare h (hashes_of n b))))
written-there b n i h o l r g =
    let hs : List ℕ = hashes_of n b in
    let e : insert compare h hs ≡ hs = insert-there h hs r (found-at h i hs g) in (
      sym (ap length e ∙ length-hashes n b),
      sym (ap (λ (t : List ℕ). over b 0 (hashes.form t)) e ∙ ap (over b 0) (form-hashes n b o l) ∙ over-part b 0 (4 * n) (omega arith)),
    )

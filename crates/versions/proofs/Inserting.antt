-- Insertion into a list of two pieces: what goes behind the first piece goes into the second, and what is before all of the second goes between them;
-- and how an own write's version stands to older versions and to those of the own writes after it.
-- Assumes nothing.
use native.Mathlib.Omega.{arith}
use mathlib.Core.Path.{◌≡◌, refl, sym, ap, ◌∙◌}
use mathlib.Core.Bool.{Bool, true, false, not, cond, false≢true}
use mathlib.Core.List.{List, [], ◌∷◌, ◌++◌}
use Prim.Native.Nat.{ℕ, ◌<◌, compare, Ordering}
use lib.Dec.{ltb}
use borrow.Author.Tests.{ltb-true}
use Rattle.paper.specs.Lists.{then_by, is_lt, all, keep, place, rises_from, insert, insert_all}
use Rattle.paper.specs.Keys.{Version, Pair, cmp_key, cmp_version, cmp_pair}
use Rattle.paper.specs.Runs.{Run}
use Rattle.paper.specs.Calls.{stamped}
use Rattle.paper.proofs.Bools.{and_left, and_right, and_intro, is_lt-lt}
use Rattle.paper.proofs.Alls.{all_head, all_tail, all-mono, all-insert_all}
use Rattle.paper.proofs.Order.{turned, IsOrder, compare-eq}
use Rattle.paper.proofs.KeyOrder.{both-same, version-order, pair-order}
use Rattle.paper.proofs.Rising.{rises_from-before}
use Rattle.run.specs.Seeking.{is_from}
use Rattle.versions.specs.Absorbing.{older, version_of}

-- ---- two pieces
module _ {A : Type 0} (cmp : A → A → Ordering) (ord : IsOrder cmp) where
  -- x stands behind all of the first piece
  insert-past : (x : A) (as' bs : List A) → all (λ a. is_lt (cmp a x)) as' ≡ true → insert cmp x (as' ++ bs) ≡ as' ++ insert cmp x bs
  unfolding insert turned
  insert-past x [] bs h = refl
  insert-past x (a ∷ as') bs h =
      let e : cmp x a ≡ Ordering.gt = ord.turn a x ∙ ap turned (is_lt-lt (cmp a x) (all_head (λ b. is_lt (cmp b x)) a as' h)) in
      ap (λ o. place o x a (as' ++ bs) (insert cmp x (as' ++ bs))) e
      ∙ ap {B = List A} (λ l. a ∷ l) (insert-past x as' bs (all_tail (λ b. is_lt (cmp b x)) a as' h))

  -- x stands before all
  insert-front : (x : A) (bs : List A) → all (λ b. is_lt (cmp x b)) bs ≡ true → insert cmp x bs ≡ x ∷ bs
  unfolding insert
  insert-front x [] h = refl
  insert-front x (b ∷ bs) h = ap (λ o. place o x b bs (insert cmp x bs)) (is_lt-lt (cmp x b) (all_head (λ y. is_lt (cmp x y)) b bs h))

  -- all of xs stand behind all of the first piece
  pub insert_all-past : (xs as' bs : List A) → all (λ x. all (λ a. is_lt (cmp a x)) as') xs ≡ true → insert_all cmp xs (as' ++ bs) ≡ as' ++ insert_all cmp xs bs
  unfolding insert_all
  insert_all-past [] as' bs h = refl
  insert_all-past (x ∷ xs) as' bs h =
      ap (insert cmp x) (insert_all-past xs as' bs (all_tail (λ y. all (λ a. is_lt (cmp a y)) as') x xs h))
      ∙ insert-past x as' (insert_all cmp xs bs) (all_head (λ y. all (λ a. is_lt (cmp a y)) as') x xs h)

  -- what x stands behind, all that x stands before stand behind
  pub behind-all : (x : A) (xs as' : List A) → all (λ a. is_lt (cmp a x)) as' ≡ true → all (λ y. is_lt (cmp x y)) xs ≡ true → all (λ y. all (λ a. is_lt (cmp a y)) as') xs ≡ true
  behind-all x xs as' h k =
      all-mono (λ y. is_lt (cmp x y)) (λ y. all (λ a. is_lt (cmp a y)) as')
      (λ y l. all-mono (λ a. is_lt (cmp a x)) (λ a. is_lt (cmp a y)) (λ a m. ap is_lt (ord.trans a x y (is_lt-lt (cmp a x) m) (is_lt-lt (cmp x y) l))) as' h) xs k

  -- x, which stands before the others and before all of the second piece, goes in front of both
  pub insert_all-front : (x : A) (xs bs : List A) → all (λ y. is_lt (cmp x y)) xs ≡ true → all (λ b. is_lt (cmp x b)) bs ≡ true → insert_all cmp (x ∷ xs) bs ≡ x ∷ insert_all cmp xs bs
  unfolding insert_all
  insert_all-front x xs bs h k = insert-front x (insert_all cmp xs bs) (all-insert_all (λ y. is_lt (cmp x y)) cmp xs bs h k)

-- what is kept passes the test
pub all-kept : {A : Type 0} (q : A → Bool) (xs : List A) → all q (keep q xs) ≡ true
unfolding all keep
all-kept q [] = refl
all-kept q (x ∷ xs) = go (all-kept q xs) (q x) refl
  where
    go : all q (keep q xs) ≡ true → (b : Bool) → q x ≡ b → all q (cond b (x ∷ keep q xs) (keep q xs)) ≡ true
    go ih true e = and_intro e ih
    go ih false e = ih

-- ---- the version of an own write
-- an older version that is not before it is behind it
behind-newer : (v w : Version) → w.time < v.time → is_from v w ≡ true → is_lt (cmp_version v w) ≡ true
unfolding turned cmp_version
behind-newer v w l h = ap is_lt (version-order.turn w v) ∙ go (cmp_version w v) refl
  where
    go : (o : Ordering) → cmp_version w v ≡ o → is_lt (turned o) ≡ true
    go Ordering.lt e = absurd (false≢true (ap (λ o. not (is_lt o)) (sym e) ∙ h))
    go Ordering.eq e = absurd (omega (arith, compare-eq v.time w.time (both-same (cmp_key w.key v.key) (compare v.time w.time) e).1))
    go Ordering.gt e = refl

pub all-behind : (n : ℕ) (v : Version) (r : Run) → v.time ≡ n → older n r ≡ true → all (is_from v) r ≡ true → all (λ w. is_lt (cmp_version v w)) r ≡ true
unfolding all
all-behind n v [] e a b = refl
all-behind n v (w ∷ r) e a b =
    and_intro
    (behind-newer v w (omega (arith, ltb-true w.time n (all_head (λ u. ltb u.time n) w r a))) (all_head (is_from v) w r b))
    (all-behind n v r e (all_tail (λ u. ltb u.time n) w r a) (all_tail (is_from v) w r b))

-- the own writes after it have later keys
pub stamped-behind : (n : ℕ) (p : Pair) (own : List Pair) → rises_from cmp_pair p own ≡ true → all (λ w. is_lt (cmp_version (version_of n p) w)) (stamped n own) ≡ true
unfolding all stamped rises_from cmp_pair cmp_version
stamped-behind n p [] r = refl
stamped-behind n p (q ∷ own) r =
    let l : cmp_key p.key q.key ≡ Ordering.lt = is_lt-lt (cmp_pair p q) (and_left (is_lt (cmp_pair p q)) (rises_from cmp_pair q own) r) in
    and_intro (ap (λ o. is_lt (then_by o (compare n n))) l)
    (stamped-behind n p own (rises_from-before cmp_pair pair-order p q own l (and_right (is_lt (cmp_pair p q)) (rises_from cmp_pair q own) r)))

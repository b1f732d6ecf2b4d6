-- Own writes on top: what is present with them is what is present without, with each put in.
-- Assumes nothing.
use native.Mathlib.Omega.{arith}
use mathlib.Core.Path.{◌≡◌, refl, sym, ap, ap₂, ◌∙◌}
use mathlib.Core.Bool.{Bool, true, false, cond, not, true≢false}
use mathlib.Core.List.{List, [], ◌∷◌}
use mathlib.Core.Option.{Option, none, some}
use Prim.Native.Nat.{ℕ, ◌<◌, Ordering}
use lib.ListN.{length}
use Rattle.paper.specs.Lists.{is_lt, is_same, all, keep, first, place, rises_from, rises, insert}
use Rattle.paper.specs.Keys.{Bytes, Pair, cmp_key, same_key, cmp_pair}
use Rattle.paper.specs.Bounds.{Bound, within}
use Rattle.paper.specs.Runs.{Run}
use Rattle.paper.specs.Seen.{unless_empty, own_write, seen, keys_of, with_value, valued, present, scanned}
use Rattle.paper.proofs.Bools.{and_left, and_right, and_intro, is_lt-lt, is_same-eq}
use Rattle.paper.proofs.Alls.{all-mono}
use Rattle.paper.proofs.Order.{turned}
use Rattle.paper.proofs.KeyOrder.{key-eq, key-order, pair-order}
use Rattle.paper.proofs.Rising.{rises-of, rises_from-before, keep-rises}
use Rattle.paper.proofs.ScanLaws.{keys_of-rises}
use Rattle.lsm.specs.Overlay.{show, put_at, put, put_all, own_first, past_key}
use Rattle.lsm.specs.Edges.{pair_from, pair_up_to}
use Rattle.merge.proofs.KeepLaws.{all-kept, keep-both, keep-insert}
use Rattle.lsm.proofs.Basics.{not-false, some-value, no_value}
use Rattle.lsm.proofs.PresentLaws.{After, after-not-same, valued_same, rising-after}

abbrev pub AfterAll : Bytes → List Pair → Type 0
AfterAll k ps = all (λ p. After k p.key) ps ≡ true

-- ---- one own write
valued-after : (k : Bytes) (f : Bytes → Option Bytes) (ks : List Bytes) → all (After k) ks ≡ true → AfterAll k (valued f ks)
unfolding valued all
valued-after k f [] a = refl
valued-after k f (x ∷ xs) a = go (f x) (valued-after k f xs (and_right (After k x) (all (After k) xs) a))
  where
    go : (o : Option Bytes) → AfterAll k (valued f xs) → AfterAll k (with_value x o (valued f xs))
    go none ih = ih
    go (some b) ih = and_intro (and_left (After k x) (all (After k) xs) a) ih

-- a write goes in front of what is after its key
pub put_front : (o : Pair) (ps : List Pair) → AfterAll o.key ps → put o ps ≡ show o ps
unfolding put all
put_front o [] a = refl
put_front o (p ∷ ps) a =
    ap (λ q. put_at q o p ps (put o ps)) (is_lt-lt (cmp_key o.key p.key) (and_left (After o.key p.key) (all (λ p. After o.key p.key) ps) a))

in-front : (k x : Bytes) (xs : List Bytes) → cmp_key k x ≡ Ordering.lt → rises_from cmp_key x xs ≡ true → all (After k) (x ∷ xs) ≡ true
unfolding all
in-front k x xs e r = and_intro (ap is_lt e) (rising-after k xs (rises_from-before cmp_key key-order k x xs e r))

module _ (o : Pair) (f f' : Bytes → Option Bytes) (other : (x : Bytes) → same_key x o.key ≡ false → f' x ≡ f x) (here : f' o.key ≡ unless_empty o.value) where
  rest-same : (ks : List Bytes) → all (After o.key) ks ≡ true → valued f' ks ≡ valued f ks
  rest-same ks a = valued_same (After o.key) f' f (λ x l. other x (after-not-same o.key x l)) ks a

  valued-insert : (ks : List Bytes) → rises cmp_key ks ≡ true → valued f' (insert cmp_key o.key ks) ≡ put o (valued f ks)
  unfolding insert valued rises put turned
  valued-insert [] r = ap (λ (v : Option Bytes). with_value o.key v []) here
  valued-insert (x ∷ xs) r = go (valued-insert xs (rises-of cmp_key key-order x xs r)) (cmp_key o.key x) refl
    where
      front : cmp_key o.key x ≡ Ordering.lt → all (After o.key) (x ∷ xs) ≡ true
      front e = in-front o.key x xs e r

      go : valued f' (insert cmp_key o.key xs) ≡ put o (valued f xs) → (q : Ordering) → cmp_key o.key x ≡ q
          → valued f' (place q o.key x xs (insert cmp_key o.key xs)) ≡ put o (with_value x (f x) (valued f xs))
      go ih Ordering.lt e =
          ap₂ (with_value o.key) here (rest-same (x ∷ xs) (front e)) ∙ sym (put_front o (valued f (x ∷ xs)) (valued-after o.key f (x ∷ xs) (front e)))
      go ih Ordering.eq e =
          let a : all (After o.key) xs ≡ true = ap (λ (z : Bytes). all (After z) xs) (key-eq o.key x e) ∙ rising-after x xs r in
          ap₂ (with_value o.key) here (rest-same xs a) ∙ sym (hidden (f x) a)
        where
          hidden : (v : Option Bytes) → all (After o.key) xs ≡ true → put o (with_value x v (valued f xs)) ≡ show o (valued f xs)
          hidden none a = put_front o (valued f xs) (valued-after o.key f xs a)
          hidden (some b) a = ap (λ q. put_at q o (record { key = x; value = b }) (valued f xs) (put o (valued f xs))) e
      go ih Ordering.gt e =
          ap₂ (with_value x) (other x (ap is_same (key-order.turn o.key x ∙ ap turned e))) ih ∙ sym (behind (f x))
        where
          behind : (v : Option Bytes) → put o (with_value x v (valued f xs)) ≡ with_value x v (put o (valued f xs))
          behind none = refl
          behind (some b) = ap (λ q. put_at q o (record { key = x; value = b }) (valued f xs) (put o (valued f xs))) e

-- ---- all own writes
module _ (vs : Run) (r : ℕ) where
  pub seen_other : (o : Pair) (os : List Pair) (x : Bytes) → same_key x o.key ≡ false → seen (o ∷ os) vs r x ≡ seen os vs r x
  unfolding seen own_write
  seen_other o os x e = simp e

  seen_here : (o : Pair) (os : List Pair) → seen (o ∷ os) vs r o.key ≡ unless_empty o.value
  unfolding seen own_write
  seen_here o os = simp (key-order.same o.key)

  module _ (lo hi : Bound) where
    within-alike : (a b : Bytes) → cmp_key a b ≡ Ordering.eq → within lo hi a ≡ within lo hi b
    within-alike a b e = ap (within lo hi) (key-eq a b e)

    within-other : (k x : Bytes) → within lo hi k ≡ false → within lo hi x ≡ true → (b : Bool) → same_key x k ≡ b → b ≡ false
    within-other k x f t true e = absurd (true≢false (sym t ∙ ap (within lo hi) (key-eq x k (is_same-eq (cmp_key x k) e)) ∙ f))
    within-other k x f t false e = refl

    pub present-own : (o : Pair) (os : List Pair) → present (o ∷ os) vs r lo hi ≡ cond (within lo hi o.key) (put o (present os vs r lo hi)) (present os vs r lo hi)
    unfolding present keys_of
    present-own o os =
        ap (valued (seen (o ∷ os) vs r)) (keep-insert cmp_key key-order (within lo hi) within-alike o.key (keys_of os vs) (keys_of-rises os vs)) ∙ go (within lo hi o.key) refl
      where
        go : (b : Bool) → within lo hi o.key ≡ b
            → valued (seen (o ∷ os) vs r) (cond b (insert cmp_key o.key (keep (within lo hi) (keys_of os vs))) (keep (within lo hi) (keys_of os vs)))
            ≡ cond b (put o (valued (seen os vs r) (keep (within lo hi) (keys_of os vs)))) (valued (seen os vs r) (keep (within lo hi) (keys_of os vs)))
        go true e =
            valued-insert o (seen os vs r) (seen (o ∷ os) vs r) (seen_other o os) (seen_here o os) (keep (within lo hi) (keys_of os vs))
            (keep-rises cmp_key key-order (within lo hi) (keys_of os vs) (keys_of-rises os vs))
        go false e =
            valued_same (within lo hi) (seen (o ∷ os) vs r) (seen os vs r) (λ x t. seen_other o os x (within-other o.key x e t (same_key x o.key) refl)) (keep (within lo hi) (keys_of os vs))
            (all-kept (within lo hi) (keys_of os vs))

    present-all : (own : List Pair) → present own vs r lo hi ≡ put_all (keep (λ p. within lo hi p.key) own) (present [] vs r lo hi)
    unfolding put_all keep
    present-all [] = refl
    present-all (o ∷ os) = present-own o os ∙ go (within lo hi o.key) (present-all os)
      where
        go : (b : Bool) → present os vs r lo hi ≡ put_all (keep (λ p. within lo hi p.key) os) (present [] vs r lo hi)
            → cond b (put o (present os vs r lo hi)) (present os vs r lo hi)
            ≡ put_all (cond b (o ∷ keep (λ p. within lo hi p.key) os) (keep (λ p. within lo hi p.key) os)) (present [] vs r lo hi)
        go true ih = ap (put o) ih
        go false ih = ih

    -- a scan's answer: the own writes within the bounds, put into what the snapshot shows
    pub scanned-own : (own : List Pair) → scanned own vs r lo hi ≡ first (put_all (keep (pair_up_to hi) (keep (pair_from lo) own)) (present [] vs r lo hi))
    unfolding scanned within
    scanned-own own =
        ap first (present-all own ∙ ap (λ (l : List Pair). put_all l (present [] vs r lo hi)) (keep-both (pair_from lo) (pair_up_to hi) own))

-- ---- pairs in key order
pub pairs-after : (p : Pair) (ps : List Pair) → rises_from cmp_pair p ps ≡ true → AfterAll p.key ps
unfolding all rises_from cmp_pair
pairs-after p [] r = refl
pairs-after p (q ∷ qs) r =
    let l = and_left (is_lt (cmp_key p.key q.key)) (rises_from cmp_pair q qs) r in
    and_intro l (pairs-after p qs (rises_from-before cmp_pair pair-order p q qs (is_lt-lt (cmp_key p.key q.key) l) (and_right (is_lt (cmp_key p.key q.key)) (rises_from cmp_pair q qs) r)))

valued-from : (x : Bytes) (b : Bytes) (f : Bytes → Option Bytes) (ks : List Bytes) → rises_from cmp_key x ks ≡ true → rises_from cmp_pair (record { key = x; value = b }) (valued f ks) ≡ true
unfolding valued rises_from cmp_pair
valued-from x b f [] r = refl
valued-from x b f (k ∷ ks) r =
    let l : is_lt (cmp_key x k) ≡ true = and_left (is_lt (cmp_key x k)) (rises_from cmp_key k ks) r in
    let t : rises_from cmp_key k ks ≡ true = and_right (is_lt (cmp_key x k)) (rises_from cmp_key k ks) r in
    go (f k) l (λ c. valued-from k c f ks t) (valued-from x b f ks (rises_from-before cmp_key key-order x k ks (is_lt-lt (cmp_key x k) l) t))
  where
    go : (o : Option Bytes) → is_lt (cmp_key x k) ≡ true → ((c : Bytes) → rises_from cmp_pair (record { key = k; value = c }) (valued f ks) ≡ true)
        → rises_from cmp_pair (record { key = x; value = b }) (valued f ks) ≡ true → rises_from cmp_pair (record { key = x; value = b }) (with_value k o (valued f ks)) ≡ true
    go none l g h = h
    go (some c) l g h = and_intro l (g c)

pub valued-rises : (f : Bytes → Option Bytes) (ks : List Bytes) → rises cmp_key ks ≡ true → rises cmp_pair (valued f ks) ≡ true
unfolding valued rises
valued-rises f [] r = refl
valued-rises f (k ∷ ks) r = go (f k) (valued-rises f ks (rises-of cmp_key key-order k ks r))
  where
    go : (o : Option Bytes) → rises cmp_pair (valued f ks) ≡ true → rises cmp_pair (with_value k o (valued f ks)) ≡ true
    go none ih = ih
    go (some b) ih = valued-from k b f ks r

-- what is present is in key order
pub present-rises : (own : List Pair) (vs : Run) (r : ℕ) (lo hi : Bound) → rises cmp_pair (present own vs r lo hi) ≡ true
unfolding present
present-rises own vs r lo hi =
    valued-rises (seen own vs r) (keep (within lo hi) (keys_of own vs)) (keep-rises cmp_key key-order (within lo hi) (keys_of own vs) (keys_of-rises own vs))

-- ---- steps of the overlay
show-after : (k : Bytes) (o : Pair) (ps : List Pair) → After k o.key ≡ true → AfterAll k ps → AfterAll k (show o ps)
unfolding all
show-after k o ps a h = go (unless_empty o.value)
  where
    go : (v : Option Bytes) → AfterAll k (with_value o.key v ps)
    go none = h
    go (some b) = and_intro a h

put-after : (k : Bytes) (o : Pair) (ps : List Pair) → After k o.key ≡ true → AfterAll k ps → AfterAll k (put o ps)
unfolding put all
put-after k o [] a h = show-after k o [] a h
put-after k o (p ∷ ps) a h = go (put-after k o ps a t) (cmp_key o.key p.key)
  where
    t : AfterAll k ps
    t = and_right (After k p.key) (all (λ p. After k p.key) ps) h

    go : AfterAll k (put o ps) → (q : Ordering) → AfterAll k (put_at q o p ps (put o ps))
    go ih Ordering.lt = show-after k o (p ∷ ps) a h
    go ih Ordering.eq = show-after k o ps a t
    go ih Ordering.gt = and_intro (and_left (After k p.key) (all (λ p. After k p.key) ps) h) ih

put_all-after : (k : Bytes) (os ps : List Pair) → AfterAll k os → AfterAll k ps → AfterAll k (put_all os ps)
unfolding put_all all
put_all-after k [] ps a h = h
put_all-after k (o ∷ os) ps a h =
    put-after k o (put_all os ps) (and_left (After k o.key) (all (λ p. After k p.key) os) a) (put_all-after k os ps (and_right (After k o.key) (all (λ p. After k p.key) os) a) h)

-- a pair before all writes stays in front
put_all-past : (p : Pair) (os ps : List Pair) → AfterAll p.key os → put_all os (p ∷ ps) ≡ p ∷ put_all os ps
unfolding put_all put all turned
put_all-past p [] ps a = refl
put_all-past p (o ∷ os) ps a =
    let l : cmp_key p.key o.key ≡ Ordering.lt = is_lt-lt (cmp_key p.key o.key) (and_left (After p.key o.key) (all (λ q. After p.key q.key) os) a) in
    ap (put o) (put_all-past p os ps (and_right (After p.key o.key) (all (λ q. After p.key q.key) os) a))
    ∙ ap (λ q. put_at q o p (put_all os ps) (put o (put_all os ps))) (key-order.turn p.key o.key ∙ ap turned l)

hides : (o p : Pair) (ps : List Pair) → cmp_key o.key p.key ≡ Ordering.eq → put o (p ∷ ps) ≡ show o ps
unfolding put
hides o p ps e = ap (λ q. put_at q o p ps (put o ps)) e

here : (o : Pair) (ps : List Pair) → 0 < length o.value → first (show o ps) ≡ some o
here o ps n = go o.value refl n
  where
    go : (b : Bytes) → o.value ≡ b → 0 < length b → first (show o ps) ≡ some o
    go [] e l = absurd (omega arith)
    go (x ∷ xs) e l = simp (some-value o.value (omega (arith, ap (λ (c : Bytes). length c) e)))

gone : (o : Pair) (ps : List Pair) → length o.value ≡ 0 → first (show o ps) ≡ first ps
gone o ps n = simp (no_value o.value n)

module _ (o : Pair) (os : List Pair) (later : AfterAll o.key os) where
  -- the snapshot's pair comes first
  pub snapshot-first : (ps : List Pair) → own_first o.key ps ≡ false → first (put_all (o ∷ os) ps) ≡ first ps
  unfolding all
  snapshot-first [] e = absurd (true≢false e)
  snapshot-first (p ∷ ps) e =
      let l : After p.key o.key ≡ true = not-false (After p.key o.key) e in
      ap first
      (put_all-past p (o ∷ os) ps (and_intro l (all-mono (λ q. After o.key q.key) (λ q. After p.key q.key) (λ q a. both p.key o.key q.key l a) os later)))
    where
      both : (a b c : Bytes) → After a b ≡ true → After b c ≡ true → After a c ≡ true
      both a b c p q = ap is_lt (key-order.trans a b c (is_lt-lt (cmp_key a b) p) (is_lt-lt (cmp_key b c) q))

  -- the own write comes first: itself, and the others on what the snapshot has past its key
  own-shown : (ps : List Pair) → rises cmp_pair ps ≡ true → own_first o.key ps ≡ true → put_all (o ∷ os) ps ≡ show o (put_all os (past_key o.key ps))
  unfolding put_all rises all turned
  own-shown [] r e = put_front o (put_all os []) (put_all-after o.key os [] later refl)
  own-shown (p ∷ ps) r e = go (cmp_key o.key p.key) refl
    where
      go : (q : Ordering) → cmp_key o.key p.key ≡ q → put o (put_all os (p ∷ ps)) ≡ show o (put_all os (cond (is_same (cmp_key o.key p.key)) ps (p ∷ ps)))
      go Ordering.lt f =
          put_front o (put_all os (p ∷ ps)) (put_all-after o.key os (p ∷ ps) later (and_intro (ap is_lt f) (all-mono (λ q. After p.key q.key) (λ q. After o.key q.key) (λ q a. ap is_lt (key-order.trans o.key p.key q.key f (is_lt-lt (cmp_key p.key q.key) a))) ps (pairs-after p ps r))))
          ∙ ap (λ b. show o (put_all os (cond (is_same b) ps (p ∷ ps)))) (sym f)
      go Ordering.eq f =
          let j : o.key ≡ p.key = key-eq o.key p.key f in
          ap (put o) (put_all-past p os ps (ap (λ (k : Bytes). all (λ q. After k q.key) os) (sym j) ∙ later)) ∙ hides o p (put_all os ps) f
          ∙ ap (λ b. show o (put_all os (cond (is_same b) ps (p ∷ ps)))) (sym f)
      go Ordering.gt f = let z : own_first o.key (p ∷ ps) ≡ false = ap (λ b. not (is_lt b)) (key-order.turn o.key p.key ∙ ap turned f) in absurd (true≢false (sym e ∙ z))

  pub own-here : (ps : List Pair) → rises cmp_pair ps ≡ true → own_first o.key ps ≡ true → 0 < length o.value → first (put_all (o ∷ os) ps) ≡ some o
  own-here ps r e n = ap first (own-shown ps r e) ∙ here o (put_all os (past_key o.key ps)) n

  pub own-gone : (ps : List Pair) → rises cmp_pair ps ≡ true → own_first o.key ps ≡ true → length o.value ≡ 0 → first (put_all (o ∷ os) ps) ≡ first (put_all os (past_key o.key ps))
  own-gone ps r e n = ap first (own-shown ps r e) ∙ gone o (put_all os (past_key o.key ps)) n

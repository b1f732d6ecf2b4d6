-- What the walk shows of a run is what is present in it.
-- Assumes nothing.
use mathlib.Core.Path.{◌≡◌, refl, sym, ap, ap₂, ◌∙◌}
use mathlib.Core.Bool.{Bool, true, false, ◌&&◌, cond, not, true≢false}
use mathlib.Core.List.{List, [], ◌∷◌}
use mathlib.Core.Option.{Option, none, some}
use Prim.Native.Nat.{ℕ, compare, Ordering}
use lib.Dec.{leb}
use Rattle.paper.specs.Lists.{then_by, is_lt, is_same, all, keep, rises_from, rises, insert}
use Rattle.paper.specs.Keys.{Bytes, Version, Pair, cmp_key, same_key, cmp_version}
use Rattle.paper.specs.Bounds.{Bound, included, excluded, unbounded, above, below, within}
use Rattle.paper.specs.Runs.{Run, is_run}
use Rattle.paper.specs.Seen.{candidate, newest, unless_empty, value_of, visible, own_write, seen, keys_of_run, keys_of, with_value, valued, present}
use Rattle.paper.proofs.Bools.{and_left, and_right, and_intro, is_lt-lt, is_same-eq}
use Rattle.paper.proofs.Alls.{all-mono, all_keep, all_insert}
use Rattle.paper.proofs.Order.{turned}
use Rattle.paper.proofs.KeyOrder.{key-eq, key-order, version-order}
use Rattle.paper.proofs.Rising.{rises-of, rises_from-before}
use Rattle.paper.proofs.FirstSeen.{first_seen, newest-first}
use Rattle.paper.proofs.ScanLaws.{keys_of_run-rises}
use Rattle.lsm.specs.Shown.{shown}
use Rattle.merge.proofs.KeepLaws.{keep_all, keep-yes, keep-no, all-kept, keep-none, insert-least}

-- ---- keys in order
-- the keys from k on, and those after k
abbrev pub From : Bytes → Bytes → Bool
From k x = not (is_lt (cmp_key x k))

abbrev pub After : Bytes → Bytes → Bool
After k x = is_lt (cmp_key k x)

pub after-from : (k x y : Bytes) → After k x ≡ true → From x y ≡ true → After k y ≡ true
unfolding turned
after-from k x y a f = go (cmp_key x y) refl
  where
    l : cmp_key k x ≡ Ordering.lt
    l = is_lt-lt (cmp_key k x) a

    go : (o : Ordering) → cmp_key x y ≡ o → After k y ≡ true
    go Ordering.lt e = ap is_lt (key-order.trans k x y l e)
    go Ordering.eq e = ap (λ (z : Bytes). After k z) (sym (key-eq x y e)) ∙ a
    go Ordering.gt e = let z : From x y ≡ false = ap (λ o. not (is_lt o)) (key-order.turn x y ∙ ap turned e) in absurd (true≢false (sym f ∙ z))

from-not-same : (k x : Bytes) → From k x ≡ true → same_key k x ≡ false → After k x ≡ true
unfolding turned
from-not-same k x f n = go (cmp_key k x) refl
  where
    go : (o : Ordering) → cmp_key k x ≡ o → After k x ≡ true
    go Ordering.lt e = ap is_lt e
    go Ordering.eq e = absurd (true≢false (sym (ap is_same e) ∙ n))
    go Ordering.gt e = let z : From k x ≡ false = ap (λ o. not (is_lt o)) (key-order.turn k x ∙ ap turned e) in absurd (true≢false (sym f ∙ z))

pub after-not-same : (k x : Bytes) → After k x ≡ true → same_key x k ≡ false
unfolding turned
after-not-same k x a = ap is_same (key-order.turn k x ∙ ap turned (is_lt-lt (cmp_key k x) a))

pub below-after : (hi : Bound) (k x : Bytes) → After k x ≡ true → below hi k ≡ false → below hi x ≡ false
unfolding below
below-after (included b) k x a f = go (is_lt (cmp_key b k)) refl
  where
    go : (t : Bool) → is_lt (cmp_key b k) ≡ t → not (is_lt (cmp_key b x)) ≡ false
    go true e = ap not (ap is_lt (key-order.trans b k x (is_lt-lt (cmp_key b k) e) (is_lt-lt (cmp_key k x) a)))
    go false e = absurd (true≢false (ap not (sym e) ∙ f))
below-after (excluded b) k x a f = go (is_lt (cmp_key x b)) refl
  where
    go : (t : Bool) → is_lt (cmp_key x b) ≡ t → is_lt (cmp_key x b) ≡ false
    go true e = absurd (true≢false (sym (ap is_lt (key-order.trans k x b (is_lt-lt (cmp_key k x) a) (is_lt-lt (cmp_key x b) e))) ∙ f))
    go false e = e
below-after unbounded k x a f = absurd (true≢false f)

pub rising-after : (k : Bytes) (xs : List Bytes) → rises_from cmp_key k xs ≡ true → all (After k) xs ≡ true
unfolding all rises_from
rising-after k [] r = refl
rising-after k (x ∷ xs) r =
    let l = and_left (is_lt (cmp_key k x)) (rises_from cmp_key x xs) r in
    and_intro l (rising-after k xs (rises_from-before cmp_key key-order k x xs (is_lt-lt (cmp_key k x) l) (and_right (is_lt (cmp_key k x)) (rises_from cmp_key x xs) r)))

into : (k x : Bytes) (xs : List Bytes) → After k x ≡ true → rises_from cmp_key x xs ≡ true → rises_from cmp_key k (x ∷ xs) ≡ true
unfolding rises_from
into k x xs l r = and_intro l r

-- a key at or below all others goes in front
insert_key : (k : Bytes) (ks : List Bytes) → rises cmp_key ks ≡ true → all (From k) ks ≡ true → insert cmp_key k ks ≡ k ∷ keep (After k) ks
unfolding rises all insert keep
insert_key k [] r a = refl
insert_key k (x ∷ xs) r a = go (same_key k x) refl
  where
    f : From k x ≡ true
    f = and_left (From k x) (all (From k) xs) a

    go : (b : Bool) → same_key k x ≡ b → insert cmp_key k (x ∷ xs) ≡ k ∷ keep (After k) (x ∷ xs)
    go true e =
        let q : cmp_key k x ≡ Ordering.eq = is_same-eq (cmp_key k x) e in
        let m : keep (After k) xs ≡ xs = keep_all (After k) xs (ap (λ (z : Bytes). all (After z) xs) (key-eq k x q) ∙ rising-after x xs r) in
        simp q (ap {B = List Bytes} (λ l. k ∷ l) (sym m))
    go false e =
        let l : After k x ≡ true = from-not-same k x f e in
        let w : rises_from cmp_key k (x ∷ xs) ≡ true = into k x xs l r in
        insert-least cmp_key key-order k (x ∷ xs) w ∙ ap {B = List Bytes} (λ l. k ∷ l) (sym (keep_all (After k) (x ∷ xs) (rising-after k (x ∷ xs) w)))

-- ---- the keys of a run
from-lt : (v w : Version) → cmp_version v w ≡ Ordering.lt → From v.key w.key ≡ true
unfolding cmp_version turned
from-lt v w l = go (cmp_key v.key w.key) refl
  where
    go : (o : Ordering) → cmp_key v.key w.key ≡ o → From v.key w.key ≡ true
    go Ordering.lt e = ap (λ o. not (is_lt o)) (key-order.turn v.key w.key ∙ ap turned e)
    go Ordering.eq e = ap (λ o. not (is_lt o)) (key-order.turn v.key w.key ∙ ap turned e)
    go Ordering.gt e = let z : Ordering.gt ≡ Ordering.lt = sym (ap (λ o. then_by o (compare w.time v.time)) e) ∙ l in absurd (true≢false (sym (ap is_lt z)))

-- no version of a run has a key before that of its first
pub run-from : (v : Version) (vs : Run) → rises_from cmp_version v vs ≡ true → all (λ w. From v.key w.key) vs ≡ true
unfolding rises_from all
run-from v [] r = refl
run-from v (w ∷ ws) r =
    let l : cmp_version v w ≡ Ordering.lt = is_lt-lt (cmp_version v w) (and_left (is_lt (cmp_version v w)) (rises_from cmp_version w ws) r) in
    and_intro (from-lt v w l) (run-from v ws (rises_from-before cmp_version version-order v w ws l (and_right (is_lt (cmp_version v w)) (rises_from cmp_version w ws) r)))

keys-all : (p : Bytes → Bool) (vs : Run) → all (λ v. p v.key) vs ≡ true → all p (keys_of_run vs) ≡ true
unfolding keys_of_run all
keys-all p [] a = refl
keys-all p (v ∷ vs) a =
    all_insert p cmp_key v.key (keys_of_run vs) (and_left (p v.key) (all (λ v. p v.key) vs) a) (keys-all p vs (and_right (p v.key) (all (λ v. p v.key) vs) a))

-- the keys of a run: that of its first version, and those after it
pub run-keys : (v : Version) (vs : Run) → rises_from cmp_version v vs ≡ true → keys_of_run (v ∷ vs) ≡ v.key ∷ keep (After v.key) (keys_of_run vs)
unfolding keys_of_run
run-keys v vs r = insert_key v.key (keys_of_run vs) (keys_of_run-rises vs) (keys-all (From v.key) vs (run-from v vs r))

-- ---- what is visible
module _ (r : ℕ) where
  abbrev pub vis : Run → Bytes → Option Bytes
  vis vs k = visible k r vs

  not-candidate : (k : Bytes) (v : Version) (vs : Run) → candidate k r v ≡ false → vis (v ∷ vs) k ≡ vis vs k
  unfolding visible newest
  not-candidate k v vs e = simp e

  vis-other : (k : Bytes) (v : Version) (vs : Run) → same_key k v.key ≡ false → vis (v ∷ vs) k ≡ vis vs k
  unfolding candidate
  vis-other k v vs e = not-candidate k v vs (ap (λ b. b && leb v.time r) e)

  vis-later : (k : Bytes) (v : Version) (vs : Run) → leb v.time r ≡ false → vis (v ∷ vs) k ≡ vis vs k
  unfolding candidate
  vis-later k v vs e = not-candidate k v vs (go (same_key k v.key))
    where
      go : (b : Bool) → b && leb v.time r ≡ false
      go true = e
      go false = refl

  first-here : (v : Version) (vs : Run) → leb v.time r ≡ true → first_seen v.key r (v ∷ vs) ≡ some v
  unfolding candidate first_seen
  first-here v vs e = simp (key-order.same v.key, e)

  vis-here : (v : Version) (vs : Run) → is_run (v ∷ vs) ≡ true → leb v.time r ≡ true → vis (v ∷ vs) v.key ≡ unless_empty v.value
  unfolding visible
  vis-here v vs h e = ap value_of (newest-first v.key r (v ∷ vs) h ∙ first-here v vs e)

  vis-none : (k : Bytes) (vs : Run) → all (λ w. After k w.key) vs ≡ true → vis vs k ≡ none
  unfolding visible newest all
  vis-none k [] a = refl
  vis-none k (w ∷ ws) a =
      vis-other k w ws (ap is_same (is_lt-lt (cmp_key k w.key) (and_left (After k w.key) (all (λ w. After k w.key) ws) a)))
      ∙ vis-none k ws (and_right (After k w.key) (all (λ w. After k w.key) ws) a)

pub valued_same : (p : Bytes → Bool) (f g : Bytes → Option Bytes) → ((k : Bytes) → p k ≡ true → f k ≡ g k) → (ks : List Bytes) → all p ks ≡ true → valued f ks ≡ valued g ks
unfolding valued all
valued_same p f g h [] a = refl
valued_same p f g h (k ∷ ks) a =
    ap₂ (with_value k) (h k (and_left (p k) (all p ks) a)) (valued_same p f g h ks (and_right (p k) (all p ks) a))

-- ---- what is present up to a bound, and what of it is after a key
module _ (r : ℕ) (hi : Bound) where
  F : Run → List Pair
  F vs = valued (vis r vs) (keep (below hi) (keys_of_run vs))

  G : Bytes → Run → List Pair
  G k vs = valued (vis r vs) (keep (below hi) (keep (After k) (keys_of_run vs)))

  -- past the first version's key, that version does not matter
  G-same : (v : Version) (vs : Run) → rises_from cmp_version v vs ≡ true → G v.key (v ∷ vs) ≡ G v.key vs
  unfolding G
  G-same v vs h =
      let k = v.key in
      let e : keep (After k) (keys_of_run (v ∷ vs)) ≡ keep (After k) (keys_of_run vs) =
      ap (keep (After k)) (run-keys v vs h) ∙ keep-no (After k) k (keep (After k) (keys_of_run vs)) (ap is_lt (key-order.same k))
      ∙ keep_all (After k) (keep (After k) (keys_of_run vs)) (all-kept (After k) (keys_of_run vs)) in
      ap (λ (l : List Bytes). valued (vis r (v ∷ vs)) (keep (below hi) l)) e
      ∙ valued_same (After k) (vis r (v ∷ vs)) (vis r vs) (λ x a. vis-other r x v vs (after-not-same k x a)) (keep (below hi) (keep (After k) (keys_of_run vs)))
      (all_keep (After k) (below hi) (keep (After k) (keys_of_run vs)) (all-kept (After k) (keys_of_run vs)))

  G-other : (k : Bytes) (v : Version) (vs : Run) → rises_from cmp_version v vs ≡ true → After k v.key ≡ true → G k (v ∷ vs) ≡ F (v ∷ vs)
  unfolding F G all
  G-other k v vs h a =
      ap (λ (l : List Bytes). valued (vis r (v ∷ vs)) (keep (below hi) l))
      (keep_all (After k) (keys_of_run (v ∷ vs))
      (keys-all (After k) (v ∷ vs) (and_intro a (all-mono (λ w. From v.key w.key) (λ w. After k w.key) (λ w f. after-from k v.key w.key a f) vs (run-from v vs h)))))

  F-end : (v : Version) (vs : Run) → rises_from cmp_version v vs ≡ true → below hi v.key ≡ false → F (v ∷ vs) ≡ []
  unfolding F valued
  F-end v vs h e =
      ap (λ (l : List Bytes). valued (vis r (v ∷ vs)) (keep (below hi) l)) (run-keys v vs h)
      ∙ ap (valued (vis r (v ∷ vs)))
      (keep-no (below hi) v.key (keep (After v.key) (keys_of_run vs)) e
      ∙ keep-none (below hi) (keep (After v.key) (keys_of_run vs))
      (all-mono (After v.key) (λ x. cond (below hi x) false true) (λ x a. ap (λ b. cond b false true) (below-after hi v.key x a e)) (keep (After v.key) (keys_of_run vs)) (all-kept (After v.key) (keys_of_run vs))))

  F-first : (v : Version) (vs : Run) → rises_from cmp_version v vs ≡ true → below hi v.key ≡ true → F (v ∷ vs) ≡ with_value v.key (vis r (v ∷ vs) v.key) (G v.key vs)
  unfolding F G valued
  F-first v vs h e =
      let k = v.key in
      ap (λ (l : List Bytes). valued (vis r (v ∷ vs)) (keep (below hi) l)) (run-keys v vs h)
      ∙ ap (valued (vis r (v ∷ vs))) (keep-yes (below hi) k (keep (After k) (keys_of_run vs)) e)
      ∙ ap (with_value k (vis r (v ∷ vs) k))
      (valued_same (After k) (vis r (v ∷ vs)) (vis r vs) (λ x a. vis-other r x v vs (after-not-same k x a)) (keep (below hi) (keep (After k) (keys_of_run vs)))
      (all_keep (After k) (below hi) (keep (After k) (keys_of_run vs)) (all-kept (After k) (keys_of_run vs))))

  -- a key at or before all others, taken apart
  F-split : (k : Bytes) (vs : Run) → is_run vs ≡ true → all (λ w. From k w.key) vs ≡ true → below hi k ≡ true → F vs ≡ with_value k (vis r vs k) (G k vs)
  unfolding F G rises keys_of_run keep valued visible newest all
  F-split k [] h a e = refl
  F-split k (w ∷ ws) h a e = go (same_key k w.key) refl
    where
      go : (b : Bool) → same_key k w.key ≡ b → F (w ∷ ws) ≡ with_value k (vis r (w ∷ ws) k) (G k (w ∷ ws))
      go true q =
          let j : k ≡ w.key = key-eq k w.key (is_same-eq (cmp_key k w.key) q) in
          F-first w ws h (ap (below hi) (sym j) ∙ e) ∙ ap (with_value w.key (vis r (w ∷ ws) w.key)) (sym (G-same w ws h))
          ∙ ap (λ (x : Bytes). with_value x (vis r (w ∷ ws) x) (G x (w ∷ ws))) (sym j)
      go false q =
          let l : After k w.key ≡ true = from-not-same k w.key (and_left (From k w.key) (all (λ w. From k w.key) ws) a) q in
          let n : vis r (w ∷ ws) k ≡ none = vis-none r k (w ∷ ws) (and_intro l (all-mono (λ x. From w.key x.key) (λ x. After k x.key) (λ x f. after-from k w.key x.key l f) ws (run-from w ws h))) in
          sym (ap (λ (o : Option Bytes). with_value k o (G k (w ∷ ws))) n ∙ G-other k w ws h l)

  shows-looking : (v : Version) (vs : Run) → is_run (v ∷ vs) ≡ true → shown r hi none vs ≡ F vs → shown r hi (some v.key) vs ≡ G v.key vs → shown r hi none (v ∷ vs) ≡ F (v ∷ vs)
  unfolding shown rises
  shows-looking v vs h a b = go (below hi v.key) (leb v.time r) refl refl
    where
      go : (x y : Bool) → below hi v.key ≡ x → leb v.time r ≡ y
          → cond x (cond y (with_value v.key (unless_empty v.value) (shown r hi (some v.key) vs)) (shown r hi none vs)) [] ≡ F (v ∷ vs)
      go false y e f = sym (F-end v vs h e)
      go true true e f =
          ap (with_value v.key (unless_empty v.value)) b
          ∙ sym (F-first v vs h e ∙ ap (λ (o : Option Bytes). with_value v.key o (G v.key vs)) (vis-here r v vs h f))
      go true false e f =
          a ∙ F-split v.key vs (rises-of cmp_version version-order v vs h) (run-from v vs h) e
          ∙ sym (F-first v vs h e ∙ ap (λ (o : Option Bytes). with_value v.key o (G v.key vs)) (vis-later r v.key v vs f))

  shows-leaving : (k : Bytes) (v : Version) (vs : Run) → is_run (v ∷ vs) ≡ true → From k v.key ≡ true → shown r hi none (v ∷ vs) ≡ F (v ∷ vs) → shown r hi (some k) vs ≡ G k vs
      → shown r hi (some k) (v ∷ vs) ≡ G k (v ∷ vs)
  unfolding shown rises
  shows-leaving k v vs h f a b = go (same_key k v.key) refl
    where
      go : (x : Bool) → same_key k v.key ≡ x → cond x (shown r hi (some k) vs) (shown r hi none (v ∷ vs)) ≡ G k (v ∷ vs)
      go true e =
          let j : k ≡ v.key = key-eq k v.key (is_same-eq (cmp_key k v.key) e) in
          b ∙ ap (λ (x : Bytes). G x vs) j ∙ sym (G-same v vs h) ∙ ap (λ (x : Bytes). G x (v ∷ vs)) (sym j)
      go false e = a ∙ sym (G-other k v vs h (from-not-same k v.key f e))

  shows : (vs : Run) → is_run vs ≡ true → (shown r hi none vs ≡ F vs) × ((k : Bytes) → all (λ w. From k w.key) vs ≡ true → shown r hi (some k) vs ≡ G k vs)
  unfolding shown F G rises keys_of_run keep valued all
  shows [] h = (refl, λ k a. refl)
  shows (v ∷ vs) h =
      let t = rises-of cmp_version version-order v vs h in
      let ih = shows vs t in
      let a : shown r hi none (v ∷ vs) ≡ F (v ∷ vs) = shows-looking v vs h ih.0 (ih.1 v.key (run-from v vs h)) in
      (a, λ k f. shows-leaving k v vs h (and_left (From k v.key) (all (λ w. From k w.key) vs) f) a (ih.1 k (and_right (From k v.key) (all (λ w. From k w.key) vs) f)))

  -- what the walk shows of a run is what is present in it
  pub shown-present : (vs : Run) → is_run vs ≡ true → shown r hi none vs ≡ present [] vs r unbounded hi
  unfolding F present keys_of within above seen own_write
  shown-present vs h = (shows vs h).0

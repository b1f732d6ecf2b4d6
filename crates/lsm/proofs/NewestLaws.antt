-- A get without a merge: the newest version is found run by run, and in a run it is the first at or after the key at the read number.
-- Assumes nothing.
use native.Mathlib.Omega.{arith}
use mathlib.Core.Path.{◌≡◌, refl, sym, ap, ap₂, ◌∙◌, subst}
use mathlib.Core.Bool.{Bool, true, false, ◌&&◌, cond, not, true≢false}
use mathlib.Core.List.{List, [], ◌∷◌, ◌++◌, map, map-append, append-nil, append_assoc}
use mathlib.Core.Option.{Option, none, some}
use Rattle.std.specs.Bool.{then_some}
use Rattle.std.specs.Prelude as std
use Rattle.std.specs.Prelude.{None, Some}
use Prim.Native.Nat.{ℕ, ◌+◌, ◌-◌, ◌<◌, Ordering}
use borrow.Author.Tests.{ltb-true, ltb-false, le-leb, lt-leb}
use lib.Dec.{leb, ltb}
use lib.ListN.{length, take, get_or}
use lib.Seq.{take-suc}
use native.Mathlib.Numerals.{add-one}
use Rattle.merge.specs.Cursors.{nowhere, left}
use Rattle.merge.specs.declared.heap.Cursor.{Cursor}
use Rattle.paper.specs.Lists.{is_lt, is_same, all, keep, join, rises}
use Rattle.paper.specs.Keys.{Bytes, Version, Pair, cmp_key, same_key, cmp_version, cmp_pair}
use Rattle.paper.specs.Bounds.{included, above}
use Rattle.paper.specs.Runs.{Run, is_run, merge}
use Rattle.paper.specs.Seen.{candidate, newer, newest, unless_empty, value_of, visible, own_write, over, seen}
use Rattle.paper.proofs.Bools.{and_left, and_right, and_intro, is_lt-lt}
use Rattle.paper.proofs.Alls.{all_head, all-mono}
use Rattle.paper.proofs.Order.{turned}
use Rattle.paper.proofs.KeyOrder.{key-order, version-order, pair-order}
use Rattle.paper.proofs.Rising.{rises-of, keep-rises}
use Rattle.paper.proofs.SeenLaws.{newest-merge}
use Rattle.paper.proofs.FirstSeen.{first_seen, newest-first}
use Rattle.raw.proofs.Parts.{length_part}
use Rattle.raw.proofs.Comparing.{less-than}
use Rattle.key.specs.Stamps.{stamped}
use Rattle.key.specs.Places.{version_in, Placed}
use Rattle.key.specs.declared.KeyStamp.{KeyStamp}
use Rattle.key.specs.declared.Place.{Place}
use Rattle.merge.proofs.KeepLaws.{all-kept}
use Rattle.lsm.specs.Edges.{pair_from}
use Rattle.lsm.specs.Pairs.{pair_at, InBytes}
use Rattle.lsm.specs.Seeking.{not_before}
use Rattle.lsm.specs.Answers.{value_in, InAnswer}
use Rattle.lsm.specs.Newest.{best_in, span_of, InBest, newer_of, later, first_of, own_of, present_of, shown_of}
use Rattle.lsm.specs.declared.answer.Span.{Span}
use Rattle.lsm.proofs.Basics.{not-true, not-false, some-value, no_value}
use Rattle.lsm.proofs.PresentLaws.{From, After, after-from, run-from}
use Rattle.lsm.proofs.SeekLaws.{other_after, by-time}
use Rattle.lsm.proofs.OverlayLaws.{AfterAll, pairs-after}

-- ---- run by run
newer-later : (x v w : Version) → newer x (newer v (some w)) ≡ newer (cond (ltb x.time v.time) v x) (some w)
unfolding newer
newer-later x v w = go (ltb x.time v.time) (ltb v.time w.time) (ltb x.time w.time) refl refl refl
  where
    go : (a b c : Bool) → ltb x.time v.time ≡ a → ltb v.time w.time ≡ b → ltb x.time w.time ≡ c
        → newer x (newer v (some w)) ≡ newer (cond (ltb x.time v.time) v x) (some w)
    go true true true p q r = simp (p, q, r)
    go true true false p q r = absurd (omega (arith, ltb-true x.time v.time p, ltb-true v.time w.time q, ltb-false x.time w.time r))
    go true false c p q r = simp (p, q)
    go false true true p q r = simp (p, q, r)
    go false true false p q r = simp (p, q, r)
    go false false true p q r = absurd (omega (arith, ltb-false x.time v.time p, ltb-false v.time w.time q, ltb-true x.time w.time r))
    go false false false p q r = simp (p, q, r)

later-newer : (x : Version) (a b : Option Version) → newer x (later a b) ≡ later (newer x a) b
unfolding newer
later-newer x none b = refl
later-newer x (some v) none = refl
later-newer x (some v) (some w) = newer-later x v w

-- the newest of two runs one after the other
newest-both : (k : Bytes) (r : ℕ) (xs ys : Run) → newest k r (xs ++ ys) ≡ later (newest k r xs) (newest k r ys)
unfolding newest
newest-both k r [] ys = refl
newest-both k r (x ∷ xs) ys = go (candidate k r x) (newest-both k r xs ys)
  where
    go : (b : Bool) → newest k r (xs ++ ys) ≡ later (newest k r xs) (newest k r ys)
        → cond b (newer x (newest k r (xs ++ ys))) (newest k r (xs ++ ys)) ≡ later (cond b (newer x (newest k r xs)) (newest k r xs)) (newest k r ys)
    go true ih = ap (newer x) ih ∙ later-newer x (newest k r xs) (newest k r ys)
    go false ih = ih

join_last : (rs : List Run) (l : Run) → join (rs ++ (l ∷ [])) ≡ join rs ++ l
unfolding join
join_last [] l = append-nil l
join_last (r ∷ rs) l = ap (λ (x : Run). r ++ x) (join_last rs l) ∙ sym (append_assoc r (join rs) l)

-- one run more
pub newest-more : (k : Bytes) (r : ℕ) (rs : List Run) (l : Run) → newest k r (join (rs ++ (l ∷ []))) ≡ later (newest k r (join rs)) (newest k r l)
newest-more k r rs l = ap (newest k r) (join_last rs l) ∙ newest-both k r (join rs) l

-- ---- in one run
module _ (k : Bytes) (t : KeyStamp) where
  abbrev z : Version
  z = stamped k t

  -- a version before the key at the stamp is no candidate
  before-no : (v : Version) → not_before z v ≡ false → candidate k t.time v ≡ false
  unfolding candidate cmp_version turned
  before-no v n = go (cmp_key k v.key) refl
    where
      e : is_lt (cmp_version v z) ≡ true
      e = not-false (is_lt (cmp_version v z)) n

      go : (o : Ordering) → cmp_key k v.key ≡ o → is_same (cmp_key k v.key) && leb v.time t.time ≡ false
      go Ordering.lt f = ap (λ o. is_same o && leb v.time t.time) f
      go Ordering.eq f =
          let g = by-time k t v (ap is_same f) in
          ap (λ o. is_same o && leb v.time t.time) f ∙ lt-leb v.time t.time (ltb-true t.time v.time (less-than t.time v.time ∙ ap is_lt (sym g) ∙ e))
      go Ordering.gt f = ap (λ o. is_same o && leb v.time t.time) f

  -- a version of the key that is not before it is one
  at-yes : (v : Version) → not_before z v ≡ true → same_key k v.key ≡ true → candidate k t.time v ≡ true
  unfolding candidate cmp_version turned
  at-yes v n s =
      let g = by-time k t v s in
      and_intro s
      (le-leb v.time t.time (ltb-false t.time v.time (less-than t.time v.time ∙ ap is_lt (sym g) ∙ not-true (is_lt (cmp_version v z)) n)))

  later-key : (v : Version) → not_before z v ≡ true → same_key k v.key ≡ false → After k v.key ≡ true
  unfolding above
  later-key v n e = other_after k t v n e

  none_after : (vs : Run) → all (λ w. After k w.key) vs ≡ true → first_seen k t.time vs ≡ none
  unfolding first_seen all candidate
  none_after [] a = refl
  none_after (w ∷ ws) a =
      let l : cmp_key k w.key ≡ Ordering.lt = is_lt-lt (cmp_key k w.key) (and_left (After k w.key) (all (λ w. After k w.key) ws) a) in
      simp l (none_after ws (and_right (After k w.key) (all (λ w. After k w.key) ws) a))

  first-there : (v : Version) (vs : Run) → is_run (v ∷ vs) ≡ true → not_before z v ≡ true → first_seen k t.time (v ∷ vs) ≡ cond (same_key k v.key) (some v) none
  unfolding first_seen rises all
  first-there v vs r n = go (same_key k v.key) refl
    where
      go : (b : Bool) → same_key k v.key ≡ b → cond (candidate k t.time v) (some v) (first_seen k t.time vs) ≡ cond b (some v) none
      go true e = ap (λ b. cond b (some v) (first_seen k t.time vs)) (at-yes v n e)
      go false e =
          let l : After k v.key ≡ true = later-key v n e in
          none_after (v ∷ vs) (and_intro l (all-mono (λ w. From v.key w.key) (λ w. After k w.key) (λ w f. after-from k v.key w.key l f) vs (run-from v vs r)))

  first-kept : (vs : Run) → is_run vs ≡ true → first_seen k t.time vs ≡ first_of k (keep (not_before z) vs)
  unfolding first_seen rises keep
  first-kept [] r = refl
  first-kept (v ∷ vs) r = go (first-kept vs (rises-of cmp_version version-order v vs r)) (not_before z v) refl
    where
      go : first_seen k t.time vs ≡ first_of k (keep (not_before z) vs) → (b : Bool) → not_before z v ≡ b
          → first_seen k t.time (v ∷ vs) ≡ first_of k (cond b (v ∷ keep (not_before z) vs) (keep (not_before z) vs))
      go ih true e = first-there v vs r e
      go ih false e = ap (λ b. cond b (some v) (first_seen k t.time vs)) (before-no v e) ∙ ih

  -- the newest version of the key in a run is the first at or after the key at the read number, if that is one of the key
  pub newest-sought : (r : ℕ) → t.time ≡ r → (vs ws : Run) → is_run vs ≡ true → ws ≡ keep (not_before z) vs → first_of k ws ≡ newest k r vs
  newest-sought r e vs ws u f = ap (first_of k) f ∙ sym (ap (λ (n : ℕ). newest k n vs) (sym e) ∙ newest-first k t.time vs u ∙ first-kept vs u)

-- ---- the best so far
pub best-newer : (s : Bytes) (a b : std.Option Place) → best_in s (newer_of a b) ≡ later (best_in s a) (best_in s b)
unfolding newer
best-newer s None b = refl
best-newer s (Some p) None = refl
best-newer s (Some p) (Some q) = go (ltb p.time q.time)
  where
    go : (c : Bool) → best_in s (cond c (Some q) (Some p)) ≡ some (cond c (version_in s q) (version_in s p))
    go true = refl
    go false = refl

pub newer-in : (s : Bytes) (a b : std.Option Place) → InBest s a → InBest s b → InBest s (newer_of a b)
newer-in s None b h k = k
newer-in s (Some p) None h k = h
newer-in s (Some p) (Some q) h k = go (ltb p.time q.time)
  where
    go : (c : Bool) → InBest s (cond c (Some q) (Some p))
    go true = k
    go false = h

-- the first version of a run, where a test says whether it has the key
pub best_found : (s k : Bytes) (p : Place) (vs ws : Run) (b : Bool) → vs ≡ version_in s p ∷ ws → b ≡ same_key k (version_in s p).key → best_in s (then_some b p) ≡ first_of k vs
best_found s k p vs ws b e f = go b refl ∙ ap (λ c. cond c (some (version_in s p)) none) f ∙ sym (ap (first_of k) e)
  where
    go : (c : Bool) → b ≡ c → best_in s (then_some b p) ≡ cond b (some (version_in s p)) none
    go true q = simp q
    go false q = simp q

-- after one run more
module _ (s k : Bytes) (r : ℕ) (cs : List Cursor) (i : ℕ) (l : i < length cs) (a b x : std.Option Place) (is : x ≡ newer_of a b) where
  pub newest-next : best_in s a ≡ newest k r (join (map (left s) (take i cs))) → best_in s b ≡ newest k r (left s (get_or cs i nowhere)) → best_in s x ≡ newest k r (join (map (left s) (take (i + 1) cs)))
  newest-next e f =
      let m : map (left s) (take (i + 1) cs) ≡ map (left s) (take i cs) ++ (left s (get_or cs i nowhere) ∷ []) =
      ap (λ (n : ℕ). map (left s) (take n cs)) (add-one i) ∙ ap (map (left s)) (take-suc cs i nowhere l) ∙ map-append (left s) (take i cs) (get_or cs i nowhere ∷ []) in
      ap (best_in s) is ∙ best-newer s a b ∙ ap₂ later e f
      ∙ sym (ap (λ (rs : List Run). newest k r (join rs)) m ∙ newest-more k r (map (left s) (take i cs)) (left s (get_or cs i nowhere)))

  pub next-in : InBest s a → InBest s b → InBest s x
  next-in h g = subst (λ (y : std.Option Place). InBest s y) (sym is) (newer-in s a b h g)

pub placed-in : (s : Bytes) (at : ℕ) (p : Place) → Placed s at p → InBytes s (span_of p)
placed-in s at p h = record { key = h.key; key_in = omega (arith, h.mid, h.value, h.inside); value = h.value; value_in = h.inside }

-- ---- own writes
own-none-after : (k : Bytes) (ps : List Pair) → AfterAll k ps → own_write k ps ≡ none
unfolding own_write all
own-none-after k [] a = refl
own-none-after k (p ∷ ps) a =
    let l : cmp_key k p.key ≡ Ordering.lt = is_lt-lt (cmp_key k p.key) (and_left (After k p.key) (all (λ p. After k p.key) ps) a) in
    simp l (own-none-after k ps (and_right (After k p.key) (all (λ p. After k p.key) ps) a))

module _ (k : Bytes) where
  -- pairs in key order, none before the key: the first is the only one that can have it
  own_first : (ps : List Pair) → rises cmp_pair ps ≡ true → all (pair_from (included k)) ps ≡ true → own_of k ps ≡ own_write k ps
  unfolding own_write rises above turned
  own_first [] r a = refl
  own_first (p ∷ ps) r a = go (cmp_key k p.key) refl
    where
      from : not (is_lt (cmp_key p.key k)) ≡ true
      from = all_head (pair_from (included k)) p ps a

      go : (o : Ordering) → cmp_key k p.key ≡ o → cond (is_same (cmp_key k p.key)) (some p.value) none ≡ cond (is_same (cmp_key k p.key)) (some p.value) (own_write k ps)
      go Ordering.lt e =
          simp e
          (sym
          (own-none-after k ps
          (all-mono (λ q. After p.key q.key) (λ q. After k q.key) (λ q l. ap is_lt (key-order.trans k p.key q.key e (is_lt-lt (cmp_key p.key q.key) l))) ps (pairs-after p ps r))))
      go Ordering.eq e = simp e
      go Ordering.gt e = absurd (true≢false (sym from ∙ ap (λ o. not (is_lt o)) (key-order.turn k p.key ∙ ap turned e)))

  own-kept : (ps : List Pair) → own_write k (keep (pair_from (included k)) ps) ≡ own_write k ps
  unfolding own_write keep above turned
  own-kept [] = refl
  own-kept (p ∷ ps) = go (own-kept ps) (cmp_key k p.key) refl
    where
      go : own_write k (keep (pair_from (included k)) ps) ≡ own_write k ps → (o : Ordering) → cmp_key k p.key ≡ o
          → own_write k (keep (pair_from (included k)) (p ∷ ps)) ≡ cond (is_same (cmp_key k p.key)) (some p.value) (own_write k ps)
      go ih Ordering.lt e =
          let f : cmp_key p.key k ≡ Ordering.gt = key-order.turn k p.key ∙ ap turned e in
          simp (e, f) ih
      go ih Ordering.eq e =
          let f : cmp_key p.key k ≡ Ordering.eq = key-order.turn k p.key ∙ ap turned e in
          simp (e, f)
      go ih Ordering.gt e =
          let f : cmp_key p.key k ≡ Ordering.lt = key-order.turn k p.key ∙ ap turned e in
          simp (e, f) ih

  -- the own write of the key is the first pair from it on, if that has it
  pub own-sought : (os ps : List Pair) → rises cmp_pair os ≡ true → ps ≡ keep (pair_from (included k)) os → own_of k ps ≡ own_write k os
  own-sought os ps r e =
      ap (own_of k) e
      ∙ own_first (keep (pair_from (included k)) os) (keep-rises cmp_pair pair-order (pair_from (included k)) os r) (all-kept (pair_from (included k)) os)
      ∙ own-kept os

-- the first of own pairs, where a test says whether it has the key
pub own_found : (s k : Bytes) (p : Span) (os ps : List Pair) (b : Bool) → os ≡ pair_at s p ∷ ps → b ≡ same_key k (pair_at s p).key → value_in s (then_some b p) ≡ own_of k os
own_found s k p os ps b e f = go b refl ∙ ap (λ c. cond c (some (pair_at s p).value) none) f ∙ sym (ap (own_of k) e)
  where
    go : (c : Bool) → b ≡ c → value_in s (then_some b p) ≡ cond b (some (pair_at s p).value) none
    go true q = simp q
    go false q = simp q

pub found-in : (s : Bytes) (p : Span) (b : Bool) (o : std.Option Span) → o ≡ then_some b p → InBytes s p → InAnswer s o
found-in s p b o e i = subst (λ (a : std.Option Span). InAnswer s a) (sym e) (go b)
  where
    go : (b : Bool) → InAnswer s (then_some b p)
    go true = i
    go false = tt

-- ---- answers
module _ (s : Bytes) (p : Span) (i : InBytes s p) where
  value-size : length (pair_at s p).value ≡ p.ve - p.vs
  value-size = length_part s p.vs (p.ve - p.vs) (omega (arith, i.value, i.value_in))

  pub present-value : value_in s (present_of p) ≡ unless_empty (pair_at s p).value
  present-value = go (ltb p.vs p.ve) refl
    where
      go : (b : Bool) → ltb p.vs p.ve ≡ b → value_in s (cond b (Some p) None) ≡ unless_empty (pair_at s p).value
      go true e = sym (some-value (pair_at s p).value (omega (arith, value-size, ltb-true p.vs p.ve e)))
      go false e = sym (no_value (pair_at s p).value (omega (arith, value-size, ltb-false p.vs p.ve e)))

  pub present-in : InAnswer s (present_of p)
  present-in = go (ltb p.vs p.ve)
    where
      go : (b : Bool) → InAnswer s (cond b (Some p) None)
      go true = i
      go false = tt

pub shown-value : (s : Bytes) (b : std.Option Place) → InBest s b → value_in s (shown_of b) ≡ value_of (best_in s b)
shown-value s None i = refl
shown-value s (Some p) i = present-value s (span_of p) i

pub shown-in : (s : Bytes) (b : std.Option Place) → InBest s b → InAnswer s (shown_of b)
shown-in s None i = tt
shown-in s (Some p) i = present-in s (span_of p) i

-- ---- what is seen
module _ (s k : Bytes) (r : ℕ) (own : List Pair) (rs : List Run) (a x : std.Option Span) (is : value_in s a ≡ own_write k own) where
  -- an own write is seen, unless it is a deletion
  pub seen-own : (p : Span) → a ≡ Some p → InAnswer s a → x ≡ present_of p → (value_in s x ≡ seen own (merge rs) r k) × InAnswer s x
  unfolding seen
  seen-own p e i f =
      let j : InBytes s p = subst (λ (y : std.Option Span). InAnswer s y) e i in (
        ap (value_in s) f ∙ present-value s p j ∙ sym (ap (λ (o : Option Bytes). over o (visible k r (merge rs))) (sym is ∙ ap (value_in s) e)),
        subst (λ (y : std.Option Span). InAnswer s y) (sym f) (present-in s p j),
      )

  -- and where there is none, the newest version of all runs
  pub seen-newest : (b : std.Option Place) → a ≡ None → best_in s b ≡ newest k r (join rs) → InBest s b → x ≡ shown_of b → (value_in s x ≡ seen own (merge rs) r k) × InAnswer s x
  unfolding seen visible
  seen-newest b e g i f = (
    ap (value_in s) f ∙ shown-value s b i ∙ ap value_of (g ∙ sym (newest-merge k r rs)) ∙ sym (ap (λ (o : Option Bytes). over o (value_of (newest k r (merge rs)))) (sym is ∙ ap (value_in s) e)),
    subst (λ (y : std.Option Span). InAnswer s y) (sym f) (shown-in s b i),
  )

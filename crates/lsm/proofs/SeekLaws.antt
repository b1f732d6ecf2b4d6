-- Seeking in a run, from a version on and past a key, and cursors at a lower bound: each has left what the bound lets through.
-- Assumes nothing.
use native.Mathlib.Omega.{arith}
use native.Mathlib.Decide.{dec_lt}
use native.Mathlib.Numerals.{add-one}
use mathlib.Core.Path.{◌≡◌, refl, sym, ap, ap₂, ◌∙◌}
use mathlib.Core.Bool.{Bool, true, false, ◌&&◌, cond, not, true≢false}
use mathlib.Core.Option.{none, some}
use Rattle.std.specs.Prelude as std
use Rattle.std.specs.Prelude.{None, Some, IfSome}
use Rattle.std.specs.Option.{option_map_or}
use mathlib.Core.List.{List, [], ◌∷◌, ◌++◌, map, map-append, head-eq_of_cons-eq, tail-eq_of_cons-eq}
use Prim.Native.Nat.{ℕ, suc, ◌+◌, ◌-◌, ◌≤◌, ◌<◌, compare, Ordering}
use borrow.Author.Tests.{leb-true, ltb-false, le-ltb}
use lib.Dec.{eqb, leb, ltb}
use lib.ListN.{length, take, drop, get_or, set}
use lib.Seq.{take-suc, take-suc-set}
use Rattle.paper.specs.Lists.{is_some, then_by, is_lt, is_same, all, keep, rises_from, rises}
use Rattle.paper.specs.Keys.{Bytes, Version, cmp_key, same_key, cmp_version}
use Rattle.paper.specs.Bounds.{Bound, included, excluded, unbounded, above}
use Rattle.paper.specs.Runs.{Run, is_run, merge}
use Rattle.paper.specs.Image.{one_record, storable}
use Rattle.paper.specs.Settings.{longest, most_number}
use Rattle.paper.proofs.Bools.{and_left, and_right, and_intro, is_lt-lt, is_same-eq}
use Rattle.paper.proofs.Alls.{all_head, all_append}
use Rattle.paper.proofs.Order.{turned, compare-lt}
use Rattle.paper.proofs.KeyOrder.{key-eq, key-order, version-order}
use Rattle.paper.proofs.Rising.{keep-rises}
use Rattle.paper.proofs.SeenLaws.{same_key_lem}
use Rattle.raw.specs.Bytes.{part}
use Rattle.raw.proofs.Comparing.{less-than}
use Rattle.key.specs.Stamps.{range_begin, range_end, stamped}
use Rattle.key.specs.Versions.{versions}
use Rattle.key.specs.Places.{version_in, Placed}
use Rattle.key.specs.declared.Place.{Place}
use Rattle.key.specs.declared.KeyStamp.{KeyStamp}
use Rattle.key.proofs.Placing.{version-placed}
use Rattle.key.proofs.Packed.{packed-run, versions-nil, record-there, onward-order, versions-step, onward-packed}
use Rattle.merge.specs.Cursors.{nowhere, lawful, left, in_order}
use Rattle.merge.specs.declared.heap.Cursor.{Cursor}
use Rattle.merge.proofs.CursorLaws.{lawful-is, is_lawful}
use Rattle.merge.proofs.KeepLaws.{all-always, keep_all, keep-no, keep-alike, keep-both, all-kept, merge-keep}
use Rattle.lsm.specs.Edges.{is_from}
use Rattle.lsm.specs.Newest.{best_in, first_of}
use Rattle.lsm.specs.Seeking.{run_in, RunAt, not_before, SoughtAt, has_key, without, PastKey, LowAt, Sought, AllSought}
use Rattle.lsm.proofs.Basics.{not-true}
use Rattle.lsm.proofs.LowLaws.{run-above}

-- ---- the versions from one offset to another
pub run_none : (s : Bytes) (at end : ℕ) → end ≤ at → run_in s at end ≡ []
run_none s at end h = let z : end - at ≡ 0 = omega arith in ap (λ (n : ℕ). versions (part s at n)) z ∙ versions-nil

-- where a test passes that does not pass at nothing, there is a version
pub run-some : (s : Bytes) (at end : ℕ) (f : Run → Bool) → f [] ≡ false → f (run_in s at end) ≡ true → at < end
run-some s at end f z e = go (dec_lt at end)
  where
    go : Dec (at < end) → at < end
    go (yes l) = l
    go (no n) = absurd (true≢false (sym e ∙ ap f (run_none s at end (omega arith)) ∙ z))

module _ (s : Bytes) (at end : ℕ) (ok : RunAt s at end) where
  pub run-rises : is_run (run_in s at end) ≡ true
  run-rises = (packed-run (part s at (end - at)) ok.whole).1

  pub run-storable : all storable (run_in s at end) ≡ true
  run-storable = (packed-run (part s at (end - at)) ok.whole).2

  module _ (l : at < end) where
    pub run-there : is_some (one_record (drop at s)) ≡ true
    run-there = record-there s at end l ok.inside ok.whole

    -- past the first version
    module _ (p : Place) (there : Placed s at p) where
      pub run_step : run_in s at end ≡ version_in s p ∷ run_in s p.ve end
      run_step =
          versions-step s at end l ok.inside ok.whole p there ∙ ap {B = Run} (λ v. v ∷ run_in s p.ve end) (version-placed s at p there)

      pub run-onward : RunAt s p.ve end
      run-onward =
          record {
            order = onward-order s at end l ok.inside ok.whole p there;
            inside = ok.inside;
            whole = onward-packed s at end l ok.inside ok.whole p there;
          }

      pub run-shorter : end - p.ve < end - at
      run-shorter = omega (arith, there.start, there.key, there.mid, there.value)

-- ---- past a key
pub key-off : (k : Bytes) (vs : Run) → has_key k vs ≡ false → vs ≡ without k vs
key-off k [] h = refl
key-off k (v ∷ vs) h = sym (ap (λ b. cond b vs (v ∷ vs)) h)

pub key-past : (k : Bytes) (w : Version) (ws vs : Run) → vs ≡ w ∷ ws → has_key k vs ≡ true → ws ≡ without k vs
key-past k w ws vs e h = sym (ap (without k) e ∙ ap (λ b. cond b ws (w ∷ ws)) (ap (has_key k) (sym e) ∙ h))

-- what is found says whether the first version has the key
has-first : (k : Bytes) (v : Version) (vs : Run) → some v ≡ first_of k vs → has_key k vs ≡ true
has-first k v [] e = cc
has-first k v (w ∷ ws) e = go (same_key k w.key) refl
  where
    go : (b : Bool) → same_key k w.key ≡ b → same_key k w.key ≡ true
    go true q = q
    go false q = let z : some v ≡ none = e ∙ ap (λ b. cond b (some w) none) q in cc

no-first : (k : Bytes) (vs : Run) → none ≡ first_of k vs → has_key k vs ≡ false
no-first k [] e = refl
no-first k (w ∷ ws) e = go (same_key k w.key) refl
  where
    go : (b : Bool) → same_key k w.key ≡ b → same_key k w.key ≡ false
    go true q = let z : none ≡ some w = e ∙ ap (λ b. cond b (some w) none) q in cc
    go false q = q

pub past_found : (s k : Bytes) (at end r : ℕ) (o : std.Option Place) → RunAt s at end → best_in s o ≡ first_of k (run_in s at end) → IfSome o (λ p. Placed s at p) → r ≡ option_map_or (λ p. p.ve) o at
    → PastKey s k at end r
past_found s k at end r None ok e t q =
    rw q (record { lies = ok; past = key-off k (run_in s at end) (no-first k (run_in s at end) e) })
past_found s k at end r (Some p) ok e t q =
    let h = has-first k (version_in s p) (run_in s at end) e in
    let l = run-some s at end (has_key k) refl h in
    rw q
    (record { lies = run-onward s at end ok l p t; past = key-past k _ (run_in s p.ve end) (run_in s at end) (run_step s at end ok l p t) h })

-- ---- lower bounds
fits-number : (v : Version) → storable v ≡ true → v.time ≤ most_number
unfolding storable
fits-number v h = leb-true v.time most_number (and_right (leb (length v.key) longest && leb (length v.value) longest) (leb v.time most_number) h)

not-under : (m n : ℕ) → n ≤ m → is_lt (compare m n) ≡ false
not-under m n h = sym (less-than m n) ∙ le-ltb m n h

-- 'key bytes ascending, then timestamp descending': no version of the key is before the key at the beginning of its range
from-begin : (k : Bytes) (t : KeyStamp) → t.time ≡ range_begin → (v : Version) → storable v ≡ true → not_before (stamped k t) v ≡ is_from (included k) v
unfolding cmp_version above
from-begin k t e v ok = go (cmp_key v.key k)
  where
    go : (o : Ordering) → not (is_lt (then_by o (compare t.time v.time))) ≡ not (is_lt o)
    go Ordering.lt = refl
    go Ordering.eq = ap not (not-under t.time v.time (omega (arith, fits-number v ok)))
    go Ordering.gt = refl

-- an included bound
pub low-included : (s : Bytes) (k : Bytes) (t : KeyStamp) (at end r : ℕ) → RunAt s at end → t.time ≡ range_begin → SoughtAt s (stamped k t) at end r → LowAt s (included k) at end r
low-included s k t at end r ok e h =
    record {
      lies = h.lies;
      kept = h.kept ∙ keep-alike storable (not_before (stamped k t)) (is_from (included k)) (from-begin k t e) (run_in s at end) (run-storable s at end ok);
    }

-- a version of another key that is not before the key at a stamp has a later key
pub other_after : (k : Bytes) (t : KeyStamp) (v : Version) → not_before (stamped k t) v ≡ true → same_key k v.key ≡ false → is_from (excluded k) v ≡ true
unfolding cmp_version above turned
other_after k t v n d = go (cmp_key k v.key) refl
  where
    go : (o : Ordering) → cmp_key k v.key ≡ o → is_from (excluded k) v ≡ true
    go Ordering.lt e = ap is_lt e
    go Ordering.eq e = absurd (true≢false (sym (ap is_same e) ∙ d))
    go Ordering.gt e =
        let f : cmp_version v (stamped k t) ≡ Ordering.lt = ap (λ o. then_by o (compare t.time v.time)) (key-order.turn k v.key ∙ ap turned e) in
        absurd (true≢false (sym (ap is_lt f) ∙ not-true (is_lt (cmp_version v (stamped k t))) n))

-- a version of the key is before or behind the key at a stamp by its timestamp
pub by-time : (k : Bytes) (t : KeyStamp) (v : Version) → same_key k v.key ≡ true → cmp_version v (stamped k t) ≡ compare t.time v.time
unfolding cmp_version turned
by-time k t v e = ap (λ o. then_by o (compare t.time v.time)) (key-order.turn k v.key ∙ ap turned (is_same-eq (cmp_key k v.key) e))

-- what is let through is not before the key at the end of its range
module _ (k : Bytes) (t : KeyStamp) (zero-time : t.time ≡ range_end) where
  abbrev z : Version
  z = stamped k t

  from_end : (v : Version) → is_from (excluded k) v ≡ true → not_before z v ≡ true
  unfolding cmp_version above turned
  from_end v a =
      ap (λ o. not (is_lt (then_by o (compare t.time v.time)))) (key-order.turn k v.key ∙ ap turned (is_lt-lt (cmp_key k v.key) a))

  -- the only version of the key that is not before it is at the smallest timestamp
  end-time : (v : Version) → not_before z v ≡ true → same_key k v.key ≡ true → v.time ≡ 0
  end-time v n e = go (ltb t.time v.time) refl
    where
      go : (b : Bool) → ltb t.time v.time ≡ b → v.time ≡ 0
      go true q = absurd (true≢false (sym (sym (less-than t.time v.time) ∙ q) ∙ sym (ap is_lt (by-time k t v e)) ∙ not-true (is_lt (cmp_version v z)) n))
      go false q = omega (arith, ltb-false t.time v.time q)

  -- behind a version of the key at the smallest timestamp are later keys only
  next-after : (v w : Version) → v.time ≡ 0 → same_key k v.key ≡ true → cmp_version v w ≡ Ordering.lt → is_from (excluded k) w ≡ true
  unfolding cmp_version above
  next-after v w e d l = go (cmp_key v.key w.key) refl
    where
      j : k ≡ v.key
      j = key-eq k v.key (is_same-eq (cmp_key k v.key) d)

      go : (o : Ordering) → cmp_key v.key w.key ≡ o → is_from (excluded k) w ≡ true
      go Ordering.lt q = ap (λ (x : Bytes). is_lt (cmp_key x w.key)) j ∙ ap is_lt q
      go Ordering.eq q =
          let m : compare w.time v.time ≡ Ordering.lt = sym (ap (λ o. then_by o (compare w.time v.time)) q) ∙ l in
          absurd (omega (arith, compare-lt w.time v.time m))
      go Ordering.gt q = let m : Ordering.gt ≡ Ordering.lt = sym (ap (λ o. then_by o (compare w.time v.time)) q) ∙ l in absurd (true≢false (sym (ap is_lt m)))

  after-all : (v : Version) (vs : Run) → is_run (v ∷ vs) ≡ true → v.time ≡ 0 → same_key k v.key ≡ true → keep (is_from (excluded k)) vs ≡ vs
  unfolding rises rises_from keep
  after-all v [] r e d = refl
  after-all v (w ∷ ws) r e d =
      run-above (excluded k) w ws (and_right (is_lt (cmp_version v w)) (rises_from cmp_version w ws) r)
      (next-after v w e d (is_lt-lt (cmp_version v w) (and_left (is_lt (cmp_version v w)) (rises_from cmp_version w ws) r)))

  past_end : (vs : Run) → is_run vs ≡ true → all (not_before z) vs ≡ true → without k vs ≡ keep (is_from (excluded k)) vs
  unfolding keep above turned
  past_end [] r a = refl
  past_end (v ∷ vs) r a = go (same_key k v.key) refl
    where
      n : not_before z v ≡ true
      n = all_head (not_before z) v vs a

      go : (b : Bool) → same_key k v.key ≡ b → cond b vs (v ∷ vs) ≡ keep (is_from (excluded k)) (v ∷ vs)
      go true e =
          let f : is_from (excluded k) v ≡ false = ap is_lt (is_same-eq (cmp_key k v.key) e) in
          sym (keep-no (is_from (excluded k)) v vs f ∙ after-all v vs r (end-time v n e) e)
      go false e = sym (run-above (excluded k) v vs r (other_after k t v n e))

  keep-end : (vs : Run) → keep (is_from (excluded k)) (keep (not_before z) vs) ≡ keep (is_from (excluded k)) vs
  keep-end vs =
      sym (keep-both (not_before z) (is_from (excluded k)) vs)
      ∙ keep-alike (λ v. true) (λ v. not_before z v && is_from (excluded k) v) (is_from (excluded k)) (λ v _. go v (is_from (excluded k) v) refl) vs (all-always (λ v. true) (λ v. refl) vs)
    where
      go : (v : Version) (b : Bool) → is_from (excluded k) v ≡ b → not_before z v && is_from (excluded k) v ≡ is_from (excluded k) v
      go v true e = ap (λ b. b && is_from (excluded k) v) (from_end v e)
      go v false e = ap (λ b. not_before z v && b) e ∙ off (not_before z v) ∙ sym e
        where
          off : (b : Bool) → b && false ≡ false
          off true = refl
          off false = refl

  -- an excluded bound
  pub low-excluded : (s : Bytes) (at end m r : ℕ) → RunAt s at end → SoughtAt s z at end m → PastKey s k m end r → LowAt s (excluded k) at end r
  low-excluded s at end m r ok h p =
      let vs = run_in s at end in
      record {
        lies = p.lies;
        kept =
            p.past ∙ ap (without k) h.kept
            ∙ past_end (keep (not_before z) vs) (keep-rises cmp_version version-order (not_before z) vs (run-rises s at end ok)) (all-kept (not_before z) vs)
            ∙ keep-end vs;
      }

-- no bound
pub low-unbounded : (s : Bytes) (at end : ℕ) → RunAt s at end → LowAt s unbounded at end at
unfolding above
low-unbounded s at end ok = record { lies = ok; kept = sym (keep_all (is_from unbounded) (run_in s at end) (all-always (is_from unbounded) (λ v. refl) (run_in s at end))) }

-- ---- a cursor
pub cursor-run : (s : Bytes) (c : Cursor) → lawful s c ≡ true → RunAt s c.at c.end
cursor-run s c h = let l = lawful-is s c h in record { order = l.order; inside = l.inside; whole = l.whole }

pub cursor-low : (s : Bytes) (lo : Bound) (c : Cursor) (r : ℕ) → lawful s c ≡ true → LowAt s lo c.at c.end r → Sought s lo c (record { at = r; end = c.end; run = c.run })
cursor-low s lo c r h k =
    record {
      lawfully =
          is_lawful s (record { at = r; end = c.end; run = c.run })
          (record { order = k.lies.order; inside = k.lies.inside; run = (lawful-is s c h).run; whole = k.lies.whole });
      run = refl;
      end = refl;
      kept = k.kept;
    }

-- ---- all of them
pub sought-more : (s : Bytes) (lo : Bound) (cs rs : List Cursor) (i : ℕ) (d : Cursor) → i < length cs → i < length rs
    → AllSought s lo (take i cs) (take i rs) → Sought s lo (get_or cs i nowhere) d → AllSought s lo (take (i + 1) cs) (take (i + 1) (set rs i d))
unfolding all
sought-more s lo cs rs i d h k a o =
    let e : take (i + 1) cs ≡ take i cs ++ (get_or cs i nowhere ∷ []) = rw add-one (take-suc cs i nowhere h) in
    let f : take (i + 1) (set rs i d) ≡ take i rs ++ (d ∷ []) = rw add-one (take-suc-set rs i d k) in
    rw (e, f)
    (record {
      lawfully = all_append (lawful s) (take i rs) (d ∷ []) a.lawfully (and_intro o.lawfully refl);
      runs = map-append (λ c. c.run) (take i rs) (d ∷ []) ∙ ap₂ {C = List ℕ} (λ x y. x ++ (y ∷ [])) a.runs o.run ∙ sym (map-append (λ c. c.run) (take i cs) (get_or cs i nowhere ∷ []));
      kept =
          map-append (left s) (take i rs) (d ∷ []) ∙ ap₂ {C = List Run} (λ x y. x ++ (y ∷ [])) a.kept o.kept
          ∙ sym (map-append (λ c. keep (is_from lo) (left s c)) (take i cs) (get_or cs i nowhere ∷ []));
    })

same-order : (b : ℕ) (cs rs : List Cursor) → map (λ (c : Cursor). c.run) rs ≡ map (λ (c : Cursor). c.run) cs → in_order b rs ≡ in_order b cs
unfolding in_order
same-order b [] [] e = refl
same-order b [] (r ∷ rs) e = cc
same-order b (c ∷ cs) [] e = cc
same-order b (c ∷ cs) (r ∷ rs) e = ap₂ (λ (x : ℕ) (y : Bool). eqb x b && y) (head-eq_of_cons-eq e) (same-order (suc b) cs rs (tail-eq_of_cons-eq e))

map-twice : (s : Bytes) (lo : Bound) (cs : List Cursor) → map (λ c. keep (is_from lo) (left s c)) cs ≡ map (keep (is_from lo)) (map (left s) cs)
map-twice s lo [] = refl
map-twice s lo (c ∷ cs) = ap {B = List Run} (λ l. keep (is_from lo) (left s c) ∷ l) (map-twice s lo cs)

module _ (s : Bytes) (lo : Bound) (cs rs : List Cursor) (a : AllSought s lo cs rs) where
  pub sought-order : in_order 0 cs ≡ true → in_order 0 rs ≡ true
  sought-order o = same-order 0 cs rs a.runs ∙ o

  -- the merge from the bound on
  pub sought-merge : merge (map (left s) rs) ≡ keep (is_from lo) (merge (map (left s) cs))
  sought-merge =
      ap merge (a.kept ∙ map-twice s lo cs)
      ∙ merge-keep (is_from lo) (λ v w e. ap (above lo) (same_key_lem v w e)) (map (left s) cs)
